-- The whole messages of bytes are those of the longest front that no-ops and runs cover.
use Rattle.std.proofs.Common.{◌≡◌, ℕ, ◌+◌, ◌-◌, ◌*◌, ◌<◌, ◌≤◌, List, [], ◌∷◌, ◌++◌, length, take, drop, true, false, eqb, ltb, None, inl, inr, refl, sym, ap, subst, ◌∙◌, append_assoc, append-nil, length-append, length-take, arith, map, flat_map}
use Rattle.std.proofs.lemmas.List.{nil_from_length, take-append-drop, append_cancel_left}
use Rattle.std.proofs.Math.Seq.{take-append_seam, take-append-add}
use Rattle.std.proofs.lemmas.Bool.{cases_lt}
use Rattle.std.proofs.lemmas.Bool.Decides.{nat_tests}
use Rattle.wire.specs.declared.items.Piece.{Piece}
use Rattle.wire.specs.declared.items.Piece.TheVariants.{Message}
use Rattle.wire.specs.Prelude.{fresh, open_at, item_of, chunk_of, run_of, written_run, AreChunks, body_of, AreRuns, messages_of, Texts, IsWhole, Seen, before, items_of, Splits, messages, whole, ReadsMessages, ReadsWhole, OneWhole, RefusesPast, BeginsNone, arrivals, refusal}
use Rattle.wire.proofs.Streams.{items_of_append}
use Rattle.wire.proofs.Framed.{only_last, reads_items}
use Rattle.wire.proofs.Grammar.{reads_texts, reads_back, items_of-chunk}
use Rattle.wire.proofs.Whole.{splits_into_runs, past_where}

-- bytes that end nothing and leave nothing unfinished are none
only_nothing : (bytes : List ℕ) → (items_of fresh bytes).items ≡ [] → (items_of fresh bytes).rest ≡ fresh → bytes ≡ []
only_nothing bytes none rest =
    let read = reads_items bytes in
    nil_from_length bytes (only_last fresh bytes (read.0 ∙ ap (λ i. arrivals i ++ refusal (items_of fresh bytes).rest) none ∙ ap refusal rest) (read.1 ∙ rest))

-- the items of runs are their messages and no-ops
messages-runs : (runs : List (List (List ℕ))) → AreRuns runs → messages (map (λ run. item_of (body_of run)) runs) ≡ messages_of runs
messages-runs [] h = refl
messages-runs ([] ∷ runs) h = messages-runs runs h.1
messages-runs (([] ∷ cs) ∷ runs) h = absurd (omega (arith, h.0.0.0.0))
messages-runs (((x ∷ xs) ∷ cs) ∷ runs) h = ap (λ l. ((x ∷ xs) ++ body_of cs) ∷ l) (messages-runs runs h.1)

pub reads_messages : ReadsMessages
reads_messages ms bytes t =
    let e : items_of fresh bytes ≡ record { items = map (λ run. item_of (body_of run)) t.runs; rest = fresh } = ap (items_of fresh) t.whole ∙ reads_texts t.runs t.sound in
    (ap (λ (x : Seen). messages x.items) e ∙ messages-runs t.runs t.sound ∙ sym t.messages, ap (λ (x : Seen). x.rest) e)

pub nil_left : {A : Type 0} (xs ys : List A) → xs ++ ys ≡ [] → xs ≡ []
nil_left [] ys e = refl
nil_left (x ∷ xs) ys e = cc

pub nil_right : {A : Type 0} (xs ys : List A) → xs ++ ys ≡ xs → ys ≡ []
nil_right xs ys e = append_cancel_left xs ys [] (e ∙ sym (append-nil xs))

-- nothing longer is covered
module _ (bytes : List ℕ) (runs : List (List (List ℕ))) (tail : List ℕ) (sound : AreRuns runs) (split : bytes ≡ flat_map run_of runs ++ tail) (items : (items_of fresh bytes).items ≡ map (λ run. item_of (body_of run)) runs) where
  abbrev F : List ℕ
  F = flat_map run_of runs

  read_front : (t : List ℕ) → items_of fresh (F ++ t) ≡ before (map (λ run. item_of (body_of run)) runs) (items_of fresh t)
  read_front t = items_of_append fresh F t ∙ ap (λ (x : Seen). before x.items (items_of x.rest t)) (reads_texts runs sound)

  none_left : (items_of fresh tail).items ≡ []
  none_left = nil_right (map (λ run. item_of (body_of run)) runs) (items_of fresh tail).items (sym (ap (λ b. (items_of fresh b).items) split ∙ ap (λ (x : Seen). x.items) (read_front tail)) ∙ items)

  none_in : (k : ℕ) → (items_of fresh (take k tail)).items ≡ []
  none_in k = nil_left (items_of fresh (take k tail)).items (items_of (items_of fresh (take k tail)).rest (drop k tail)).items
      (ap (λ (x : Seen). x.items) (sym (items_of_append fresh (take k tail) (drop k tail))) ∙ ap (λ b. (items_of fresh b).items) (take-append-drop k tail) ∙ none_left)

  no_longer : (k : ℕ) (others : List (List ℕ)) → Texts others (take (length F + k) bytes) → take k tail ≡ []
  no_longer k others t =
      let front : take (length F + k) bytes ≡ F ++ take k tail = ap (take (length F + k)) split ∙ take-append-add F tail k in
      let end : (items_of fresh (F ++ take k tail)).rest ≡ fresh = ap (λ b. (items_of fresh b).rest) (sym front) ∙ (reads_messages others (take (length F + k) bytes) t).1 in
      only_nothing (take k tail) (none_in k) (sym (ap (λ (x : Seen). x.rest) (read_front (take k tail))) ∙ end)

  longest : (n : ℕ) (others : List (List ℕ)) → n ≤ length bytes → Texts others (take n bytes) → n ≤ length F
  longest n others h t =
      elim (cases_lt (length F) n) [
        | inl over ↦
            let is : n ≡ length F + (n - length F) = omega arith in
            let none = ap length (no_longer (n - length F) others (subst (λ m. Texts others (take m bytes)) is t)) in
            omega (arith, ap length split, length-append F tail, none, length-take (n - length F) tail)
        | inr le ↦ le
      ]

  front_whole : IsWhole (whole bytes) bytes
  front_whole = record {
    front = length F;
    within = omega (arith, ap length split, length-append F tail);
    texts = record {
      runs = runs;
      sound = sound;
      messages = ap messages items ∙ messages-runs runs sound;
      whole = ap (take (length F)) split ∙ take-append_seam F tail;
    };
    longest = longest;
  }

pub reads_whole : ReadsWhole
reads_whole bytes h =
    let p : Splits bytes = splits_into_runs bytes h in
    front_whole bytes p.runs p.tail p.sound p.whole p.items

-- the longest front is one
pub one_whole : OneWhole
one_whole ms bytes h w =
    let v : IsWhole (whole bytes) bytes = reads_whole bytes h in
    let up : v.front ≤ w.front = w.longest v.front (whole bytes) v.within v.texts in
    let down : w.front ≤ v.front = v.longest w.front ms w.within w.texts in
    let same : w.front ≡ v.front = omega arith in
    sym (reads_messages ms (take w.front bytes) w.texts).0 ∙ ap (λ n. whole (take n bytes)) same ∙ (reads_messages (whole bytes) (take v.front bytes) v.texts).0

-- a header that takes a message past the limit is refused
past_header : (body : List ℕ) (high low : ℕ) (more : List ℕ) → length body ≤ 65536 → 65536 < length body + (high * 256 + low) → (items_of (open_at body None 0) (high ∷ low ∷ more)).rest.too_big ≡ true
past_header body high low more held over =
    let some : eqb (high * 256 + low) 0 ≡ false = grind (arith, nat_tests) in
    let large : ltb 65536 (length body + (high * 256 + low)) ≡ true = grind (arith, nat_tests) in
    rw (some, large) refl

past_chunks : (cs : List (List ℕ)) (body : List ℕ) (high low : ℕ) (more : List ℕ) → AreChunks cs → length (body ++ body_of cs) ≤ 65536 → 65536 < length (body ++ body_of cs) + (high * 256 + low) → (items_of (open_at body None 0) (flat_map chunk_of cs ++ high ∷ low ∷ more)).rest.too_big ≡ true
past_chunks [] body high low more h held over =
    let e : body ++ [] ≡ body = append-nil body in
    past_header body high low more (rw (← e) held) (rw (← e) over)
past_chunks (c ∷ cs) body high low more h held over =
    let same : (body ++ c) ++ body_of cs ≡ body ++ (c ++ body_of cs) = append_assoc body c (body_of cs) in
    let fits : length body + length c ≤ 65536 = omega (arith, ap length same, length-append (body ++ c) (body_of cs), length-append body c) in
    ap (λ b. (items_of (open_at body None 0) b).rest.too_big) (append_assoc (chunk_of c) (flat_map chunk_of cs) (high ∷ low ∷ more))
    ∙ ap (λ (x : Seen). x.rest.too_big) (items_of-chunk c body (flat_map chunk_of cs ++ high ∷ low ∷ more) h.0.0 h.0.1 fits)
    ∙ past_chunks cs (body ++ c) high low more h.1 (rw same held) (rw same over)

pub refuses_past : RefusesPast
refuses_past bytes h = (
  past_where bytes h,
  λ p.
      ap (λ b. (items_of fresh b).rest.too_big) p.whole
      ∙ ap (λ (x : Seen). x.rest.too_big) (items_of_append fresh (flat_map run_of p.runs) (flat_map chunk_of p.chunks ++ p.high ∷ p.low ∷ p.more))
      ∙ ap (λ (x : Seen). (items_of x.rest (flat_map chunk_of p.chunks ++ p.high ∷ p.low ∷ p.more)).rest.too_big) (reads_texts p.runs p.sound)
      ∙ past_chunks p.chunks [] p.high p.low p.more p.good p.held p.past,
)

-- runs of messages
same_message : (m other : List ℕ) (items : List Piece) → Message other ∷ [] ≡ Message m ∷ items → (m ≡ other) × (items ≡ [])
same_message m other items e = (cc, cc)

pub begins_none : BeginsNone
begins_none m other more some fits some_other fits_other e =
    let one : items_of fresh (written_run m ++ more) ≡ before (Message m ∷ []) (items_of fresh more) =
    items_of_append fresh (written_run m) more ∙ ap (λ (x : Seen). before x.items (items_of x.rest more)) (reads_back m some fits) in
    let both = sym (reads_back other some_other fits_other) ∙ ap (items_of fresh) e ∙ one in
    let same = same_message m other (items_of fresh more).items (ap (λ (x : Seen). x.items) both) in
    (same.0, only_nothing more same.1 (sym (ap (λ (x : Seen). x.rest) both)))
