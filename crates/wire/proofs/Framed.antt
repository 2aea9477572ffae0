-- The items of the real bytes.
use Rattle.std.proofs.Common.{◌≡◌, refl, sym, ◌∙◌, ap, ℕ, zero, suc, ◌+◌, ◌-◌, ◌<◌, ◌≤◌, Bool, cond, true, false, leb, Option, Some, None, option_to_list, Result, Ok, Err, List, [], ◌∷◌, ◌++◌, length, take, drop, arith, append_assoc, length-append, length-drop, if◌then◌else◌}
use Rattle.std.proofs.lemmas.List.{take-append-drop, take-append-le}
use Rattle.std.proofs.Math.Seq.{take-append-add}
use Rattle.std.proofs.lemmas.Bool.Decides.{nat_tests}
use Rattle.wire.specs.declared.items.Fed.{Fed}
use Rattle.wire.specs.declared.faults.WireFault.{WireFault}
use Rattle.wire.specs.declared.faults.WireFault.TheVariants as fault
use Rattle.wire.specs.Prelude.{Unfinished, fresh, Step, goes, ends, refused, after_limit, next, item_of, Answered, answer_from, later, Seen, on_next, items_of, IsTold, header_bytes, written_run, Took, state, outputs, one_more, ends_at, takes, Item, Opening, Noop, Message, TooBig, item_at_end, item_at, chunks, item_bytes, bytes_in_order, within, CanCome, AllCome, item_in, took_by, arrivals, refusal, AnswersTake, ReadsItems}
use Rattle.wire.specs.Items as items
use Rattle.wire.specs.Framing.{after_step}
use Rattle.wire.proofs.Limits.{next_case, IsOpen, next-open}
use Rattle.wire.proofs.Streams.{answer_from-facts}
use Rattle.wire.proofs.Grammar.{reads_back}
use Rattle.wire.proofs.Readers.{outputs-append, state-append}

-- nothing is read of a message that was refused
state-gone : (body bytes : List ℕ) → state chunks (after_limit body) bytes ≡ after_limit body
state-gone body [] = refl
state-gone body (b ∷ bytes) = state-gone body bytes

outputs-gone : (body bytes : List ℕ) → outputs chunks (after_limit body) bytes ≡ []
outputs-gone body [] = refl
outputs-gone body (b ∷ bytes) = outputs-gone body bytes

-- what is kept is the unfinished item
state-items : (s : Unfinished) (bytes : List ℕ) → state chunks s bytes ≡ (items_of s bytes).rest
state-items s [] = refl
state-items s (b ∷ bytes) = elim (next s b) as (λ n. state chunks (after_step n) bytes ≡ (on_next n (λ t. items_of t bytes)).rest) [
  | goes t ↦ state-items t bytes
  | ends body ↦ state-items fresh bytes
  | refused body ↦ state-gone body bytes
]

in-item_of : (body : List ℕ) → item_in (item_of body) ≡ Some (item_at_end body)
in-item_of [] = refl
in-item_of (x ∷ xs) = refl

-- the item of a byte, where no message was refused
item-open : (s : Unfinished) (b : ℕ) → s.too_big ≡ false → chunks.item s b ≡ item_at (next s b)
item-open s b e = ap (λ z. cond z None (item_at (next s b))) e

outputs-items : (s : Unfinished) (bytes : List ℕ) → s.too_big ≡ false → outputs chunks s bytes ≡ arrivals (items_of s bytes).items ++ refusal (items_of s bytes).rest
outputs-items s [] e = sym (ap (λ z. cond z (TooBig ∷ []) []) e)
outputs-items s (b ∷ bytes) e = ap (λ o. option_to_list o ++ outputs chunks (after_step (next s b)) bytes) (item-open s b e)
    ∙ (elim (next s b) as (λ n. IsOpen n → option_to_list (item_at n) ++ outputs chunks (after_step n) bytes ≡ arrivals (on_next n (λ t. items_of t bytes)).items ++ refusal (on_next n (λ t. items_of t bytes)).rest) [
      | goes t ↦ λ o. outputs-items t bytes o
      | ends body ↦ λ o. ap (λ l. item_at_end body ∷ l) (outputs-items fresh bytes refl) ∙ ap (λ i. option_to_list i ++ (arrivals (items_of fresh bytes).items ++ refusal (items_of fresh bytes).rest)) (sym (in-item_of body))
          ∙ sym (append_assoc (option_to_list (item_in (item_of body))) (arrivals (items_of fresh bytes).items) (refusal (items_of fresh bytes).rest))
      | refused body ↦ λ o. ap (λ l. TooBig ∷ l) (outputs-gone body bytes)
    ]) (next-open s b)

pub reads_items : ReadsItems
reads_items bytes = (outputs-items fresh bytes refl, state-items fresh bytes)

-- a feed's answer is what the reader takes
took-goes : (a : Result Fed WireFault) (rest : Unfinished) → IsTold a → one_more (took_by a rest) ≡ took_by (later 1 a) rest
took-goes (Ok fed) rest h = ap (λ (n : ℕ). let t : Took Unfinished Item = record { used = n; item = item_in fed.what; rest = rest } in t) (omega arith)
took-goes (Err (fault.TooBig used)) rest h = ap (λ (n : ℕ). let t : Took Unfinished Item = record { used = n; item = Some TooBig; rest = rest } in t) (omega arith)
took-goes (Err fault.Memory) rest h = absurd h

takes-from : (s : Unfinished) (bytes : List ℕ) → s.too_big ≡ false → takes chunks s bytes ≡ took_by (answer_from s bytes).answer (answer_from s bytes).rest
takes-from s [] e = refl
takes-from s (b ∷ bytes) e = ap (λ o. ends_at (after_step (next s b)) o (takes chunks (after_step (next s b)) bytes)) (item-open s b e)
    ∙ (elim (next s b) as (λ n. IsOpen n → ends_at (after_step n) (item_at n) (takes chunks (after_step n) bytes) ≡ took_by (items.after_step n (λ t. answer_from t bytes)).answer (items.after_step n (λ t. answer_from t bytes)).rest) [
      | goes t ↦ λ o. ap one_more (takes-from t bytes o) ∙ took-goes (answer_from t bytes).answer (answer_from t bytes).rest (answer_from-facts t bytes).told
      | ends body ↦ λ o. ap (λ i. let t : Took Unfinished Item = record { used = 1; item = i; rest = fresh } in t) (sym (in-item_of body))
      | refused body ↦ λ o. refl
    ]) (next-open s b)

pub answers_take : AnswersTake
answers_take s bytes e =
    takes-from s bytes e ∙ sym (ap (λ z. let c : Answered = cond z (record { answer = Err (fault.TooBig 0); rest = s }) (answer_from s bytes) in took_by c.answer c.rest) e)

-- how much an unfinished item holds: nothing only before its first byte
abbrev weight : Unfinished → ℕ
weight s = length s.body + s.lacks + header_bytes s.header + (if s.too_big then 1 else 0)

abbrev IsHeavy : Step → Type 0
IsHeavy (goes t) = 0 < weight t
IsHeavy n = Unit {0}

next-heavy : (s : Unfinished) (byte : ℕ) → IsHeavy (next s byte)
next-heavy s byte = next_case IsHeavy s byte tt tt (omega arith) (λ some. omega (arith, length-append s.body (byte ∷ []))) (λ n some fits. omega arith)

-- bytes that complete nothing leave something unfinished
quiet_step : (n : Step) → IsHeavy n → (z : Bool) → (z ≡ true → (body : List ℕ) × (n ≡ refused body)) → cond z None (item_at n) ≡ None → 0 < weight (after_step n)
quiet_step (goes t) h z f e = h
quiet_step (refused body) h z f e = omega arith
quiet_step (ends body) h true f e = let p = f refl in cc (p.1)
quiet_step (ends body) h false f e = cc

quiet_byte : (s : Unfinished) (b : ℕ) → chunks.item s b ≡ None → 0 < weight (chunks.byte s b)
quiet_byte s b e = quiet_step (next s b) (next-heavy s b) s.too_big (λ z. (s.body, rw z refl)) e

no_item : (o : Option Item) (xs : List Item) → option_to_list o ++ xs ≡ [] → o ≡ None
no_item None xs e = refl
no_item (Some x) xs e = cc

quiet_heavy : (s : Unfinished) (b : ℕ) (bs : List ℕ) → outputs chunks s (b ∷ bs) ≡ [] → 0 < weight (state chunks s (b ∷ bs))
quiet_heavy s b [] e = quiet_byte s b (no_item (chunks.item s b) [] e)
quiet_heavy s b (c ∷ cs) e =
    let none : chunks.item s b ≡ None = no_item (chunks.item s b) (outputs chunks (chunks.byte s b) (c ∷ cs)) e in
    quiet_heavy (chunks.byte s b) c cs (ap (λ o. option_to_list o ++ outputs chunks (chunks.byte s b) (c ∷ cs)) (sym none) ∙ e)

pub only_last : (s : Unfinished) (bytes : List ℕ) → outputs chunks s bytes ≡ [] → state chunks s bytes ≡ fresh → length bytes ≡ 0
only_last s [] e f = refl
only_last s (b ∷ bs) e f =
    let heavy : 0 < weight (state chunks s (b ∷ bs)) = quiet_heavy s b bs e in
    let light : weight (state chunks s (b ∷ bs)) ≡ 0 = ap weight f in
    absurd (omega arith)

-- an item comes with the last of its bytes
pub front_quiet : (bytes : List ℕ) (x : Item) → outputs chunks fresh bytes ≡ x ∷ [] → state chunks fresh bytes ≡ fresh → (n : ℕ) → n < length bytes → outputs chunks fresh (take n bytes) ≡ []
front_quiet bytes x one end n h = go (outputs chunks fresh (take n bytes)) refl
  where
    s : Unfinished
    s = state chunks fresh (take n bytes)

    whole : outputs chunks fresh (take n bytes) ++ outputs chunks s (drop n bytes) ≡ x ∷ []
    whole = sym (outputs-append Unfinished Item chunks fresh (take n bytes) (drop n bytes)) ∙ ap (outputs chunks fresh) (take-append-drop n bytes) ∙ one

    last : state chunks s (drop n bytes) ≡ fresh
    last = sym (state-append Unfinished Item chunks fresh (take n bytes) (drop n bytes)) ∙ ap (state chunks fresh) (take-append-drop n bytes) ∙ end

    left : outputs chunks s (drop n bytes) ≡ [] → length (drop n bytes) ≡ 0
    left e = only_last s (drop n bytes) e last

    tail_none : (y : Item) (ys zs : List Item) → (y ∷ ys) ++ zs ≡ x ∷ [] → zs ≡ []
    tail_none y [] zs e = cc
    tail_none y (w ∷ ys) zs e = cc

    go : (found : List Item) → outputs chunks fresh (take n bytes) ≡ found → found ≡ []
    go [] e = refl
    go (y ∷ ys) e =
        let none : length (drop n bytes) ≡ 0 = left (tail_none y ys (outputs chunks s (drop n bytes)) (ap (λ l. l ++ outputs chunks s (drop n bytes)) (sym e) ∙ whole)) in
        absurd (omega (arith, length-drop n bytes))

-- the bytes of what can come are read as it
pub text_read : (x : Item) → CanCome x → (outputs chunks fresh (item_bytes x) ≡ x ∷ []) × (state chunks fresh (item_bytes x) ≡ fresh)
text_read (Opening bytes) h = absurd h
text_read Noop h = (refl, refl)
text_read (Message m) h =
    let e = reads_back m h.0 h.1 in
    (outputs-items fresh (written_run m) refl ∙ ap (λ (x : Seen). arrivals x.items ++ refusal x.rest) e, state-items fresh (written_run m) ∙ ap (λ (x : Seen). x.rest) e)
text_read TooBig h = absurd h

-- the items of a front of items' bytes
take_none : (n : ℕ) → take {A = ℕ} n [] ≡ []
take_none zero = refl
take_none (suc n) = refl

pub fronts_within : (xs : List Item) (n : ℕ) → AllCome xs → outputs chunks fresh (take n (bytes_in_order item_bytes xs)) ≡ within item_bytes n xs
fronts_within [] n h = ap (outputs chunks fresh) (take_none n)
fronts_within (x ∷ xs) n h = elim (leb (length (item_bytes x)) n) as (λ b. leb (length (item_bytes x)) n ≡ b → outputs chunks fresh (take n (item_bytes x ++ bytes_in_order item_bytes xs)) ≡ cond b (x ∷ within item_bytes (n - length (item_bytes x)) xs) []) [
  | true ↦ λ e.
      let fits : length (item_bytes x) ≤ n = grind (arith, nat_tests, e) in
      let is : n ≡ length (item_bytes x) + (n - length (item_bytes x)) = omega arith in
      let rest : List ℕ = take (n - length (item_bytes x)) (bytes_in_order item_bytes xs) in
      let read = text_read x h.0 in
      ap (λ k. outputs chunks fresh (take k (item_bytes x ++ bytes_in_order item_bytes xs))) is
      ∙ ap (outputs chunks fresh) (take-append-add (item_bytes x) (bytes_in_order item_bytes xs) (n - length (item_bytes x)))
      ∙ outputs-append Unfinished Item chunks fresh (item_bytes x) rest
      ∙ ap (λ l. l ++ outputs chunks (state chunks fresh (item_bytes x)) rest) read.0
      ∙ ap (λ s. x ∷ outputs chunks s rest) read.1
      ∙ ap (λ l. x ∷ l) (fronts_within xs (n - length (item_bytes x)) h.1)
  | false ↦ λ e.
      let short : n < length (item_bytes x) = grind (arith, nat_tests, e) in
      let read = text_read x h.0 in
      ap (outputs chunks fresh) (take-append-le n (item_bytes x) (bytes_in_order item_bytes xs) (omega arith)) ∙ front_quiet (item_bytes x) x read.0 read.1 n short
] refl
