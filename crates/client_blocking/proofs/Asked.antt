-- What comes of asking: the output that is written, the bytes that are read, and the end.
use Rattle.std.proofs.Common.{◌≡◌, refl, sym, ◌∙◌, ap, subst, ℕ, ◌<◌, ◌≤◌, Bool, true, false, Option, Some, None, Result, Ok, Err, List, [], ◌++◌, length, take, drop, append_assoc, append-nil, true≢false, ◌⊎◌, inl, inr, ⊎_elim, arith, not, ◌&&◌, ◌==◌, IfErr}
use Rattle.std.specs.Result.{result_err}
use Rattle.std.specs.Io.KnownBytes.{Consumes, IsAtEnd}
use Rattle.std.proofs.lemmas.Bool.Decides.{nat_tests}
use Rattle.std.proofs.Math.Bool.{and-false}
use Rattle.std.proofs.Math.Seq.{drop-length}
use Rattle.client.specs.declared.Outcome.{Outcome}
use Rattle.client.specs.Prelude.{Knows, Note, Rest, losses, after_drop, taken_out, awaits}
use Rattle.streams.specs.declared.fault.StreamFault.{StreamFault}
use Rattle.streams.specs.declared.fault.StreamFault.TheVariants as stream_fault
use Rattle.streams.specs.Prelude.{Grows, UnlessTold}
use Rattle.wire.specs.Prelude.{at_client, outputs}
use Rattle.client_blocking.specs.Prelude.{SourceView, SinkView, GivesBytes, PutsBytes, hears_all, after_all, FeedsPiece, HearsPiece, IsAwaited, IsNeeded, ReadsEnd, ReadsOn, ReadsPiece, ReadsAll, Writes, Asks, Tale, all_answered, GivesUp}
use Rattle.streams.proofs.Parts.{take_short}
use Rattle.client_blocking.proofs.Views.{gives_nil, gives_trans}
use Rattle.std.proofs.lemmas.List.{append_cancel_left}
use Rattle.client_blocking.proofs.Tales.{over_tale, hears_all-append, after_all-append, notes_then}

-- After as many bytes as the output has were taken out, nothing of it is left.
pub all_sent : (xs out : List ℕ) (n : ℕ) → out ≡ xs → n ≡ length out → (IsSo : List ℕ → Type 0) → IsSo out → IsSo xs × (drop n xs ≡ [])
all_sent xs out n e l IsSo so = (subst IsSo e so, subst (λ (z : ℕ). drop z xs ≡ []) (sym (l ∙ ap length e)) (drop-length xs))

-- A read of fewer bytes than were asked for has read all that there is.
pub all_taken : (n : ℕ) (xs bytes : List ℕ) → bytes ≡ take n xs → length bytes < n → (bytes ≡ xs) × (drop n xs ≡ [])
all_taken n xs bytes e l = let t = take_short n xs (subst (λ (z : List ℕ). length z < n) e l) in (e ∙ t.0, t.1)

pub unanswered_awaits : (k : Knows) → awaits k ≡ true → all_answered k ≡ false
unanswered_awaits k e = rw e refl

pub unanswered_waits : (k : Knows) → 0 < length k.waiting → all_answered k ≡ false
unanswered_waits k l =
    let some : (length k.waiting == 0) ≡ false = grind (arith, nat_tests) in
    ap (λ b. not (awaits k) && b) some ∙ and-false (not (awaits k))

pub loses : (r : Rest) (Now : Rest → Type 0) (lost : List (ℕ × Outcome)) → all_answered r.knows ≡ false → (lost ≡ losses r.knows) × Now (after_drop r) → GivesUp Now lost r
loses r Now lost e h = rw e (h.1, h.0)

pub reads_none : (r : Rest) (from : SourceView) (before : List Note) (Now : Rest → Type 0) → Now r → ReadsOn r from from before before Now
reads_none r from before Now now = record { fed = []; unheard = []; input = gives_nil from; told = sym (append-nil before); now = now; needed = inl refl; whole = inl refl }

pub awaits_open : (k : Knows) → awaits k ≡ true → k.over ≡ true → ⊥
awaits_open k e o = let f : awaits k ≡ false = rw o refl in true≢false (sym e ∙ f)

module _ {r : Rest} {from mid : SourceView} {before notes : List Note} {Was : Rest → Type 0} (so : ReadsOn r from mid before notes Was) where
  -- All that was read so far was fed, if an answer is still to come.
  all_fed : awaits (hears_all r so.fed).knows ≡ true → so.fed ++ so.unheard ≡ so.fed
  all_fed waits =
      let none : so.unheard ≡ [] = ⊎_elim (λ e. e) (λ o. absurd (awaits_open (hears_all r so.fed).knows waits o)) so.whole in
      ap (λ l. so.fed ++ l) none ∙ append-nil so.fed

  pub is_awaited : awaits (hears_all r so.fed).knows ≡ true → IsAwaited r from.left mid.left
  is_awaited waits = (so.fed, subst (Consumes from.left mid.left) (all_fed waits) so.input.known, waits)

  -- it stops
  stops : (to : SourceView) (after : List Note) (Now : Rest → Type 0) (fault : Option StreamFault) → after ≡ notes → Now (after_all r so.fed) → GivesBytes mid to [] → (fault ≡ None → IsAtEnd to.left ⊎ (awaits (hears_all r so.fed).knows ≡ false)) → ReadsAll r from to before after Now fault
  stops to after Now fault e now h ends = record {
    fed = so.fed;
    unheard = so.unheard;
    input = subst (GivesBytes from to) (append-nil (so.fed ++ so.unheard)) (gives_trans from mid to (so.fed ++ so.unheard) [] so.input h);
    told = e ∙ so.told;
    now = now;
    needed = so.needed;
    whole = λ _. so.whole;
    ends = ends;
  }

  pub stops_waiting : awaits (hears_all r so.fed).knows ≡ false → ReadsAll r from mid before notes Was None
  stops_waiting e = stops mid notes Was None refl so.now (gives_nil mid) (λ _. inr e)

  -- a piece more, while an answer is still to come
  module _ (to : SourceView) (piece : List ℕ) (after : List Note) (whole : Bool) (Now : Rest → Type 0) (waits : awaits (hears_all r so.fed).knows ≡ true) (short : length piece ≤ 4096) (read : GivesBytes mid to piece) (f : FeedsPiece (after_all r so.fed) piece notes after whole Now) where
    all_read : so.fed ++ piece ≡ (so.fed ++ f.fed) ++ f.unheard
    all_read = ap (λ l. so.fed ++ l) f.parts ∙ sym (append_assoc so.fed f.fed f.unheard)

    input_more : GivesBytes from to ((so.fed ++ f.fed) ++ f.unheard)
    input_more = subst (GivesBytes from to) (ap (λ l. l ++ piece) (all_fed waits) ∙ all_read) (gives_trans from mid to (so.fed ++ so.unheard) piece so.input read)

    told_more : after ≡ before ++ (hears_all r (so.fed ++ f.fed)).notes
    told_more = notes_then r so.fed f.fed before notes after so.told f.told

    needed_more : IsNeeded r ((so.fed ++ f.fed) ++ f.unheard)
    needed_more = inr (record { before = so.fed; last = piece; parts = sym all_read; short = short; waits = waits })

    now_more : Now (after_all r (so.fed ++ f.fed))
    now_more = subst Now (sym (after_all-append r so.fed f.fed)) f.now

    reads_more : whole ≡ true → ReadsOn r from to before after Now
    reads_more e =
        let ends = ⊎_elim inl (λ o. inr (ap (λ t. t.knows.over) (hears_all-append r so.fed f.fed) ∙ o)) (f.ends e) in
        record { fed = so.fed ++ f.fed; unheard = f.unheard; input = input_more; told = told_more; now = now_more; needed = needed_more; whole = ends }

    reads_broken : ReadsAll r from to before after Now (Some stream_fault.Memory)
    reads_broken = record {
      fed = so.fed ++ f.fed;
      unheard = f.unheard;
      input = input_more;
      told = told_more;
      now = now_more;
      needed = needed_more;
      whole = λ n. absurd (n refl);
      ends = λ e. absurd cc;
    }

  -- what a reading of one piece makes of the reading so far
  pub hears_more : {to : SourceView} {after : List Note} {Now : Rest → Type 0} → awaits (hears_all r so.fed).knows ≡ true → ReadsPiece (after_all r so.fed) mid to notes after true Now → ReadsOn r from to before after Now
  hears_more {to = to} {after = after} {Now = Now} waits h = reads_more to h.piece after true Now waits h.short h.input h.feeds refl

  pub hears_end : {to : SourceView} {after : List Note} {Now : Rest → Type 0} → ReadsEnd (after_all r so.fed) mid to notes after Now → ReadsAll r from to before after Now None
  hears_end {to = to} {after = after} {Now = Now} h = stops to after Now None h.told h.now h.input (λ _. inl h.at_end)

  pub hears_fault : (to : SourceView) (after : List Note) (Now : Rest → Type 0) (fault : StreamFault) → awaits (hears_all r so.fed).knows ≡ true → HearsPiece (after_all r so.fed) mid to notes after Now (Err fault) → ReadsAll r from to before after Now (Some fault)
  hears_fault to after Now stream_fault.ReadFailed waits h = stops to after Now (Some stream_fault.ReadFailed) h.told h.now h.input (λ e. absurd cc)
  hears_fault to after Now stream_fault.WriteFailed waits h = absurd h
  hears_fault to after Now stream_fault.Memory waits h = reads_broken to h.piece after false Now waits h.short h.input h.feeds

-- what was answered, by a test of it
pub unless_err : {T E : Type 0} (x : Result T E) (f : E) (So : Type 0) → UnlessTold x f So → (result_err x ≡ Some f → ⊥) → So
unless_err (Ok t) f So h n = h
unless_err (Err e) f So h n = h (λ q. n (ap Some q))

-- Unless memory ran out, the client's notes are those of all that the source gave.
pub told_by_given : {r : Rest} {from to : SourceView} {a b : SinkView} {before after : List Note} {Now : Rest → Type 0} {fault : Option StreamFault}
    → Asks r from to a b before after Now fault → (fault ≡ Some stream_fault.Memory → ⊥) → (bytes : List ℕ) → Grows from.given to.given bytes
    → after ≡ before ++ (hears_all r bytes).notes
told_by_given {r = r} {from = from} {before = before} asks never bytes grows =
    let fed = asks.fed in
    let later = outputs at_client (after_all r fed).item asks.unheard in
    let all : fed ++ asks.unheard ≡ bytes = append_cancel_left from.given (fed ++ asks.unheard) bytes (sym asks.input.grows ∙ grows) in
    let none = λ (e : asks.unheard ≡ []). ap (λ (l : List ℕ). (hears_all r l).notes) (sym (append-nil fed) ∙ ap (λ (l : List ℕ). fed ++ l) (sym e)) in
    let over = λ (o : (hears_all r fed).knows.over ≡ true).
    sym (append-nil (hears_all r fed).notes) ∙ ap (λ (t : Tale). (hears_all r fed).notes ++ t.notes) (sym (over_tale r.wish (hears_all r fed).knows later o))
    ∙ ap (λ (t : Tale). t.notes) (sym (hears_all-append r fed asks.unheard)) in
    asks.told ∙ ap (λ (l : List Note). before ++ l) (⊎_elim none over (asks.whole never) ∙ ap (λ (l : List ℕ). (hears_all r l).notes) all)

-- Unless the sink failed, it took all of the output.
pub all_put : (out : List ℕ) (n : ℕ) (fault : Option StreamFault) (a b : SinkView) → Writes out n fault a b → (fault ≡ Some stream_fault.WriteFailed → ⊥) → Grows a.put b.put out
all_put out n None a b h never = h.0.grows
all_put out n (Some stream_fault.ReadFailed) a b h never = h.0.grows
all_put out n (Some stream_fault.WriteFailed) a b h never = absurd (never refl)
all_put out n (Some stream_fault.Memory) a b h never = h.0.grows

-- All of the output was written, whatever fault came after it, unless the sink failed.
pub written_all : (out : List ℕ) (n : ℕ) (x : Result (Unit {0}) StreamFault) (a b : SinkView) → IfErr x (λ e. e ≡ stream_fault.WriteFailed → ⊥) → PutsBytes a b out × (drop n out ≡ []) → Writes out n (result_err x) a b
written_all out n (Err stream_fault.WriteFailed) a b never h = absurd (never refl)
written_all out n (Err stream_fault.Memory) a b never h = h
written_all out n (Err stream_fault.ReadFailed) a b never h = h
written_all out n (Ok t) a b never h = h

-- bytes that are taken out change nothing of what was needed
pub needed_taken : (r : Rest) (n : ℕ) (bytes : List ℕ) → IsNeeded (taken_out r n) bytes → IsNeeded r bytes
needed_taken r n bytes (inl none) = inl none
needed_taken r n bytes (inr piece) =
    inr (record { before = piece.before; last = piece.last; parts = piece.parts; short = piece.short; waits = piece.waits })
