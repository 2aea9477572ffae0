-- Rows that are owed one after the other, as the steps that write them.
use Rattle.std.proofs.Common.{◌≡◌, ◌<◌, ◌+◌, ◌∙◌, ◌⊎◌, inl, inr, refl, sym, ap, subst, ℕ, zero, suc, true, false, ◌&&◌, ◌==◌, nat_le, List, [], ◌∷◌, ◌++◌, length, length-drop, drop, None, arith}
use Rattle.std.proofs.lemmas.Bool.Decides.{nat_tests}
use Rattle.packstream.specs.Prelude.{Tree}
use Rattle.messages.specs.declared.request.Count.{Count}
use Rattle.messages.specs.Prelude.{RequestView, Arrival, Asked}
use Rattle.machine.specs.declared.states.State.{State}
use Rattle.machine.specs.Prelude.{interruptible}
use Rattle.engine.specs.Prelude.{EntryView}
use Rattle.server_session.specs.declared.kinds.Worked.{Worked}
use Rattle.server_session.specs.declared.kinds.Worked.TheVariants as worked
use Rattle.server_session.specs.Limits.{max_unsent}
use Rattle.server_session.specs.Prelude.{Open, Kept, Step, StepsRow, WritesRows, SendsRow, Steps, Reply, AreOwed, passed, one_less, owes_row, streams, used_up, reset_among, replies, turns, work_kept, worked_of, commit_entries, version_of}
use Rattle.server_session.proofs.Replies.{owed_served, owed_some}
use Rattle.server_session.proofs.Sent.{row_sent}
use Rattle.server_session.proofs.Turns.{turns_served}

-- ---- what is owed

some_left : (rows : List (List Tree)) (i : ℕ) → i < length rows → (length (drop i rows) == 0) ≡ false
some_left rows i l = let n = length-drop i rows in grind (arith, nat_tests)

-- a PULL is owed a row that is left, where its count isn't used up by then
pub owes_next : (s : State) (left : Open) (n : Count) (i : ℕ) → streams s ≡ true → used_up n (i + left.written) ≡ false → i < length left.rows → owes_row s (passed i left) (RequestView.Pull n) ≡ true
owes_next s left n i e u l = rw (e, u, some_left left.rows i l) refl

-- ---- a row that is owed, as a step

pub row_steps : (k l : Kept) (q : RequestView) (later : List Arrival) → k.ended ≡ None → nat_le max_unsent (length k.unsent) ≡ false → k.waiting ≡ Asked q ∷ later → (reset_among k.waiting && interruptible k.state) ≡ false → owes_row k.state k.result q ≡ true → SendsRow k l → StepsRow k l
row_steps k l q later goes room waits heard owed sends S conn ledger =
    let d : Step = turns S conn ledger k k.waiting in
    let is : replies ledger k q later (_) ≡ d = ap (λ (r : Reply). replies ledger k q later r) (owed_served S (version_of k) conn ledger k.state k.result k.tx q owed) ∙ turns_served S conn ledger k k.waiting q later waits heard in
    let st : Steps d conn k.first worked.Row l ledger ledger = subst (λ (x : Step). Steps x conn k.first worked.Row l ledger ledger) is (row_sent ledger k l q later conn (owed_some k.state k.result q owed) sends) in
    let same : work_kept S conn ledger k k.ended ≡ d = rw (goes, room) refl in
    ap (λ (x : Step). (worked_of x.answer, record { kept = x.kept; ledger = ledger ++ commit_entries conn k.first x.commit })) same
    ∙ ap (λ (w : Worked). (w, record { kept = d.kept; ledger = ledger ++ commit_entries conn k.first d.commit })) st.told
    ∙ ap (λ (x : Kept). (worked.Row, record { kept = x; ledger = ledger ++ commit_entries conn k.first d.commit })) st.kept
    ∙ ap (λ (x : List EntryView). (worked.Row, record { kept = l; ledger = x })) (sym st.ledger)

-- ---- one after the other

drop_one : (n : ℕ) (rows : List (List Tree)) → drop 1 (drop n rows) ≡ drop (suc n) rows
drop_one zero rows = refl
drop_one (suc n) [] = refl
drop_one (suc n) (r ∷ rs) = drop_one n rs

one_passed : (n : ℕ) (left : Open) → one_less (passed n left) ≡ passed (suc n) left
one_passed n left = ap (λ (rows : List (List Tree)). record left { rows = rows; written = suc (n + left.written) }) (drop_one n left.rows) ∙ ap (λ (w : ℕ). record left { rows = drop (suc n) left.rows; written = w }) (omega arith)

sent_same : (k l : Kept) → 0 < length k.result.rows → SendsRow k l → l ≡ record k { result = one_less k.result; unsent = l.unsent }
sent_same k l some sends = go k.result.rows refl some
  where
    go : (rows : List (List Tree)) → k.result.rows ≡ rows → 0 < length rows → l ≡ record k { result = one_less k.result; unsent = l.unsent }
    go [] e some = absurd (omega arith)
    go (r ∷ rs) e some = (sends r rs e).1

pub owed_some_rows : {n owed : ℕ} {k : Kept} → n < owed → (owed ≡ 0) ⊎ AreOwed owed k → AreOwed owed k
owed_some_rows l (inl none) = absurd (omega (arith, l, none))
owed_some_rows l (inr a) = a

-- so many rows were written, and nothing else
pub record Sent (n : ℕ) (k l : Kept) : Type 0 where
  pub rows : WritesRows n k l
  pub same : l ≡ record k { result = passed n k.result; unsent = l.unsent }

pub none_sent : (k : Kept) → Sent 0 k k
none_sent k = record { rows = refl; same = ap (λ (w : ℕ). record k { result = record k.result { written = w } }) (omega arith) }

module _ {owed : ℕ} {k l : Kept} (n : ℕ) (a : AreOwed owed k) (s : Sent n k l) (within : n < owed) where
  here : Kept
  here = record k { result = passed n k.result; unsent = l.unsent }

  next_owed : owes_row l.state l.result a.request ≡ true
  next_owed = subst (λ (x : Kept). owes_row x.state x.result a.request ≡ true) (sym s.same) (a.owed n within)

  -- a row is left
  pub row_left : 0 < length l.result.rows
  row_left = owed_some l.state l.result a.request next_owed

  -- and it was written
  pub one_sent : {m : Kept} → nat_le max_unsent (length l.unsent) ≡ false → SendsRow l m → Sent (n + 1) k m
  one_sent {m = m} room sends =
      let steps = row_steps l m a.request a.later
      (subst (λ (x : Kept). x.ended ≡ None) (sym s.same) a.goes) room
      (subst (λ (x : Kept). x.waiting ≡ Asked a.request ∷ a.later) (sym s.same) a.waits)
      (subst (λ (x : Kept). (reset_among x.waiting && interruptible x.state) ≡ false) (sym s.same) a.heard)
      next_owed sends in
      subst (λ (i : ℕ). Sent i k m) (omega arith) (record {
        rows = (l, s.rows, steps);
        same = sent_same l m row_left sends ∙ ap (λ (x : Kept). record x { result = one_less x.result; unsent = m.unsent }) s.same ∙ ap (λ (x : Open). record k { result = x; unsent = m.unsent }) (one_passed n k.result);
      })
