-- What a step does, as the model's step.
use Rattle.std.proofs.Common.{◌≡◌, ◌∙◌, ap, subst, refl, ℕ, Bool, true, false, List, ◌∷◌, Option, Result, IfOk, if◌then◌else◌, ◌&&◌}
use Rattle.std.specs.declared.alloc.AllocError.{AllocError}
use Rattle.messages.specs.Prelude.{RequestView, Arrival, Asked}
use Rattle.machine.specs.declared.states.State.{State}
use Rattle.machine.specs.declared.kinds.Kind.{Kind}
use Rattle.machine.specs.Prelude.{kind_of, is_goodbye, is_reset, interruptible}
use Rattle.engine.specs.Prelude.{EntryView}
use Rattle.server_session.specs.declared.acts.Turn.TheVariants as turn
use Rattle.server_session.specs.declared.kinds.Cause.{Cause}
use Rattle.server_session.specs.Prelude.{Setting, Reply, serve, passed_over, Kept, Step, Ended, rests, ends, replies, after_interrupt, turns, reset_among, version_of, row_reply, reply_to_run, asked_by, token_of, owes_row, runs, Answers}
use Rattle.server_session.proofs.Replies.{owed_served, owed_elsewhere, run_served, runs_elsewhere}

pub asked_head : (a b : RequestView) (xs ys : List Arrival) → (Asked a ∷ xs) ≡ (Asked b ∷ ys) → a ≡ b
asked_head a b xs ys e = cc

-- what is answered in Interrupted goes by what is kept but for the result and the transaction
passed_apart : (ledger : List EntryView) (k : Kept) (q : RequestView) (later : List Arrival) (reset : Bool) → replies ledger (record k { state = State.Interrupted }) q later (passed_over reset) ≡ replies ledger (after_interrupt k) q later (passed_over reset)
passed_apart ledger k q later true = refl
passed_apart ledger k q later false = refl

module _ (S : Setting) (c : ℕ) (ledger : List EntryView) (k : Kept) (xs : List Arrival) (q : RequestView) (later : List Arrival) (e : xs ≡ Asked q ∷ later) where
  -- a GOODBYE ends it, whether a RESET interrupts or not
  pub turns_goodbye : is_goodbye (kind_of q) ≡ true → rests (ends Cause.Goodbye k) (Ended Cause.Goodbye) ≡ turns S c ledger k xs
  turns_goodbye bye = by (reset_among (Asked q ∷ later) && interruptible k.state) refl
    where
      by : (b : Bool) → (reset_among (Asked q ∷ later) && interruptible k.state) ≡ b → rests (ends Cause.Goodbye k) (Ended Cause.Goodbye) ≡ turns S c ledger k xs
      by true h = rw (e, h, bye) refl
      by false h = rw (e, h, bye) refl

  pub turns_served : (reset_among xs && interruptible k.state) ≡ false → replies ledger k q later (serve S (version_of k) c ledger k.state k.result k.tx q) ≡ turns S c ledger k xs
  turns_served h =
      let none : (reset_among (Asked q ∷ later) && interruptible k.state) ≡ false = rw e at h in
      rw (e, none) refl

  -- another request is served in the state in which it is worked
  pub turns_worked : is_goodbye (kind_of q) ≡ false → (w : State) → w ≡ (if reset_among xs && interruptible k.state then State.Interrupted else k.state) → replies ledger (record k { state = w }) q later (serve S (version_of k) c ledger w k.result k.tx q) ≡ turns S c ledger k xs
  turns_worked stays w is = by (reset_among xs && interruptible k.state) refl
    where
      by : (b : Bool) → (reset_among xs && interruptible k.state) ≡ b → replies ledger (record k { state = w }) q later (serve S (version_of k) c ledger w k.result k.tx q) ≡ turns S c ledger k xs
      by true h =
          let heard : w ≡ State.Interrupted = rw h at is in
          let so : (reset_among (Asked q ∷ later) && interruptible k.state) ≡ true = rw e at h in
          rw (heard, e, so, stays) (passed_apart ledger k q later (is_reset (kind_of q)))
      by false h =
          let same : w ≡ k.state = rw h at is in
          rw same (turns_served h)

-- one that isn't worked in Interrupted isn't interrupted
unheard : (b : Bool) (s w : State) → w ≡ (if b then State.Interrupted else s) → (w ≡ State.Interrupted → ⊥) → (b ≡ false) × (w ≡ s)
unheard true s w is other = absurd (other is)
unheard false s w is other = (refl, is)

-- A row that is owed, and a RUN, are worked in the state that stands.
module _ (k : Kept) (q : RequestView) (w : State) (is : w ≡ (if reset_among k.waiting && interruptible k.state then State.Interrupted else k.state)) where
  row_here : owes_row w k.result q ≡ true → ((reset_among k.waiting && interruptible k.state) ≡ false) × (w ≡ k.state)
  row_here owed = unheard (reset_among k.waiting && interruptible k.state) k.state w is (owed_elsewhere w k.result q owed)

  run_heard : runs (version_of k) w q ≡ true → ((reset_among k.waiting && interruptible k.state) ≡ false) × (w ≡ k.state)
  run_heard asked = unheard (reset_among k.waiting && interruptible k.state) k.state w is (runs_elsewhere (version_of k) w q asked)

  pub run_here : runs (version_of k) w q ≡ true → runs (version_of k) k.state q ≡ true
  run_here asked = subst (λ (s : State). runs (version_of k) s q ≡ true) (run_heard asked).1 asked

  pub row_turn : (S : Setting) (c : ℕ) (ledger : List EntryView) (later : List Arrival) → k.waiting ≡ Asked q ∷ later → owes_row w k.result q ≡ true → replies ledger k q later (row_reply (version_of k) k.result.rows k.result) ≡ turns S c ledger k k.waiting
  row_turn S c ledger later first owed =
      let here : owes_row k.state k.result q ≡ true = subst (λ (s : State). owes_row s k.result q ≡ true) (row_here owed).1 owed in
      ap (λ (r : Reply). replies ledger k q later r) (owed_served S (version_of k) c ledger k.state k.result k.tx q here) ∙ turns_served S c ledger k k.waiting q later first (row_here owed).0

  pub run_turn : (S : Setting) (c : ℕ) (ledger : List EntryView) (later : List Arrival) → k.waiting ≡ Asked q ∷ later → runs (version_of k) w q ≡ true → replies ledger k q later (reply_to_run (version_of k) k.state k.tx (token_of q) (asked_by S.run ledger k.state k.tx q)) ≡ turns S c ledger k k.waiting
  run_turn S c ledger later first asked =
      ap (λ (r : Reply). replies ledger k q later r) (run_served S (version_of k) c ledger k.state k.result k.tx q (run_here asked)) ∙ turns_served S c ledger k k.waiting q later first (run_heard asked).0

-- of an answer that has another name
pub answers_at : (d e : Step) (conn first : ℕ) (kind : Kind) (r : Result (Option ℕ) AllocError) (new : Kept) (before after : List EntryView) → d ≡ e
    → IfOk r (λ n. Answers d conn first kind n new before after) → IfOk r (λ n. Answers e conn first kind n new before after)
answers_at d e conn first kind r new before after same h = subst (λ (x : Step). IfOk r (λ n. Answers x conn first kind n new before after)) same h
