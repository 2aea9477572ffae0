-- A decider as the results that were reported to it.
use Rattle.std.specs.Prelude.{◌≡◌, Bool, List}
use Rattle.std.specs.List.{list_any}
use Rattle.decider.specs.declared.policy.Policy.{Policy}
use Rattle.decider.specs.declared.steps.StepResult.{StepResult}
use Rattle.decider.specs.declared.state.Decider.{Decider}
use Rattle.decider.specs.Rules.{is_commit, is_conflict, has_tombstone, is_refusal, is_invalid, is_stop, in_doubt, unprotected, attempts_left, tombstones_left, last_of, commit_of, fault_of}

-- The decider was made for this policy, and has these results, oldest first. b: an attempt is under way.
pub record Describes (d : Decider) (p : Policy) (ts : List StepResult) (b : Bool) : Type 0 where
  pub policy : d.policy ≡ p
  pub committed : d.committed ≡ list_any is_commit ts
  pub conflict : d.conflict ≡ list_any (is_conflict p.retry) ts
  pub tombstone : d.tombstone ≡ list_any (has_tombstone p.retry) ts
  pub doubt : d.doubt ≡ in_doubt p ts
  pub unprotected : d.unprotected ≡ unprotected p ts
  pub refused : d.refused ≡ list_any is_refusal ts
  pub invalid : d.invalid ≡ list_any is_invalid ts
  pub stopped : d.stopped ≡ list_any is_stop ts
  pub pending : d.pending ≡ b
  pub attempts_left : d.attempts_left ≡ attempts_left p ts
  pub tombstones_left : d.tombstones_left ≡ tombstones_left p ts
  pub last : d.last ≡ last_of ts
  pub commit : d.commit ≡ commit_of ts
  pub fault : d.fault ≡ fault_of ts

-- the answer is this function of the policy, of the results, and of whether an attempt is under way
abbrev pub Answers : {A : Type 0} → Decider → A → (Policy → List StepResult → Bool → A) → Type 0
Answers d a f = (p : Policy) (ts : List StepResult) (b : Bool) → Describes d p ts b → a ≡ f p ts b

-- the old decider becomes the new one, with these results, and an attempt under way or not
abbrev pub Becomes :
    Decider → Decider → (List StepResult → Bool → List StepResult) → (Policy → List StepResult → Bool → Bool) → Type 0
Becomes d e f g =
    (p : Policy) (ts : List StepResult) (b : Bool) → Describes d p ts b → Describes e p (f ts b) (g p ts b)
