-- The facts that the next step depends on.
use Rattle.std.proofs.Common.{Bool, Option, List}
use Rattle.std.specs.List.{list_any}
use Rattle.decider.specs.declared.policy.Retry.{Retry}
use Rattle.decider.specs.declared.policy.Policy.{Policy}
use Rattle.decider.specs.declared.steps.StepResult.{StepResult}
use Rattle.decider.specs.declared.steps.Next.{Next}
use Rattle.decider.specs.Rules.{is_refusal, is_invalid, uses_marker, is_left, in_doubt, unprotected, is_settled, attempts_left, tombstones_left, last_of, next_by}

pub record Facts : Type 0 where
  pub settled : Bool
  pub retry : Retry
  pub doubt : Bool
  pub unprotected : Bool
  pub refused : Bool
  pub invalid : Bool
  pub attempts : Bool
  pub tombstones : Bool
  pub last : Option StepResult

-- the facts after these results
abbrev pub facts : Policy → List StepResult → Facts
facts p ts = record {
  settled = is_settled p ts;
  retry = p.retry;
  doubt = in_doubt p ts;
  unprotected = unprotected p ts;
  refused = list_any is_refusal ts;
  invalid = list_any is_invalid ts;
  attempts = is_left (attempts_left p ts);
  tombstones = is_left (tombstones_left p ts);
  last = last_of ts;
}

-- the next step by them
abbrev pub next_from : Facts → Next
next_from f =
    next_by f.settled
    (uses_marker f.retry) f.retry f.doubt f.unprotected f.refused f.invalid f.attempts f.tombstones f.last
