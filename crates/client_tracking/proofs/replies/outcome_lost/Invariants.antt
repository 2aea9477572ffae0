use Rattle.std.proofs.Common.{◌≡◌, drop}
use Rattle.client_tracking.specs.Account.{outcome_lost}
use Rattle.client_tracking.proofs.replies.outcome_lost.Given as goal

abbrev pub invariant-loop-loss : goal.invariant-loop-loss
invariant-loop-loss l = outcome_lost l.ordinal (drop l.loss-index l.losses) ≡ outcome_lost l.ordinal l.losses
