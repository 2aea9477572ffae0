use Rattle.std.proofs.Common.{◌≡◌}
use Rattle.client_tracking.specs.Account.{outcome_of}
use Rattle.client_tracking.specs.Holding.{account_of}
use Rattle.client_tracking.specs.Telling.{all_nothing}
use Rattle.client_tracking.proofs.tracking.TrackingClient.all_nothing.Given as goal

abbrev pub invariant-loop-i : goal.invariant-loop-i
invariant-loop-i l = l.all ≡ all_nothing (outcome_of (account_of l.self)) l.i
