use Rattle.std.proofs.Common.{◌≡◌}
use Rattle.client_tracking.specs.Holding.{account_of}
use Rattle.client_tracking.specs.Telling.{any_final}
use Rattle.client_tracking.proofs.tracking.TrackingClient.any_final.Given as goal

abbrev pub invariant-loop-i : goal.invariant-loop-i
invariant-loop-i l = l.any ≡ any_final (account_of l.self) l.i
