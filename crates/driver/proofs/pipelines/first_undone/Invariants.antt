use Rattle.std.proofs.Common.{◌≡◌}
use Rattle.client_tracking.specs.Account.{outcome_of}
use Rattle.client_tracking.specs.Holding.{account_of}
use Rattle.driver.specs.Prelude.{first_undone}
use Rattle.driver.proofs.pipelines.first_undone.Given as goal

abbrev pub invariant-loop-i : goal.invariant-loop-i
invariant-loop-i l = l.found ≡ first_undone (outcome_of (account_of l.tracking)) l.first l.i
