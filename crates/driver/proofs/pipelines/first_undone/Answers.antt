use Rattle.std.proofs.Common.{◌∙◌, ap, ◌+◌}
use Rattle.driver.specs.Prelude.{or_undone}
use Rattle.driver.proofs.Asking.{undone_more}
use Rattle.client_tracking.specs.Account.{outcome_of}
use Rattle.client_tracking.specs.Holding.{account_of}
use Rattle.driver.proofs.pipelines.first_undone.Goals as goal

pub loop-i-preserved : goal.loop-i-preserved
loop-i-preserved c = undone_more (outcome_of (account_of c.args.tracking.now)) c.args.first c.loop-i.i c.loop-i.found c.or_undone-found.result c.loop-i.invariant (c.or_undone-found.ensures ∙ ap (λ o. or_undone c.loop-i.found (c.args.first + c.loop-i.i) o) c.outcome.ensures)
