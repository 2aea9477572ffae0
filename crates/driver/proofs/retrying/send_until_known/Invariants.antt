use Rattle.std.proofs.Common.{◌≡◌}
use Rattle.driver.specs.Attempting.{asked_view}
use Rattle.driver.proofs.Retried.{SoTried}
use Rattle.driver.proofs.retrying.send_until_known.Given as goal

abbrev pub invariant-loop : goal.invariant-loop
invariant-loop g l = record {
  so : SoTried (asked_view l.asked) l.retry (g.C.Connects.log l.fn.connects) (g.C.Connects.log l.connects) l.tries l.counter l.doubtful;
  given_back : g.C.Connects.out l.connects ≡ g.C.Connects.out l.fn.connects;
}
