use Rattle.std.proofs.Common.{◌≡◌, ◌++◌, map}
use Rattle.messages.specs.Prelude.{request_view}
use Rattle.driver.specs.Prelude.{stand_of}
use Rattle.driver.proofs.Asking.{AskedSoFar}
use Rattle.driver.proofs.pipelines.ask_each.Given as goal

abbrev pub invariant-loop-request : goal.invariant-loop-request
invariant-loop-request l = record {
  parts : l.yielded ++ l.request-iterator.rest.items ≡ l.fn.requests.items;
  asked : AskedSoFar (stand_of l.fn.tracking) (stand_of l.tracking) (map request_view l.yielded);
}
