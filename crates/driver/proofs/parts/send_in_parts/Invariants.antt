use Rattle.std.proofs.Common.{◌≡◌, ◌++◌, map}
use Rattle.messages.specs.Prelude.{request_view}
use Rattle.driver.specs.Prelude.{stand_of, place}
use Rattle.driver.proofs.Parting.{SoAsked}
use Rattle.driver.proofs.parts.send_in_parts.Given as goal

abbrev pub invariant-loop-request : goal.invariant-loop-request
invariant-loop-request g l = record {
  parts : l.yielded ++ l.request-iterator.rest.items ≡ l.fn.requests.items;
  asked : SoAsked (place (stand_of l.fn.tracking) (g.I.Source.given l.fn.source) (g.O.Sink.put l.fn.sink)) (place (stand_of l.tracking) (g.I.Source.given l.source) (g.O.Sink.put l.sink)) (map request_view l.yielded) l.asked;
}
