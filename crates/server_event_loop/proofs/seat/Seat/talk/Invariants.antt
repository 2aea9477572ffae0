use Rattle.std.proofs.Common.{◌*◌, []}
use Rattle.server.specs.Prelude.{rest_of}
use Rattle.server_event_loop.specs.ConnectionPrelude.{seat_held, IsAsOld, Moves}
use Rattle.server_event_loop.proofs.seat.Seat.talk.Given as goal

abbrev pub invariant-loop-made : goal.invariant-loop-made
invariant-loop-made g l = record {
  moves : Moves g.E.Engine.answer g.G.Gate.welcomes (l.made * (l.limits.steps * 2)) l.made [] (rest_of g.E.Engine.entries l.fn.server) (rest_of g.E.Engine.entries l.server) (seat_held l.fn.self) (seat_held l.self) (g.P.Peers.wire l.fn.peers) (g.P.Peers.wire l.peers);
  times : IsAsOld l.fn.self l.self;
}
