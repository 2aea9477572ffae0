use Rattle.std.proofs.Common.{◌+◌, ◌*◌, refl, arith}
use Rattle.server.specs.Prelude.{rest_of}
use Rattle.server_event_loop.specs.ConnectionPrelude.{seat_held}
use Rattle.server_event_loop.proofs.Moved.{moves_kept, moves_within}
use Rattle.server_event_loop.proofs.turns.goes_on.Goals as goal

pub returns-then-not-is_busy-clause-moves : goal.returns-then-not-is_busy-clause-moves
returns-then-not-is_busy-clause-moves g c = moves_within g.E.Engine.answer g.G.Gate.welcomes (moves_kept g.E.Engine.answer g.G.Gate.welcomes (c.args.limits.now.reads * (c.args.limits.now.steps * 2) + 1) (rest_of g.E.Engine.entries c.args.server.now) (rest_of g.E.Engine.entries c.args.server.now) (seat_held c.args.seat.now) (g.P.Peers.wire c.args.peers.now) refl) (omega arith) (omega arith)
