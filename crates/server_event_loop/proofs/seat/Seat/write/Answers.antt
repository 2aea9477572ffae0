use Rattle.server_event_loop.proofs.Moved.{moves_then, moves_carried}
use Rattle.server_event_loop.proofs.seat.Seat.write.Goals as goal

pub returns-clause-moves : goal.returns-clause-moves
returns-clause-moves g c =
    moves_then g.E.Engine.answer g.G.Gate.welcomes (moves_carried g.E.Engine.answer g.G.Gate.welcomes _ c.utter.ensures.carries)
    (moves_then g.E.Engine.answer g.G.Gate.welcomes (c.draw-drawn.ensures (g.P.Peers.wire c.utter.new.peers)) (moves_carried g.E.Engine.answer g.G.Gate.welcomes _ c.utter-2.ensures.carries))
