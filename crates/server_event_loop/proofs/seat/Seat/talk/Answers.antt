use Rattle.std.proofs.Common.{arith, refl, ◌∙◌}
use Rattle.server_event_loop.proofs.Moved.{moves_kept, moves_then, moves_carried, moves_within}
use Rattle.server_event_loop.proofs.Bounded.{one_more, and_one, and_read, some_rounds}
use Rattle.server_event_loop.proofs.seat.Seat.talk.Goals as goal

pub loop-made-init : goal.loop-made-init
loop-made-init g c = record {
  moves = moves_kept g.E.Engine.answer g.G.Gate.welcomes _ _ _ _ _ refl;
  times = record { since = refl; let_in = refl };
}

pub loop-made-preserved : goal.loop-made-preserved
loop-made-preserved g c = record {
  moves = moves_within g.E.Engine.answer g.G.Gate.welcomes (moves_then g.E.Engine.answer g.G.Gate.welcomes c.loop-made.invariant.moves (moves_then g.E.Engine.answer g.G.Gate.welcomes (c.advance.ensures (g.P.Peers.wire c.loop-made.peers)) (moves_carried g.E.Engine.answer g.G.Gate.welcomes _ c.listen.ensures.carries))) (one_more _ _) (omega arith);
  times = record { since = c.listen.ensures.times.since ∙ c.loop-made.invariant.times.since; let_in = c.listen.ensures.times.let_in ∙ c.loop-made.invariant.times.let_in };
}

pub returns-in-More-clause-moves : goal.returns-in-More-clause-moves
returns-in-More-clause-moves g c = moves_within g.E.Engine.answer g.G.Gate.welcomes (moves_then g.E.Engine.answer g.G.Gate.welcomes c.loop-made.invariant.moves (c.advance.ensures (g.P.Peers.wire c.loop-made.peers))) (and_one _ _ _ (omega arith)) (omega arith)

pub returns-in-Full-clause-moves : goal.returns-in-Full-clause-moves
returns-in-Full-clause-moves g c = moves_within g.E.Engine.answer g.G.Gate.welcomes (moves_then g.E.Engine.answer g.G.Gate.welcomes c.loop-made.invariant.moves (c.advance.ensures (g.P.Peers.wire c.loop-made.peers))) (and_one _ _ _ (omega arith)) (omega arith)

pub returns-in-Over-clause-moves : goal.returns-in-Over-clause-moves
returns-in-Over-clause-moves g c = moves_within g.E.Engine.answer g.G.Gate.welcomes (moves_then g.E.Engine.answer g.G.Gate.welcomes c.loop-made.invariant.moves (c.advance.ensures (g.P.Peers.wire c.loop-made.peers))) (and_one _ _ _ (omega arith)) (omega arith)

pub returns-then-not-self-clause-moves : goal.returns-then-not-self-clause-moves
returns-then-not-self-clause-moves g c = moves_within g.E.Engine.answer g.G.Gate.welcomes (moves_then g.E.Engine.answer g.G.Gate.welcomes c.loop-made.invariant.moves (c.advance.ensures (g.P.Peers.wire c.loop-made.peers))) (and_one _ _ _ (omega arith)) (omega arith)

pub returns-in-Over-listen-clause-moves : goal.returns-in-Over-listen-clause-moves
returns-in-Over-listen-clause-moves g c = moves_within g.E.Engine.answer g.G.Gate.welcomes (moves_then g.E.Engine.answer g.G.Gate.welcomes c.loop-made.invariant.moves (moves_then g.E.Engine.answer g.G.Gate.welcomes (c.advance.ensures (g.P.Peers.wire c.loop-made.peers)) (moves_carried g.E.Engine.answer g.G.Gate.welcomes _ c.listen.ensures.carries))) (and_read _ _ _ (omega arith)) (omega arith)

pub returns-clause-moves : goal.returns-clause-moves
returns-clause-moves g c = moves_within g.E.Engine.answer g.G.Gate.welcomes c.loop-made.invariant.moves (some_rounds _ _ _ (omega arith)) (omega arith)
