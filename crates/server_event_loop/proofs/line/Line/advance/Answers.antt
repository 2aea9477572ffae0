use Rattle.std.proofs.Common.{arith, refl}
use Rattle.server_event_loop.proofs.Moved.{moves_kept, moves_then, moves_within}
use Rattle.server_event_loop.proofs.line.Line.advance.Goals as goal

pub loop-made-init : goal.loop-made-init
loop-made-init g c = λ w. moves_kept g.E.Engine.answer g.G.Gate.welcomes _ _ _ _ w refl

pub loop-made-preserved : goal.loop-made-preserved
loop-made-preserved g c = λ w. moves_within g.E.Engine.answer g.G.Gate.welcomes (moves_then g.E.Engine.answer g.G.Gate.welcomes (c.loop-made.invariant w) (c.step.ensures w)) (omega arith) (omega arith)

pub returns-in_default : goal.returns-in_default
returns-in_default g c = λ w. moves_within g.E.Engine.answer g.G.Gate.welcomes (moves_then g.E.Engine.answer g.G.Gate.welcomes (c.loop-made.invariant w) (c.step.ensures w)) (omega arith) (omega arith)

pub returns : goal.returns
returns g c = λ w. moves_within g.E.Engine.answer g.G.Gate.welcomes (c.loop-made.invariant w) (omega arith) (omega arith)
