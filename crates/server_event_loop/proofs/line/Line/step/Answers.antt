use Rattle.std.proofs.Common.{arith}
use Rattle.server_event_loop.proofs.Moved.{moves_kept, moves_then, moves_within, moves_worked}
use Rattle.server_event_loop.proofs.line.Line.step.Goals as goal

pub returns-in_default : goal.returns-in_default
returns-in_default g c = λ w. moves_kept g.E.Engine.answer g.G.Gate.welcomes 2 _ _ _ w c.in_default.ensures.refused

pub returns-in-Row : goal.returns-in-Row
returns-in-Row g c = λ w. moves_within g.E.Engine.answer g.G.Gate.welcomes (moves_worked g.E.Engine.answer g.G.Gate.welcomes _ _ _ _ w c.in-Ok.ensures.done) (omega arith) (omega arith)

pub returns-in-Full : goal.returns-in-Full
returns-in-Full g c = λ w. moves_within g.E.Engine.answer g.G.Gate.welcomes (moves_worked g.E.Engine.answer g.G.Gate.welcomes _ _ _ _ w c.in-Ok.ensures.done) (omega arith) (omega arith)

pub returns-in-Ended : goal.returns-in-Ended
returns-in-Ended g c = λ w. moves_within g.E.Engine.answer g.G.Gate.welcomes (moves_worked g.E.Engine.answer g.G.Gate.welcomes _ _ _ _ w c.in-Ok.ensures.done) (omega arith) (omega arith)

pub returns-in-Idle : goal.returns-in-Idle
returns-in-Idle g c = λ w. moves_then g.E.Engine.answer g.G.Gate.welcomes (moves_worked g.E.Engine.answer g.G.Gate.welcomes _ _ _ _ w c.in-Ok.ensures.done) (c.feed.ensures w)
