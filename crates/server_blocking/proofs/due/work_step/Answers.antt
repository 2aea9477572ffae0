use Rattle.server_blocking.proofs.Called.{grows_worked}
use Rattle.server_blocking.proofs.due.work_step.Goals as goal

pub returns-clause-works : goal.returns-clause-works
returns-clause-works g c = (c.in-Ok.worked, c.in-Ok.ensures.done, c.next_after.ensures)

pub returns-clause-grows : goal.returns-clause-grows
returns-clause-grows g c = grows_worked c.args.conn g.E.Engine.answer g.G.Gate.welcomes _ _ c.in-Ok.worked c.in-Ok.ensures.done
