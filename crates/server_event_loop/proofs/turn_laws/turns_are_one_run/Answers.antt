use Rattle.server_event_loop.proofs.Apart.{turns_reach, turns_along}
use Rattle.server_event_loop.proofs.turn_laws.turns_are_one_run.Goals as goal

pub returns-clause-reaches : goal.returns-clause-reaches
returns-clause-reaches g c = λ r before calls s held after t. turns_reach g.E.Engine.answer g.G.Gate.welcomes t

pub returns-clause-bytes : goal.returns-clause-bytes
returns-clause-bytes g c = λ r before calls s held after conn t. turns_along g.E.Engine.answer g.G.Gate.welcomes t conn
