use Rattle.world_guarantees.proofs.Relied.{clients_may_rely}
use Rattle.world_guarantees.proofs.calls.clients_may_rely.Goals as goal

pub returns : goal.returns
returns g c = clients_may_rely g.E.Engine.answer g.G.Gate.welcomes
