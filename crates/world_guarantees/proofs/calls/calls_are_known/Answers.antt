use Rattle.world_guarantees.proofs.Fated.{calls_are_known}
use Rattle.world_guarantees.proofs.calls.calls_are_known.Goals as goal

pub returns : goal.returns
returns g c = calls_are_known g.E.Engine.answer g.G.Gate.welcomes
