use Rattle.world_guarantees.proofs.Played.{are_runs}
use Rattle.world_guarantees.proofs.calls.calls_are_runs.Goals as goal

pub returns : goal.returns
returns g c = are_runs g.E.Engine.answer g.G.Gate.welcomes
