use Rattle.world_guarantees.proofs.Replayed.{are_events}
use Rattle.world_guarantees.proofs.calls.calls_are_events.Goals as goal

pub returns : goal.returns
returns g c = are_events g.E.Engine.answer g.G.Gate.welcomes
