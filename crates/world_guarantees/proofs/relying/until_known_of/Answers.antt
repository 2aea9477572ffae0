use Rattle.world_guarantees.proofs.Fated.{known_if}
use Rattle.world_guarantees.proofs.relying.until_known_of.Goals as goal

pub returns-clause-known : goal.returns-clause-known
returns-clause-known g c = known_if g.E.Engine.answer g.G.Gate.welcomes _ _ _ _ _ _ c.until_known.ensures.known
