use Rattle.world_guarantees.proofs.Attempts.{refused_adds_none}
use Rattle.world_guarantees.proofs.retries.refused_adds_none.Goals as goal

pub returns : goal.returns
returns c = refused_adds_none
