use Rattle.world_guarantees.proofs.Staying.{lost_stays}
use Rattle.world_guarantees.proofs.retries.lost_stays.Goals as goal

pub returns : goal.returns
returns c = lost_stays
