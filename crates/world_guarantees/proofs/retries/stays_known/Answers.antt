use Rattle.world_guarantees.proofs.Attempts.{stays_known}
use Rattle.world_guarantees.proofs.retries.stays_known.Goals as goal

pub returns : goal.returns
returns c = stays_known
