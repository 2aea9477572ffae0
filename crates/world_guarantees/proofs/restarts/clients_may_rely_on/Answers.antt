use Rattle.world_guarantees.proofs.Lives.{relies_on}
use Rattle.world_guarantees.proofs.restarts.clients_may_rely_on.Goals as goal

pub returns : goal.returns
returns c = relies_on
