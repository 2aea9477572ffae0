use Rattle.world_guarantees.proofs.retries.attempt_clashes.Goals as goal
use Rattle.world_guarantees.proofs.Tied.{attempt_clashes}

pub returns : goal.returns
returns c = attempt_clashes
