use Rattle.world_guarantees.proofs.retries.refused_commit_clashes.Goals as goal
use Rattle.world_guarantees.proofs.Attempts.{refused_commit_clashes}

pub returns : goal.returns
returns c = refused_commit_clashes
