use Rattle.world_guarantees.proofs.retries.sent_until_known.Goals as goal
use Rattle.world_guarantees.proofs.Sending.{sent_until_known}

pub returns : goal.returns
returns c = sent_until_known
