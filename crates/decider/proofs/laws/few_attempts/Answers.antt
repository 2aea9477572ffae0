use Rattle.decider.proofs.Attempts.{few_attempts}
use Rattle.decider.proofs.laws.few_attempts.Goals as goal

pub returns : goal.returns
returns c = few_attempts
