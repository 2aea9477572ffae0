use Rattle.decider.proofs.Ending.{few_steps}
use Rattle.decider.proofs.laws.few_steps.Goals as goal

pub returns : goal.returns
returns c = few_steps
