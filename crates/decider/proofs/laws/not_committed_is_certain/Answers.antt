use Rattle.decider.proofs.Fates.{not_committed_is_certain}
use Rattle.decider.proofs.laws.not_committed_is_certain.Goals as goal

pub returns : goal.returns
returns c = not_committed_is_certain
