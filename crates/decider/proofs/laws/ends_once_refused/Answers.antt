use Rattle.decider.proofs.Fates.{ends_once_refused}
use Rattle.decider.proofs.laws.ends_once_refused.Goals as goal

pub returns : goal.returns
returns c = ends_once_refused
