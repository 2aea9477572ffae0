use Rattle.decider.proofs.Fates.{attempt_is_unknown}
use Rattle.decider.proofs.laws.attempt_is_unknown.Goals as goal

pub returns : goal.returns
returns c = attempt_is_unknown
