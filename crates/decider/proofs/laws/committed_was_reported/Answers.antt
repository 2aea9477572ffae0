use Rattle.decider.proofs.Fates.{committed_was_reported}
use Rattle.decider.proofs.laws.committed_was_reported.Goals as goal

pub returns : goal.returns
returns c = committed_was_reported
