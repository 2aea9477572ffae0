use Rattle.decider.proofs.Fates.{refused_was_reported}
use Rattle.decider.proofs.laws.refused_was_reported.Goals as goal

pub returns : goal.returns
returns c = refused_was_reported
