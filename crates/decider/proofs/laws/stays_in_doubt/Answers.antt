use Rattle.decider.proofs.Fates.{stays_in_doubt}
use Rattle.decider.proofs.laws.stays_in_doubt.Goals as goal

pub returns : goal.returns
returns c = stays_in_doubt
