use Rattle.decider.proofs.Fates.{unreported_is_in_doubt}
use Rattle.decider.proofs.laws.unreported_is_in_doubt.Goals as goal

pub returns : goal.returns
returns c = unreported_is_in_doubt
