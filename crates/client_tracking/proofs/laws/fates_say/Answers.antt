use Rattle.client_tracking.proofs.Sure.{fates_say}
use Rattle.client_tracking.proofs.laws.fates_say.Goals as goal

pub returns : goal.returns
returns c = fates_say
