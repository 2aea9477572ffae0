use Rattle.client_tracking.proofs.Joined.{account_tells}
use Rattle.client_tracking.proofs.laws.account_tells.Goals as goal

pub returns : goal.returns
returns c = account_tells
