use Rattle.client_tracking.proofs.Accounts.{accounts_by_bytes}
use Rattle.client_tracking.proofs.laws.accounts_by_bytes.Goals as goal

pub returns : goal.returns
returns c = accounts_by_bytes
