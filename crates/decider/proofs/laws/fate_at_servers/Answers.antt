use Rattle.decider.proofs.Servers.{fate_at_servers}
use Rattle.decider.proofs.laws.fate_at_servers.Goals as goal

pub returns : goal.returns
returns c = fate_at_servers
