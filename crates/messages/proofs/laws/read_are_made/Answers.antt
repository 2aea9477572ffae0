use Rattle.messages.proofs.Sayings.{requests_are_made, responses_are_made}
use Rattle.messages.proofs.laws.read_are_made.Goals as goal

pub returns : goal.returns
returns c = record { requests = requests_are_made; responses = responses_are_made }
