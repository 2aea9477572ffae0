use Rattle.server.specs.Prelude.{empty}
use Rattle.server_event_loop.proofs.Once.{given_up_once}
use Rattle.server_event_loop.proofs.end_laws.given_up_once.Goals as goal

pub returns : goal.returns
returns g c = λ ledger gate calls conn. given_up_once g.E.Engine.answer g.G.Gate.welcomes conn (empty ledger gate) (c.keeps_limits.ensures ledger gate) calls
