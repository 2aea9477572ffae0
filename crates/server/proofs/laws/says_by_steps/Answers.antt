use Rattle.server.proofs.Bounds.{few_rows}
use Rattle.server.proofs.Spoken as spoken
use Rattle.server.proofs.laws.says_by_steps.Goals as goal

pub returns : goal.returns
returns g c = spoken.says_by_steps g.E.Engine.answer (λ ledger own query params m. few_rows m (g.E.Engine.answer ledger own query params m) (g.met.E.Engine.answers_fit ledger own query params m)) g.G.Gate.welcomes
