use Rattle.server.proofs.Bounds.{few_rows}
use Rattle.server.proofs.Pasts.{places_follow, follows_asks}
use Rattle.server.proofs.laws.places_follow_bytes.Goals as goal

pub returns-clause-follows : goal.returns-clause-follows
returns-clause-follows g c = places_follow g.E.Engine.answer (λ ledger own query params m. few_rows m (g.E.Engine.answer ledger own query params m) (g.met.E.Engine.answers_fit ledger own query params m)) g.G.Gate.welcomes

pub returns-clause-asks : goal.returns-clause-asks
returns-clause-asks g c = λ bytes answered s h. follows_asks bytes answered s h
