use Rattle.server.proofs.Bounds.{few_rows}
use Rattle.server.proofs.Runs.{keeps_limits}
use Rattle.world.proofs.Clients.{few, reached_follow}
use Rattle.world.proofs.Limits.{sessions_within}
use Rattle.world.specs.Prelude.{setting_of}
use Rattle.world.proofs.laws.keeps_limits.Goals as goal

pub returns : goal.returns
returns g c = λ gate brought w reached.
    let answer = g.E.Engine.answer in
    let s = sessions_within answer g.G.Gate.welcomes gate (λ ledger events. keeps_limits answer (λ entries own query params m. few_rows m (answer entries own query params m) (g.met.E.Engine.answers_fit entries own query params m)) g.G.Gate.welcomes ledger gate events) brought w reached in (
      s.0,
      λ k_at k here. record { session = s.1 k_at k here; client = λ wish out p. few wish k p (reached_follow (setting_of answer g.G.Gate.welcomes gate) brought reached k_at k here wish p) out },
    )
