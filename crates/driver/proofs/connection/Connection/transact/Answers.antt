use Rattle.std.proofs.Common.{ap, refl, ℕ, ◌∷◌, map}
use Rattle.messages.specs.View.{RequestView, token_view}
use Rattle.client_tracking.specs.Asking.{rows_view}
use Rattle.driver.specs.Prelude.{Stand, stand_of, place, within, query_view}
use Rattle.driver.proofs.Asking.{unasked_said}
use Rattle.driver.proofs.connection.Connection.transact.Goals as goal

pub returns-in_default-clause-says : goal.returns-in_default-clause-says
returns-in_default-clause-says g c =
    let left = g.S.Source.given c.args.self.now.source in
    let written = g.T.Sink.put c.args.self.now.sink in
    let begin = RequestView.Begin c.args.mode (token_view c.args.token) in
    let rest = within c.args.mode (rows_view c.args.rows) (map query_view c.args.queries.now) in
    unasked_said ℕ (place (stand_of c.args.self.now.tracking) left written) (place (stand_of c.unasked.new.tracking) left written) begin rest (begin ∷ rest) c.unasked.result refl
    c.unasked.ensures.fault (ap (λ (z : Stand). place z left written) c.unasked.ensures.stand)
