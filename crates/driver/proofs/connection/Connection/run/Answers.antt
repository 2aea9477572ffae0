use Rattle.std.proofs.Common.{ap, refl, ◌∷◌, []}
use Rattle.client_tracking.specs.Asking.{rows_view}
use Rattle.driver.specs.declared.connection.Answer.{Answer}
use Rattle.driver.specs.Prelude.{Stand, stand_of, place, query_run, query_view}
use Rattle.driver.proofs.Asking.{unasked_said}
use Rattle.driver.proofs.connection.Connection.run.Goals as goal

pub returns-in_default-clause-says : goal.returns-in_default-clause-says
returns-in_default-clause-says g c =
    let left = g.S.Source.given c.args.self.now.source in
    let written = g.T.Sink.put c.args.self.now.sink in
    let run = query_run c.args.mode (query_view c.args.query.now) in
    unasked_said Answer (place (stand_of c.args.self.now.tracking) left written) (place (stand_of c.unasked.new.tracking) left written) run (rows_view c.args.rows ∷ []) (run ∷ rows_view c.args.rows ∷ []) c.unasked.result refl
    c.unasked.ensures.fault (ap (λ (z : Stand). place z left written) c.unasked.ensures.stand)
