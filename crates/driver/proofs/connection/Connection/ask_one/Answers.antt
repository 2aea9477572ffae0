use Rattle.std.proofs.Common.{◌∷◌, subst, List, map}
use Rattle.messages.specs.declared.Request.{Request}
use Rattle.messages.specs.Prelude.{request_view}
use Rattle.driver.specs.Prelude.{stand_of, place, Says}
use Rattle.driver.proofs.connection.Connection.ask_one.Goals as goal

pub returns-clause-says : goal.returns-clause-says
returns-clause-says g c =
    subst (λ (xs : List Request). Says (place (stand_of c.args.self.now.tracking) (g.S.Source.given c.args.self.now.source) (g.T.Sink.put c.args.self.now.sink)) (place (stand_of c.ask.new.self.tracking) (g.S.Source.given c.ask.new.self.source) (g.T.Sink.put c.ask.new.self.sink)) (request_view c.args.request ∷ map request_view xs) c.ask.result)
    c.new.ensures.items c.ask.ensures.says
