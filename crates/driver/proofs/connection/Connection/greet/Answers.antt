use Rattle.std.proofs.Common.{ap, string_bytes}
use Rattle.messages.specs.View.{auth_view}
use Rattle.client_tracking.specs.Asking.{is_login_in_hello}
use Rattle.driver.specs.Prelude.{Stand, stand_of, place, greeting}
use Rattle.driver.proofs.Asking.{unasked_said, greeting_some}
use Rattle.driver.proofs.connection.Connection.greet.Goals as goal

pub returns-in_default-clause-says : goal.returns-in_default-clause-says
returns-in_default-clause-says g c =
    let left = g.S.Source.given c.args.self.now.source in
    let written = g.T.Sink.put c.args.self.now.sink in
    let login = is_login_in_hello (stand_of c.args.self.now.tracking).rest.knows.version in
    let some = greeting_some login (string_bytes c.args.agent) (auth_view c.args.auth) in
    unasked_said (Unit {0}) (place (stand_of c.args.self.now.tracking) left written) (place (stand_of c.unasked.new.tracking) left written) some.0 some.1 (greeting login (string_bytes c.args.agent) (auth_view c.args.auth)) c.unasked.result some.2
    c.unasked.ensures.fault (ap (λ (z : Stand). place z left written) c.unasked.ensures.stand)
