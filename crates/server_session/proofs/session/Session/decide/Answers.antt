use Rattle.server_session.specs.Prelude.{kept_of, token_of, is_halted}
use Rattle.std.proofs.Common.{◌≡◌, ◌∙◌, sym, true}
use Rattle.messages.specs.Prelude.{request_view}
use Rattle.server_session.proofs.session.Session.decide.Goals as goal

pub returns-then-is_halted : goal.returns-then-is_halted
returns-then-is_halted g c =
    let k = kept_of c.args.self.now in
    let halted : is_halted c.args.state ≡ true = sym c.is_halted.ensures ∙ c.if-is_halted.true in
    rw (c.requires.stays, halted, ← c.is_reset.ensures) (c.pass_over.ensures k.result k.tx (token_of (request_view c.args.request.now)))
