use Rattle.std.proofs.Common.{◌≡◌, true}
use Rattle.wire.specs.Prelude.{hello_has_login}
use Rattle.server_session.proofs.decision.greet.Goals as goal

pub returns-in-Some : goal.returns-in-Some
returns-in-Some g c = λ left tx token run.
    let yes : hello_has_login c.args.version ≡ true = cc in
    rw (yes, c.in-Some.is, ← c.of.ensures) (c.admit.ensures left tx token run)
