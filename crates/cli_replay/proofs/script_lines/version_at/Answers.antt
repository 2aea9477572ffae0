use Rattle.std.proofs.Common.{sym, ap, ◌∙◌}
use Rattle.wire.specs.Prelude.{wish_version}
use Rattle.world.specs.Prelude.{wish_of}
use Rattle.cli_replay.specs.Prelude.{version_of}
use Rattle.cli_replay.proofs.script_lines.version_at.Goals as goal

pub returns-in-None : goal.returns-in-None
returns-in-None g c = λ gate brought w reached fits. sym (ap version_of (c.in-None.ensures gate brought w reached fits))

pub returns-in-Some : goal.returns-in-Some
returns-in-Some g c = λ gate brought w reached fits.
    let h = c.in-Some.ensures gate brought w reached fits in
    c.wished.ensures ∙ ap (λ p. wish_version (wish_of p)) h.2.peer ∙ sym (ap version_of h.1)
