use Rattle.cli_sessions.proofs.Followed.{◌∙◌, gets_then}
use Rattle.cli_sessions.proofs.errors.greet.Goals as goal

pub returns : goal.returns
returns g c =
    let told = gets_then _ _ _ _ _ _ _ _ c.tell-2.ensures (gets_then _ _ _ _ _ _ _ _ c.tell-3.ensures c.tell-4.ensures) in
    rw c.if-has_ended.false (rw (c.as_bytes.ensures.value ∙ c.version_name.ensures) at told)
