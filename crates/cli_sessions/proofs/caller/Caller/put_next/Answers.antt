use Rattle.cli_sessions.proofs.Followed.{ap, ◌∙◌, note, version_after, gets_then, notes_then, prints_told}
use Rattle.cli_sessions.proofs.caller.Caller.put_next.Goals as goal

pub returns-in-Ok-clause-puts : goal.returns-in-Ok-clause-puts
returns-in-Ok-clause-puts g c = λ v notes was version h.
    notes_then (rw c.in-Ok.is at h) (c.put_explained.ensures.puts _ (c.keep_version.ensures.version ∙ ap (λ w. version_after w (note c.args.one)) version))

pub returns-in-Err-clause-puts : goal.returns-in-Err-clause-puts
returns-in-Err-clause-puts g c = λ v notes was version h.
    let so = rw c.in-Err.is at h in
    let got = gets_then _ _ _ _ _ _ _ _ so.got c.put_unprinted.ensures in
    record { printed = so.printed; told = _; prints = prints_told (note c.args.one) so.prints; took = so.took; sound = so.sound; got = got }
