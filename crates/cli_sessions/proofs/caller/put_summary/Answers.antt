use Rattle.cli_sessions.proofs.Followed.{refl, [], WriteFailed, Memory, unless_err, behind_line, cut, in_line, note_line}
use Rattle.cli_sessions.proofs.caller.put_summary.Goals as goal

pub returns-in-Ok-clause-puts : goal.returns-in-Ok-clause-puts
returns-in-Ok-clause-puts g c = λ v.
    let line = rw (c.as_bytes-text.ensures.value, c.as_str.ensures.value, c.heard_line-line.ensures) at c.in-Ok.ensures.text in
    note_line _ _ _ c.put_failure.result line c.put_failure.ensures.puts
    (λ n f. c.in-Ok.ensures.sound (unless_err c.put_failure.result WriteFailed _ c.put_failure.ensures.sound n f))
    refl (λ front f. behind_line WriteFailed front f) (behind_line Memory [] (_, refl))

pub returns-in-Err-clause-puts : goal.returns-in-Err-clause-puts
returns-in-Err-clause-puts g c = λ v.
    let h = rw (c.as_bytes-text.ensures.value, c.as_str.ensures.value, c.heard_line-line.ensures) at c.in-Err.ensures.front in
    let told = rw (c.as_bytes-text.ensures.value, c.as_str.ensures.value, c.heard_line-line.ensures) at c.tell.ensures in
    rw c.in-Err.ensures.fault (cut (in_line h.0 (h.1, h.2)) h.3 (λ n. absurd (n refl)) told)
