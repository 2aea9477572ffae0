use Rattle.std.proofs.Common.{sym, ◌∙◌}
use Rattle.cli_replay.specs.Prelude.{stays, moves_on}
use Rattle.cli_replay.proofs.Stepping.{leads_as}
use Rattle.cli_replay.proofs.script_lines.repeat.Goals as goal

pub loop-time-init : goal.loop-time-init
loop-time-init g c = λ gate brought w reached fits. record { after = w; way = stays; reached = reached; fits = fits }

-- once more, by an event that is the same
pub loop-time-preserved : goal.loop-time-preserved
loop-time-preserved g c = λ gate brought w reached fits.
    let h = c.loop-time.invariant gate brought w reached fits in
    leads_as (λ w2 y. moves_on h.after w2 y.0 h.way y.1 (sym y.2.1 ∙ c.if-not-done.false)) (rw c.in_ok-again.ensures.cases at (c.in_ok-done.ensures gate brought h.after h.reached h.fits))

pub returns-then-not-done : goal.returns-then-not-done
returns-then-not-done g c = λ gate brought w reached fits.
    let h = c.loop-time.invariant gate brought w reached fits in
    leads_as (λ w2 y. record { before = h.after; came = y.0; moved = h.way; took = y.1; still = sym y.2.1 ∙ c.if-not-done.true; noted = y.2.0 }) (rw c.in_ok-again.ensures.cases at (c.in_ok-done.ensures gate brought h.after h.reached h.fits))
