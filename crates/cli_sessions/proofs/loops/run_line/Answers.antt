use Rattle.cli_sessions.proofs.Looped.{Appends-trans, Err, Ok, ScriptRequestView, asked, breaks_before, broken_off, front_after, inr, line_by, script_request_view, setting, with_item, with_line, ℕ}
use Rattle.cli_sessions.proofs.loops.run_line.Goals as goal

pub returns-clause-goes : goal.returns-clause-goes
returns-clause-goes g c = λ r start t i h0.
    let h = rw (← c.ways.view_is) at h0 in
    let l : ℕ × ScriptRequestView = (c.args.line.number, script_request_view c.args.line.said) in
    let submits = c.in-Ok.ensures.submits (with_item t.place h.client.item) h.client.at in
    let k = line_by c.submit.new.self h.client (asked t l) l.0 _ _ (Ok _) submits in
    let printed = Appends-trans start.out _ _ t.text _ h.printed k.0 in
    c.exchange.ensures.goes r start (with_line t l) i
    (record { lives = h.lives; client = k.1; session = h.session; up = h.up; down = h.down; printed = printed })

pub returns-in-Err-clause-goes : goal.returns-in-Err-clause-goes
returns-in-Err-clause-goes g c = λ r start t i h0.
    let h = rw (← c.ways.view_is) at h0 in
    let k = c.in-Err.ensures in
    let l : ℕ × ScriptRequestView = (c.args.line.number, script_request_view c.args.line.said) in
    let submits = k.submits (with_item t.place h.client.item) h.client.at in
    let refusal = line_by c.submit.new.self h.client (asked t l) l.0 _ _ (Err c.in-Err.fault) submits in
    let S = setting g.E.Engine.answer g.G.Gate.welcomes r in
    let there = breaks_before S c.args.conn r.ledger (with_line t l) h.down.gave (front_after start.out _ _ t.text _ h.printed refusal) in
    broken_off c.in-Err.fault h.lives (λ e. absurd (k.read e)) (λ e. inr (inr (k.written e))) there
