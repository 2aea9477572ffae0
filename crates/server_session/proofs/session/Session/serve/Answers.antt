use Rattle.std.proofs.Common.{◌≡◌, ◌∙◌, sym, subst, refl, drop, true, false, None, arith}
use Rattle.std.proofs.lemmas.List.{append-nil}
use Rattle.messages.specs.Prelude.{RequestView, request_view}
use Rattle.machine.specs.Prelude.{kind_of, is_goodbye}
use Rattle.server_session.specs.declared.kinds.Cause.{Cause}
use Rattle.server_session.specs.declared.kinds.Worked.{Worked}
use Rattle.server_session.specs.Prelude.{Setting, Step, Steps, Answers, version_of, owes_row, runs, kept_of}
use Rattle.server_session.proofs.Listed.{rows_counted}
use Rattle.server_session.proofs.Replies.{owed_some}
use Rattle.server_session.proofs.Turns.{asked_head, turns_goodbye, turns_worked, row_turn, run_here, run_turn}
use Rattle.server_session.proofs.session.Session.serve.Goals as goal

pub returns-then-is_goodbye-clause-ok : goal.returns-then-is_goodbye-clause-ok
returns-then-is_goodbye-clause-ok g c =
    let k = kept_of c.args.self.now in
    let S : Setting = record { run = g.E.Engine.answer; welcome = g.G.Gate.welcomes c.args.gate.now } in
    let ledger = g.E.Engine.entries c.args.engine.now in
    let ended = turns_goodbye S c.args.conn ledger k k.waiting (request_view c.request-request.result.now) (drop 1 k.waiting) c.request-request.ensures (sym c.is_goodbye.ensures ∙ c.if-is_goodbye.true) in
    subst (λ (x : Step). Steps x c.args.conn k.first (Worked.Ended Cause.Goodbye) (kept_of c.end.new.self) ledger ledger) ended (record { told = refl; kept = sym c.end.ensures; ledger = sym (append-nil ledger) })

pub send-requires-clause-row : goal.send-requires-clause-row
send-requires-clause-row g c =
    let some = owed_some c.work_state-worked_in.result (kept_of c.args.self.now).result (request_view c.request-request.result.now) (sym c.owes_row.ensures ∙ c.if-owes_row.true) in
    omega (arith, some, rows_counted c.args.self.now.result.rows)

pub returns-then-sent-clause-ok : goal.returns-then-sent-clause-ok
returns-then-sent-clause-ok g c =
    let k = kept_of c.args.self.now in
    let S : Setting = record { run = g.E.Engine.answer; welcome = g.G.Gate.welcomes c.args.gate.now } in
    let ledger = g.E.Engine.entries c.args.engine.now in
    let q = request_view c.request-request.result.now in
    let is = row_turn k q c.work_state-worked_in.result c.work_state-worked_in.ensures S c.args.conn ledger (drop 1 k.waiting) c.request-request.ensures (sym c.owes_row.ensures ∙ c.if-owes_row.true) in
    subst (λ (x : Step). Steps x c.args.conn k.first Worked.Row (kept_of c.send.new.self) ledger ledger) is (rw c.if-sent.true at c.in_ok-sent.ensures.ok q (drop 1 k.waiting) c.request-request.ensures c.kind-asked.ensures c.args.conn ledger)

pub returns-then-owes_row-clause-ok : goal.returns-then-owes_row-clause-ok
returns-then-owes_row-clause-ok g c =
    let k = kept_of c.args.self.now in
    let S : Setting = record { run = g.E.Engine.answer; welcome = g.G.Gate.welcomes c.args.gate.now } in
    let ledger = g.E.Engine.entries c.args.engine.now in
    let q = request_view c.request-request.result.now in
    let is = row_turn k q c.work_state-worked_in.result c.work_state-worked_in.ensures S c.args.conn ledger (drop 1 k.waiting) c.request-request.ensures (sym c.owes_row.ensures ∙ c.if-owes_row.true) in
    rw (c.wrote.ensures, c.kind-asked.ensures) (subst (λ (x : Step). Answers x c.args.conn k.first (kind_of q) None (kept_of c.send.new.self) ledger ledger) is (rw c.if-sent.false at c.in_ok-sent.ensures.ok q (drop 1 k.waiting) c.request-request.ensures c.kind-asked.ensures c.args.conn ledger))

pub answer_run-requires-clause-run : goal.answer_run-requires-clause-run
answer_run-requires-clause-run g c = λ q later e.
    let k = kept_of c.args.self.now in
    subst (λ (x : RequestView). runs (version_of k) k.state x ≡ true) (asked_head _ q _ later (sym c.request-request.ensures ∙ e)) (run_here k _ _ c.work_state-worked_in.ensures (sym c.runs.ensures ∙ c.if-runs.true))

pub returns-then-runs-clause-ok : goal.returns-then-runs-clause-ok
returns-then-runs-clause-ok g c =
    let k = kept_of c.args.self.now in
    let S : Setting = record { run = g.E.Engine.answer; welcome = g.G.Gate.welcomes c.args.gate.now } in
    let ledger = g.E.Engine.entries c.args.engine.now in
    let q = request_view c.request-request.result.now in
    let is = run_turn k q c.work_state-worked_in.result c.work_state-worked_in.ensures S c.args.conn ledger (drop 1 k.waiting) c.request-request.ensures (sym c.runs.ensures ∙ c.if-runs.true) in
    rw (c.wrote-then-runs.ensures, c.kind-asked.ensures) (subst (λ (x : Step). Answers x c.args.conn k.first (kind_of q) None (kept_of c.answer_run.new.self) ledger ledger) is (c.in_ok-answer_run.ensures.ok q (drop 1 k.waiting) c.request-request.ensures c.args.conn))

pub answer_other-requires-clause-unowed : goal.answer_other-requires-clause-unowed
answer_other-requires-clause-unowed g c = λ q later e.
    subst (λ (x : RequestView). owes_row c.work_state-worked_in.result (kept_of c.args.self.now).result x ≡ false) (asked_head _ q _ later (sym c.request-request.ensures ∙ e)) (sym c.owes_row.ensures ∙ c.if-owes_row.false)

pub answer_other-requires-clause-unrun : goal.answer_other-requires-clause-unrun
answer_other-requires-clause-unrun g c = λ q later e.
    subst (λ (x : RequestView). runs (version_of (kept_of c.args.self.now)) c.work_state-worked_in.result x ≡ false) (asked_head _ q _ later (sym c.request-request.ensures ∙ e)) (sym c.runs.ensures ∙ c.if-runs.false)

pub answer_other-requires-clause-stays : goal.answer_other-requires-clause-stays
answer_other-requires-clause-stays g c = λ q later e.
    subst (λ (x : RequestView). is_goodbye (kind_of x) ≡ false) (asked_head _ q _ later (sym c.request-request.ensures ∙ e)) (sym c.is_goodbye.ensures ∙ c.if-is_goodbye.false)

pub returns-clause-ok : goal.returns-clause-ok
returns-clause-ok g c =
    let k = kept_of c.args.self.now in
    let S : Setting = record { run = g.E.Engine.answer; welcome = g.G.Gate.welcomes c.args.gate.now } in
    let ledger = g.E.Engine.entries c.args.engine.now in
    let q = request_view c.request-request.result.now in
    let is = turns_worked S c.args.conn ledger k k.waiting q (drop 1 k.waiting) c.request-request.ensures (sym c.is_goodbye.ensures ∙ c.if-is_goodbye.false) c.work_state-worked_in.result c.work_state-worked_in.ensures in
    rw (c.wrote-2.ensures, c.kind-asked.ensures) (subst (λ (x : Step). Answers x c.args.conn k.first (kind_of q) c.in_ok-entry.entry (kept_of c.answer_other.new.self) ledger (g.E.Engine.entries c.answer_other.new.engine)) is (c.in_ok-entry.ensures.ok q (drop 1 k.waiting) c.request-request.ensures))
