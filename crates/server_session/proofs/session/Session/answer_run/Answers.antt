use Rattle.std.proofs.Common.{◌≡◌, ◌∙◌, ap, sym, subst, drop, None, Result, Ok, Err, OnOk}
use Rattle.messages.specs.Prelude.{RequestView, request_view}
use Rattle.machine.specs.Prelude.{kind_of}
use Rattle.engine.specs.Prelude.{AnswerView, QueryFault, Runs, answer_view}
use Rattle.server_session.specs.Prelude.{Answers, FailsBy, replies, version_of, reply_to_run, asked_by, token_of, kept_of}
use Rattle.server_session.proofs.Listed.{few_answered}
use Rattle.server_session.proofs.Turns.{asked_head}
use Rattle.server_session.proofs.session.Session.answer_run.Goals as goal

pub asking-asking-requires : goal.asking-asking-requires
asking-asking-requires g c = c.requires.run (request_view c.request-request.result.now) (drop 1 (kept_of c.args.self.now).waiting) c.request-request.ensures

pub open_answer-requires-clause-few : goal.open_answer-requires-clause-few
open_answer-requires-clause-few g c = few_answered _ c.in-Ok.field-0 c.in-Ok.ensures.fits

pub returns-in-Ok-clause-ok : goal.returns-in-Ok-clause-ok
returns-in-Ok-clause-ok g c = λ q later waits conn.
    let k = kept_of c.args.self.now in
    let ledger = g.E.Engine.entries c.args.engine.now in
    let r = request_view c.request-request.result.now in
    let first : r ≡ q = asked_head r q (drop 1 k.waiting) later (sym c.request-request.ensures ∙ waits) in
    let asked = asked_by g.E.Engine.answer ledger k.state k.tx in
    let told : asked r ≡ Ok (answer_view c.in-Ok.field-0) = sym (c.asking-asking.ensures g.E.Engine.answer ledger) ∙ c.in-Ok.ensures.defined in
    subst (λ (d : Result AnswerView QueryFault). OnOk c.open_answer.result (Answers (replies ledger k q later (reply_to_run (version_of k) k.state k.tx (token_of q) d)) conn k.first (kind_of q) None (kept_of c.open_answer.new.self) ledger ledger))
    (sym told ∙ ap asked first) (c.open_answer.ensures.ok q later waits (c.kind-asked.ensures ∙ ap kind_of first) conn ledger)

pub returns-in-Err-clause-ok : goal.returns-in-Err-clause-ok
returns-in-Err-clause-ok g c = λ q later waits conn.
    let k = kept_of c.args.self.now in
    let v = version_of k in
    let ledger = g.E.Engine.entries c.args.engine.now in
    let r = request_view c.request-request.result.now in
    let first : r ≡ q = asked_head r q (drop 1 k.waiting) later (sym c.request-request.ensures ∙ waits) in
    let asked = asked_by g.E.Engine.answer ledger k.state k.tx in
    let runs = subst (Runs (Err c.in-Err.fault)) (c.asking-asking.ensures g.E.Engine.answer ledger) c.in-Err.ensures.defined in
    let fails = subst (λ (x : RequestView). FailsBy c.why_unanswered.result (reply_to_run v k.state k.tx (token_of q) (asked x))) first (c.why_unanswered.ensures v k.state k.tx (token_of q) (asked r) runs) in
    c.refuse_run.ensures.ok (reply_to_run v k.state k.tx (token_of q) (asked q)) fails q later waits (c.kind-asked.ensures ∙ ap kind_of first) conn ledger
