use Rattle.std.proofs.Common.{◌≡◌, ◌∙◌, ap, sym, subst, drop}
use Rattle.messages.specs.Prelude.{RequestView, request_view}
use Rattle.machine.specs.Prelude.{kind_of}
use Rattle.server_session.specs.Prelude.{Setting, Reply, replies, serve, version_of, reply_of, token_of, entry_in, IsFree, kept_of}
use Rattle.server_session.proofs.Free.{serve_free}
use Rattle.server_session.proofs.Turns.{asked_head, answers_at}
use Rattle.server_session.proofs.session.Session.answer_other.Goals as goal

pub decide-requires-clause-unrun : goal.decide-requires-clause-unrun
decide-requires-clause-unrun g c = c.requires.unrun (request_view c.request-request.result.now) (drop 1 (kept_of c.args.self.now).waiting) c.request-request.ensures

pub decide-requires-clause-unowed : goal.decide-requires-clause-unowed
decide-requires-clause-unowed g c = c.requires.unowed (request_view c.request-request.result.now) (drop 1 (kept_of c.args.self.now).waiting) c.request-request.ensures

pub decide-requires-clause-stays : goal.decide-requires-clause-stays
decide-requires-clause-stays g c = c.requires.stays (request_view c.request-request.result.now) (drop 1 (kept_of c.args.self.now).waiting) c.request-request.ensures

pub returns-clause-ok : goal.returns-clause-ok
returns-clause-ok g c = λ q later e.
    let k = kept_of c.args.self.now in
    let S : Setting = record { run = g.E.Engine.answer; welcome = g.G.Gate.welcomes c.args.gate.now } in
    let ledger = g.E.Engine.entries c.args.engine.now in
    let r = request_view c.request-request.result.now in
    let same : r ≡ q = asked_head r q (drop 1 k.waiting) later (sym c.request-request.ensures ∙ e) in
    let told : RequestView → Reply = λ x. serve S (version_of k) c.args.conn ledger c.args.worked_in k.result k.tx x in
    let is : reply_of k.result k.tx (token_of q) c.in_ok-act.act ≡ told q = subst (λ (x : RequestView). reply_of k.result k.tx (token_of x) c.in_ok-act.act ≡ told x) same c.in_ok-act.ensures in
    let from = record k { state = c.args.worked_in } in
    answers_at (replies ledger from q later (reply_of k.result k.tx (token_of q) c.in_ok-act.act)) (replies ledger from q later (told q)) c.args.conn k.first (kind_of q) c.perform.result (kept_of c.perform.new.self) ledger (g.E.Engine.entries c.perform.new.engine)
    (ap (λ (x : Reply). replies ledger from q later x) is) (c.perform.ensures.ok q later e (c.kind-asked.ensures ∙ ap kind_of same))

pub perform-requires-clause-free : goal.perform-requires-clause-free
perform-requires-clause-free g c =
    let k = kept_of c.args.self.now in
    let S : Setting = record { run = g.E.Engine.answer; welcome = g.G.Gate.welcomes c.args.gate.now } in
    let ledger = g.E.Engine.entries c.args.engine.now in
    subst (λ (x : Reply). IsFree ledger (entry_in x)) (sym c.in_ok-act.ensures) (serve_free S (version_of k) c.args.conn ledger c.args.worked_in k.result k.tx (request_view c.request-request.result.now))
