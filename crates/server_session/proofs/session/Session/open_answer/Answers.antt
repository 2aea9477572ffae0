use Rattle.std.proofs.Common.{◌≡◌, ap, subst, rules, List, ℕ, Ok, None, OnOk}
use Rattle.wire.specs.declared.Version.{Version}
use Rattle.machine.specs.Prelude.{kind_of}
use Rattle.engine.specs.Views.{names_view}
use Rattle.server_session.specs.Prelude.{Answers, FailsBy, answer_by, Kept, Reply, replies, opened, version_of, reply_to_run, token_of, kept_of}
use Rattle.server_session.proofs.session.Session.open_answer.Goals as goal

pub returns-in-Ok-clause-ok : goal.returns-in-Ok-clause-ok
returns-in-Ok-clause-ok c = λ q later waits same conn ledger.
    let k = kept_of c.args.self.now in
    let a = answer_by (names_view c.args.fields) c.args.rows c.args.write c.args.mode in
    let opens = subst (λ (v : Version). opened v k.state k.tx (token_of q) a ≡ reply_to_run v k.state k.tx (token_of q) (Ok a)) c.version.ensures (c.in-Ok.ensures.opens c.args.rows c.args.mode (token_of q)) in
    subst (λ (x : Reply). OnOk c.take.result (Answers (replies ledger k q later x) conn k.first (kind_of q) None (kept_of c.take.new.self) ledger ledger)) opens (search rules)

pub returns-in-Err-clause-ok : goal.returns-in-Err-clause-ok
returns-in-Err-clause-ok c = λ q later waits same conn ledger.
    let k = kept_of c.args.self.now in
    let a = answer_by (names_view c.args.fields) c.args.rows c.args.write c.args.mode in
    let told = reply_to_run (version_of k) k.state k.tx (token_of q) (Ok a) in
    let fails = subst (λ (v : Version). FailsBy c.in-Err.why (reply_to_run v k.state k.tx (token_of q) (Ok a))) c.version.ensures (c.in-Err.ensures.refused c.args.rows c.args.mode (token_of q)) in
    subst (λ (x : Kept). OnOk c.refuse_answer.result (Answers (replies ledger x q later told) conn x.first (kind_of q) None (kept_of c.refuse_answer.new.self) ledger ledger)) (ap (λ (x : List ℕ). record k { unsent = x }) c.in-Err.ensures.kept)
    (c.refuse_answer.ensures.ok told fails q later waits same conn ledger)
