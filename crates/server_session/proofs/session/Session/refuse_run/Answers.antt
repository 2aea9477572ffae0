use Rattle.std.proofs.Common.{subst, None, OnOk}
use Rattle.machine.specs.Prelude.{kind_of}
use Rattle.server_session.specs.declared.spelling.Unwritten.{Unwritten}
use Rattle.server_session.specs.Prelude.{Answers, FailsBy, Reply, replies, kept_of}
use Rattle.server_session.proofs.session.Session.refuse_run.Goals as goal

pub returns-in-Because-clause-ok : goal.returns-in-Because-clause-ok
returns-in-Because-clause-ok c = λ reply by q later waits same conn ledger.
    let k = kept_of c.args.self.now in
    subst (λ (r : Reply). OnOk c.fail.result (Answers (replies ledger k q later r) conn k.first (kind_of q) None (kept_of c.fail.new.self) ledger ledger))
    (subst (λ (u : Unwritten). FailsBy u reply) c.in-Because.is by) (c.fail.ensures.ok q later waits same conn ledger)
