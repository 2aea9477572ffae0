use Rattle.std.proofs.Common.{subst, arith, rules, None}
use Rattle.machine.specs.Prelude.{kind_of}
use Rattle.server_session.proofs.Listed.{rows_counted}
use Rattle.server_session.specs.Prelude.{Answers, Reply, replies, remaining_rows, version_of, kept_of}
use Rattle.server_session.proofs.Sent.{row_put}
use Rattle.server_session.proofs.Replies.{first_sized, row_unfit}
use Rattle.server_session.proofs.session.Session.send_spelled.Goals as goal

pub put_row-requires-clause-fits : goal.put_row-requires-clause-fits
put_row-requires-clause-fits c =
    let rows = c.args.self.now.result.rows in
    first_sized c.version-version.result (remaining_rows rows) c.spell_first.new.body.items (omega (arith, c.requires.row, rows_counted rows)) c.in-Ok.ensures.ok

pub returns-in_ok-put_row-in-Ok-clause-ok : goal.returns-in_ok-put_row-in-Ok-clause-ok
returns-in_ok-put_row-in-Ok-clause-ok c = λ q later waits same conn ledger.
    let k = kept_of c.args.self.now in
    let rows = c.args.self.now.result.rows in
    row_put ledger k (kept_of c.put_row.new.self) c.spell_first.new.body.items q later conn (omega (arith, c.requires.row, rows_counted rows)) (rw c.version-version.ensures at c.in-Ok.ensures.ok) c.in_ok-put_row-in-Ok.ensures.ok

pub returns-in_ok-fail-in-Err-Because-clause-ok : goal.returns-in_ok-fail-in-Err-Because-clause-ok
returns-in_ok-fail-in-Err-Because-clause-ok c = λ q later waits same conn ledger.
    let k = kept_of c.args.self.now in
    let v = version_of k in
    let rows = c.args.self.now.result.rows in
    let fault = c.in-Err-Because.fault in
    subst (λ (x : Reply). Answers (replies ledger k q later x) conn k.first (kind_of q) None (kept_of c.fail.new.self) ledger ledger)
    (row_unfit c.version-version.result v (remaining_rows rows) k.result fault _ c.version-version.ensures (omega (arith, c.requires.row, rows_counted rows)) c.in-Err-Because.ensures.err (search rules))
    (c.in_ok-fail-in-Err-Because.ensures.ok q later waits same conn ledger)
