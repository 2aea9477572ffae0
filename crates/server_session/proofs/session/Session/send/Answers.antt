use Rattle.std.proofs.Common.{◌≡◌, ap, length, arith}
use Rattle.server_session.specs.Prelude.{Kept, remaining_rows, kept_of}
use Rattle.server_session.proofs.Listed.{rows_counted}
use Rattle.server_session.proofs.Sent.{row_sent}
use Rattle.server_session.proofs.session.Session.send.Goals as goal

pub returns-then-put_first-clause-ok : goal.returns-then-put_first-clause-ok
returns-then-put_first-clause-ok c = λ q later waits is conn ledger.
    let s = c.args.self.now in
    row_sent ledger (kept_of s) (kept_of c.put_first.new.self) q later conn (omega (arith, c.requires.row, rows_counted s.result.rows)) (c.put_first.ensures.sent c.if-put_first.true)

pub send_spelled-requires-clause-row : goal.send_spelled-requires-clause-row
send_spelled-requires-clause-row c =
    let old = c.args.self.now.result.rows in
    let new = c.put_first.new.self.result.rows in
    let same : length (remaining_rows new) ≡ length (remaining_rows old) = ap (λ (k : Kept). length k.result.rows) (c.put_first.ensures.other c.if-put_first.false) in
    omega (arith, c.requires.row, rows_counted old, rows_counted new, same)
