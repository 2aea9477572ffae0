use Rattle.std.proofs.Common.{sym, ◌∙◌, arith}
use Rattle.server_session.proofs.Listed.{rows_counted}
use Rattle.server_session.proofs.Owed.{owes_next}
use Rattle.server_session.specs.Views.{open_of}
use Rattle.server_session.proofs.session.Session.rows_for.Goals as goal

pub returns-else-not-is_streaming : goal.returns-else-not-is_streaming
returns-else-not-is_streaming c = λ i l.
    let least = c.min.ensures in
    rw c.in-Pull.is (owes_next c.args.self.now.state (open_of c.args.self.now.result) c.in-Pull.count i (sym c.is_streaming.ensures ∙ c.if-not-is_streaming.false) (c.left_of.ensures i (omega (arith, l, least))) (omega (arith, l, least, rows_counted c.args.self.now.result.rows)))
