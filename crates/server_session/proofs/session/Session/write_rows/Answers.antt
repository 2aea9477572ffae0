use Rattle.std.proofs.Common.{◌≡◌, sym, subst, ℕ, arith}
use Rattle.server_session.specs.Prelude.{Kept, WritesRows, kept_of}
use Rattle.server_session.proofs.Listed.{rows_counted}
use Rattle.server_session.proofs.Owed.{none_sent, one_sent, owed_some_rows, row_left}
use Rattle.server_session.proofs.session.Session.write_rows.Goals as goal

pub loop-count-init : goal.loop-count-init
loop-count-init c = none_sent (kept_of c.args.self.now)

pub write_row-requires : goal.write_row-requires
write_row-requires c =
    let left = row_left c.loop-count.count (owed_some_rows c.loop-count-test.true c.rows_owed-owed.ensures) c.loop-count.invariant c.loop-count-test.true in
    record { row = omega (arith, left, rows_counted c.loop-count.self.result.rows) }

pub returns-then-not-write_row : goal.returns-then-not-write_row
returns-then-not-write_row c = subst (λ (x : Kept). WritesRows c.loop-count.count (kept_of c.args.self.now) x) (sym (c.write_row.ensures.other c.if-not-write_row.true)) c.loop-count.invariant.rows

pub loop-count-preserved : goal.loop-count-preserved
loop-count-preserved c = one_sent c.loop-count.count (owed_some_rows c.loop-count-test.true c.rows_owed-owed.ensures) c.loop-count.invariant c.loop-count-test.true (c.write_row.ensures.room c.if-not-write_row.false) (c.write_row.ensures.sent c.if-not-write_row.false)

pub returns : goal.returns
returns c =
    let all : c.loop-count.count ≡ c.rows_owed-owed.result = omega (arith, c.loop-count-test.false, c.loop-count.auto.count-end) in
    subst (λ (n : ℕ). WritesRows n (kept_of c.args.self.now) (kept_of c.loop-count.self)) all c.loop-count.invariant.rows
