use Rattle.std.proofs.Common.{sym, ◌∙◌}
use Rattle.driver.proofs.Columns.{column_next, row_ends}
use Rattle.driver.proofs.values.column.Goals as goal

pub returns-then-i-row : goal.returns-then-i-row
returns-then-i-row c = sym (row_ends c.args.name.now c.args.fields.now c.args.row.now c.loop-i.i c.if-i-row.true) ∙ c.loop-i.invariant

pub loop-i-preserved : goal.loop-i-preserved
loop-i-preserved c = column_next c.args.name.now c.args.fields.now c.args.row.now c.loop-i.i c.index-fields-i.result c.loop-i-test.true c.if-i-row.false c.index-fields-i.is (sym c.is_text.ensures ∙ c.if-is_text.false) ∙ c.loop-i.invariant
