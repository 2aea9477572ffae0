use Rattle.std.proofs.Common.{◌≡◌, ◌++◌}
use Rattle.std.specs.Vec.Iter.{into_iter_items}
use Rattle.engine.proofs.Joining.{joined}
use Rattle.engine.proofs.answer.Rows.from_lists.Given as goal

abbrev pub invariant-loop-row : goal.invariant-loop-row
invariant-loop-row l = l.cells.items ++ joined (into_iter_items l.row-iterator) ≡ joined l.fn.rows.items
