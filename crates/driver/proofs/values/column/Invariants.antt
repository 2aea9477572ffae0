use Rattle.std.proofs.Common.{◌≡◌, drop}
use Rattle.driver.specs.Values.{column}
use Rattle.driver.proofs.values.column.Given as goal

abbrev pub invariant-loop-i : goal.invariant-loop-i
invariant-loop-i l = column l.name (drop l.i l.fields) (drop l.i l.row) ≡ column l.name l.fields l.row
