use Rattle.std.proofs.Common.{◌≡◌, take}
use Rattle.structures_cells.specs.Prelude.{entries}
use Rattle.driver.proofs.queries.copy_params.Given as goal

abbrev pub invariant-loop-name : goal.invariant-loop-name
invariant-loop-name l = entries l.copies.items ≡ entries (take l.name-index l.name-items)
