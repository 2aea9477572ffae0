-- The cells of an answer's rows.
use Rattle.std.specs.Prelude.{List, [], ◌∷◌}
use Rattle.structures_cells.specs.declared.cell.Cell.{Cell}
use Rattle.engine.specs.declared.row_cells.Cells.{Cells}
use Rattle.engine.specs.declared.row_cells.Cells.TheVariants.{One, Many}

-- one behind the other
abbrev pub cells_in : Cells → List Cell
cells_in (One cell) = cell ∷ []
cells_in (Many cells) = cells.items
