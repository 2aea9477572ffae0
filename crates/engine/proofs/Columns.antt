-- Rows of cells, one behind the other.
use Rattle.std.proofs.Common.{◌≡◌, ℕ, zero, suc, List, [], ◌∷◌, length, refl, sym, ap, ◌∙◌}
use Rattle.std.proofs.lemmas.List.{length-map}
use Rattle.packstream.specs.Prelude.{Tree}
use Rattle.structures_cells.specs.Prelude.{shape, shapes}
use Rattle.structures_cells.specs.declared.cell.Cell.{Cell}
use Rattle.engine.specs.Prelude.{column_rows, rows_in}

-- there are as many as are counted
pub length-rows_in : (width n : ℕ) (cells : List Tree) → length (rows_in width n cells) ≡ n
length-rows_in width zero cells = refl
length-rows_in width (suc n) cells = ap suc (length-rows_in width n _)

column_in : (cells : List Tree) → rows_in 1 (length cells) cells ≡ column_rows cells
column_in [] = refl
column_in (c ∷ cells) = ap (λ rows. (c ∷ []) ∷ rows) (column_in cells)

-- rows of one cell each
pub rows_of_column : (cells : List Cell) → rows_in 1 (length cells) (shapes cells) ≡ column_rows (shapes cells)
rows_of_column cells = ap (λ (n : ℕ). rows_in 1 n (shapes cells)) (sym (length-map cells shape)) ∙ column_in (shapes cells)
