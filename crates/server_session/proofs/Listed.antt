-- Rows as lists of cells.
use Rattle.std.proofs.Common.{◌≡◌, ◌<◌, ◌≤◌, ◌+◌, ℕ, zero, suc, List, [], ◌∷◌, length, map, take, drop, Vec, Global, refl, sym, ap, subst, ◌∙◌, add-one, arith}
use Rattle.std.proofs.lemmas.List.{take-map, drop-map, drop-drop}
use Rattle.std.specs.List.{AllZip}
use Rattle.packstream.specs.Prelude.{Tree, list, trees_of}
use Rattle.wire.specs.declared.Version.{Version}
use Rattle.structures_cells.specs.declared.cell.Cell.{Cell, List as ListCell}
use Rattle.structures_cells.specs.Prelude.{shape, shapes}
use Rattle.structures_cells.proofs.Views.{shape-List}
use Rattle.structures.specs.Prelude.{fitted}
use Rattle.structures.proofs.Fitted.{fitted_list}
use Rattle.engine.specs.declared.answer.Answer.{Answer}
use Rattle.engine.specs.declared.answer.Mode.{Mode as QueryMode}
use Rattle.engine.specs.Prelude.{cells_in, rows_in, answer_view, IsAnswer}
use Rattle.engine.proofs.Columns.{length-rows_in}
use Rattle.server_session.specs.declared.remaining.Remaining.{Remaining}
use Rattle.server_session.specs.Prelude.{rows_fitted, remaining_rows}

same_trees : (xs ys : List Tree) → trees_of xs ≡ trees_of ys → xs ≡ ys
same_trees [] [] h = refl
same_trees (x ∷ xs) (y ∷ ys) h =
    let a : x ≡ y = cc in
    let b : trees_of xs ≡ trees_of ys = cc in
    rw (a, same_trees xs ys b) refl
same_trees _ _ h = absurd cc

list_same : (xs ys : List Tree) → list (trees_of xs) ≡ list (trees_of ys) → xs ≡ ys
list_same xs ys h = let e : trees_of xs ≡ trees_of ys = cc in same_trees xs ys e

-- the members of a list that was fitted
pub row_is : (v : Version) (cells : Vec Cell Global) (r : List Tree) → list (trees_of r) ≡ fitted v (shape (ListCell cells)) → r ≡ map (fitted v) (shapes cells.items)
row_is v cells r h = list_same r (map (fitted v) (shapes cells.items)) (h ∙ ap (fitted v) (shape-List cells) ∙ ap list (fitted_list v (shapes cells.items)))

pub ruleset list_shapes = (shape-List)

-- Rows, as lists of trees.
pub rows_counted : (r : Remaining) → length (remaining_rows r) ≡ r.count
rows_counted r = length-rows_in r.width r.count _

-- the rows of cells that were fitted
pub rows_in_fitted : (v : Version) (width n : ℕ) (cells : List Tree) → rows_in width n (map (fitted v) cells) ≡ rows_fitted v (rows_in width n cells)
rows_in_fitted v width zero cells = refl
rows_in_fitted v width (suc n) cells =
    ap (λ (r : List Tree). r ∷ rows_in width n (drop width (map (fitted v) cells))) (take-map (fitted v) width cells)
    ∙ ap (λ (r : List Tree). map (fitted v) (take width cells) ∷ rows_in width n r) (drop-map (fitted v) width cells)
    ∙ ap (λ (rs : List (List Tree)). map (fitted v) (take width cells) ∷ rs) (rows_in_fitted v width n (drop width cells))

-- the rows of an answer are few
pub few_answered : (mode : QueryMode) (a : Answer) → IsAnswer mode (answer_view a) → a.rows.count ≤ 1024
few_answered mode a h = subst (λ (n : ℕ). n ≤ 1024) (length-rows_in a.rows.width a.rows.count (shapes (cells_in a.rows.cells))) h.few_rows

-- the first row, where one is left
pub row_first : (cells : List Cell) (start width n : ℕ) (row : List Tree) (rest : List (List Tree)) → 0 < n → rows_in width n (drop start (shapes cells)) ≡ row ∷ rest → shapes (take width (drop start cells)) ≡ row
row_first cells start width zero row rest some h = absurd (omega (arith, some))
row_first cells start width (suc n) row rest some h =
    sym (take-map shape width (drop start cells)) ∙ ap (take width) (sym (drop-map shape start cells)) ∙ cc

-- the rows behind it
pub rows_behind : (cells : List Tree) (start width n m : ℕ) → m + 1 ≡ n → rows_in width m (drop (start + width) cells) ≡ drop 1 (rows_in width n (drop start cells))
rows_behind cells start width n m e =
    ap (λ (l : List Tree). rows_in width m l) (sym (drop-drop width start cells)) ∙ ap (λ (k : ℕ). drop 1 (rows_in width k (drop start cells))) (sym (add-one m) ∙ e)

-- copies of cells
pub copied_shapes : (cs copies : List Cell) → AllZip (λ c copy. shape copy ≡ shape c) cs copies → shapes copies ≡ shapes cs
copied_shapes [] [] h = refl
copied_shapes (c ∷ cs) (d ∷ ds) h = rw (h.0, copied_shapes cs ds h.1) refl
copied_shapes [] (d ∷ ds) h = absurd h
copied_shapes (c ∷ cs) [] h = absurd h
