-- Rows that are lists of cells, joined to one list.
use Rattle.std.proofs.Common.{◌≡◌, ℕ, ◌*◌, List, [], ◌∷◌, ◌++◌, length, take, drop, refl, sym, ap, ◌∙◌, arith, length-append, append-nil, append_assoc}
use Rattle.std.proofs.lemmas.List.{length-map, map-append, take_at, drop_at}
use Rattle.std.proofs.lemmas.List.Elements.{All-head, All-tail}
use Rattle.std.specs.declared.alloc.Global.{Global}
use Rattle.std.specs.declared.vec.Vec.{Vec}
use Rattle.packstream.specs.Prelude.{Tree}
use Rattle.structures_cells.specs.Prelude.{shape, shapes}
use Rattle.structures_cells.specs.declared.cell.Cell.{Cell}
use Rattle.engine.specs.Prelude.{rows_in, listed_rows, AreWide}

-- the cells of all rows, in order
pub joined : List (Vec Cell Global) → List Cell
joined [] = []
joined (row ∷ rows) = row.items ++ joined rows

-- the cells of rows that are as wide, by their number
pub count_joined : (width : ℕ) (rows : List (Vec Cell Global)) → AreWide width rows
    → length rows * width ≡ length (joined rows)
unfolding joined
count_joined width [] wide = omega arith
count_joined width (row ∷ rows) wide =
    let head : length row.items ≡ width = All-head (λ (r : Vec Cell Global). length r.items ≡ width) row rows wide in
    let more = count_joined width rows (All-tail (λ (r : Vec Cell Global). length r.items ≡ width) row rows wide) in
    omega (arith, head, more, length-append row.items (joined rows))

-- rows of the joined cells
pub joined_rows : (width : ℕ) (rows : List (Vec Cell Global)) → AreWide width rows
    → rows_in width (length rows) (shapes (joined rows)) ≡ listed_rows rows
unfolding joined
joined_rows width [] wide = refl
joined_rows width (row ∷ rows) wide =
    let head : length row.items ≡ width = All-head (λ (r : Vec Cell Global). length r.items ≡ width) row rows wide in
    let more = joined_rows width rows (All-tail (λ (r : Vec Cell Global). length r.items ≡ width) row rows wide) in
    let long : length (shapes row.items) ≡ width = length-map row.items shape ∙ head in
    let split : shapes (row.items ++ joined rows) ≡ shapes row.items
    ++ shapes (joined rows) = map-append shape row.items (joined rows) in
    let first : take width (shapes (row.items ++ joined rows)) ≡ shapes row.items = ap (take width) split
    ∙ take_at (shapes row.items) (shapes (joined rows)) width long in
    let rest : drop width (shapes (row.items ++ joined rows)) ≡ shapes (joined rows) = ap (drop width) split
    ∙ drop_at (shapes row.items) (shapes (joined rows)) width long in
    ap (λ (x : List Tree). x ∷ rows_in width (length rows) (drop width (shapes (row.items ++ joined rows)))) first
    ∙ ap (λ (xs : List (List Tree)). shapes row.items ∷ xs) (ap (rows_in width (length rows)) rest ∙ more)

-- all rows were joined
pub all_joined : (cells : List Cell) (left : List (Vec Cell Global)) → left ≡ [] → cells ≡ cells ++ joined left
unfolding joined
all_joined cells left none = sym (append-nil cells) ∙ ap (λ (xs : List (Vec Cell Global)). cells
    ++ joined xs) (sym none)

-- a row more was joined
pub more_joined : (cells new : List Cell) (row : Vec Cell Global) (rest left : List (Vec Cell Global))
    → left ≡ row ∷ rest → new ≡ cells ++ row.items → new ++ joined rest ≡ cells ++ joined left
unfolding joined
more_joined cells new row rest left step added =
    ap (λ (xs : List Cell). xs ++ joined rest) added ∙ append_assoc cells row.items (joined rest)
    ∙ ap (λ (xs : List (Vec Cell Global)). cells ++ joined xs) (sym step)
