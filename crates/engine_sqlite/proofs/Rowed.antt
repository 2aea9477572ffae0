-- The rows of a ledger, and one more.
use Rattle.std.proofs.Common.{◌≡◌, ◌<◌, ◌≤◌, refl, sym, ap, subst, ◌∙◌, ℕ, suc, ◌+◌, pos, List, [], ◌∷◌, ◌++◌, length, arith}
use Rattle.std.proofs.lemmas.Bool.Decides.{nat_tests}
use Rattle.std.proofs.lemmas.Int.{ints}
use Rattle.std.proofs.lemmas.List.Elements.{All-from_recursion, recursion_from_All}
use Rattle.std.proofs.lemmas.List.Sorted.{All-permutation, IsPermutation-append_left, IsPermutation-sym}
use Rattle.std.specs.List.{AllByRecursion}
use Rattle.std.specs.List.Sorted.{IsPermutation}
use Rattle.std.specs.declared.cmp.Ordering.TheVariants.{Less}
use Rattle.engine.specs.Views.{EntryView}
use Rattle.engine_sqlite.specs.Ledger.{AreRowsOf, HoldsLedger, IsRowOf}
use Rattle.engine_sqlite.specs.Table.{ledger_schema}
use Rattle.sqlite.specs.Order.{Row, value_cmp}
use Rattle.sqlite.specs.Tree.{Trees, put_row, rowid}
use Rattle.sqlite_catalog.specs.Listing.{IsSound}
use Rattle.sqlite_value.proofs.OrderLemmas.{value_cmp-Int}
use Rattle.sqlite.specs.declared.types.Value.TheVariants.{Int}

lower : (m n : ℕ) → m < n → value_cmp (Int (pos m)) (Int (pos n)) ≡ Less
lower m n h = value_cmp-Int (pos m) (pos n) ∙ grind (arith, ints, nat_tests)

-- a row has the rowid of its number
number_of : (n : ℕ) (e : EntryView) (row : Row) → IsRowOf n e row → rowid row ≡ Int (pos n)
number_of n e row h = ap rowid h.is

-- each row of a ledger is below that of any later number
all_below : (n m k : ℕ) (es : List EntryView) (rows : List Row) (e : EntryView) (row : Row) → k ≡ n + length es → k ≤ m → AreRowsOf n es rows → IsRowOf m e row
    → AllByRecursion (λ r. value_cmp (rowid r) (rowid row) ≡ Less) rows
all_below n m k [] [] e row is late h next = tt
all_below n m k (x ∷ es) (r ∷ rows) e row is late h next =
    (rw (number_of n x r h.0, number_of m e row next) (lower n m (omega (arith, is))), all_below (suc n) m k es rows e row (is ∙ omega arith) late h.1 next)
all_below n m k [] (r ∷ rows) e row is late h next = absurd h
all_below n m k (x ∷ es) [] e row is late h next = absurd h

-- the row of the next number is put behind the others
put_last : (row : Row) (rows : List Row) → AllByRecursion (λ r. value_cmp (rowid r) (rowid row) ≡ Less) rows → put_row row rows ≡ rows ++ row ∷ []
put_last row [] h = refl
put_last row (r ∷ rows) h = rw h.0 (ap (λ rs. r ∷ rs) (put_last row rows h.1))

-- rows of a ledger and the row of the next number
more_rows : (n m : ℕ) (es : List EntryView) (rows : List Row) (e : EntryView) (row : Row) → m ≡ n + length es → AreRowsOf n es rows → IsRowOf m e row
    → AreRowsOf n (es ++ e ∷ []) (rows ++ row ∷ [])
more_rows n m [] [] e row is h next = (subst (λ k. IsRowOf k e row) (is ∙ omega arith) next, tt)
more_rows n m (x ∷ es) (r ∷ rows) e row is h next = (h.0, more_rows (suc n) m es rows e row (is ∙ omega arith) h.1 next)
more_rows n m [] (r ∷ rows) e row is h next = absurd h
more_rows n m (x ∷ es) [] e row is h next = absurd h

pub holds_more : (old new : Trees) (es : List EntryView) (e : EntryView) (row : Row) → IsSound ledger_schema new → new 0 ≡ put_row row (old 0) → HoldsLedger old es → IsRowOf (length es + 1) e row
    → HoldsLedger new (es ++ e ∷ [])
holds_more old new es e row sound is h next =
    let Below = λ (r : Row). value_cmp (rowid r) (rowid row) ≡ Less in
    let lower = all_below 1 (length es + 1) (length es + 1) es h.rows e row (omega arith) (omega arith) h.each next in
    let all = recursion_from_All Below (old 0) (All-permutation Below h.rows (old 0) (IsPermutation-sym (old 0) h.rows h.same) (All-from_recursion Below h.rows lower)) in
    let put : new 0 ≡ old 0 ++ row ∷ [] = is ∙ put_last row (old 0) all in
    record {
      sound = sound;
      rows = h.rows ++ row ∷ [];
      same = subst (λ rows. IsPermutation rows (h.rows ++ row ∷ [])) (sym put) (IsPermutation-append_left (row ∷ []) (old 0) h.rows h.same);
      each = more_rows 1 (length es + 1) es h.rows e row (omega arith) h.each next;
    }
