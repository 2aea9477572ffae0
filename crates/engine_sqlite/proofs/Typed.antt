-- What the table of entries holds, by its types and by what is shown of it.
use Rattle.std.proofs.Common.{◌≡◌, ◌≤◌, refl, sym, ap, subst, ◌∙◌, ℕ, suc, ◌+◌, ℤ, Bool, true, false, not, ◌&&◌, if◌then◌else◌, Option, Some, List, [], ◌∷◌, length, map, arith}
use Rattle.std.proofs.lemmas.List.Elements.{All-from_recursion, recursion_from_All}
use Rattle.std.proofs.lemmas.List.Sorted.{All-permutation, IsPermutation-map, IsPermutation-sym}
use Rattle.std.specs.List.{AllByRecursion}
use Rattle.std.specs.List.Sorted.{IsPermutation}
use Rattle.engine.specs.Views.{EntryView}
use Rattle.engine_sqlite.specs.Ledger.{AreRowsOf, HoldsLedger, IsRowOf}
use Rattle.engine_sqlite.specs.Shown.{AreShownAs, IsShownAs}
use Rattle.engine_sqlite.specs.Table.{entry_table, ledger_schema}
use Rattle.engine_sqlite.proofs.Selecting.{shown_of}
use Rattle.sqlite.specs.Kind.TheVariants.{Integer}
use Rattle.sqlite.specs.Order.{Row, column}
use Rattle.sqlite.specs.Tree.{Trees}
use Rattle.sqlite_catalog.specs.Listing.{IsSound}
use Rattle.sqlite_schema.specs.Names.{is_key}
use Rattle.sqlite_schema.specs.Rules.{are_typed, is_of, passes, suits}
use Rattle.sqlite_schema.specs.declared.schema.Column.{Column}
use Rattle.sqlite_schema.specs.declared.schema.Constraint.TheVariants.{Datatype, NotNull}
use Rattle.sqlite.specs.Ops.{is_null}
use Rattle.sqlite_value.specs.declared.value.Value.{Value}
use Rattle.sqlite_value.specs.declared.value.Value.TheVariants.{Null, Int, Real, Text, Blob}

left_of : (a b : Bool) → a && b ≡ true → a ≡ true
left_of true b h = refl
left_of false b h = h

right_of : (a b : Bool) → a && b ≡ true → b ≡ true
right_of true b h = h
right_of false b h = absurd cc

null_is : (v : Value) → is_null v ≡ true → v ≡ Null
null_is Null h = refl
null_is (Int n) h = absurd cc
null_is (Real x) h = absurd cc
null_is (Text t) h = absurd cc
null_is (Blob b) h = absurd cc

int_is : (v : Value) → is_of Integer v ≡ true → not (is_null v) ≡ true → (n : ℤ) × (v ≡ Int n)
int_is Null h k = absurd cc
int_is (Int n) h k = (n, refl)
int_is (Real x) h k = absurd cc
int_is (Text t) h k = absurd cc
int_is (Blob b) h k = absurd cc

-- typed values are no more than the columns
as_long : (key : Option ℕ) (at : ℕ) (cs : List Column) (vs : Row) → are_typed key at cs vs ≡ true → length vs ≤ length cs
as_long key at [] [] h = omega arith
as_long key at [] (v ∷ vs) h = absurd cc
as_long key at (c ∷ cs) [] h = omega arith
as_long key at (c ∷ cs) (v ∷ vs) h = let more = as_long key (at + 1) cs vs (right_of (if is_key key at then is_null v else suits c v) (are_typed key (at + 1) cs vs) h) in omega (arith, more)

-- the row of which so much is shown
abbrev unshown : Row → Row
unshown s = column s 0 ∷ Null ∷ column s 1 ∷ column s 2 ∷ column s 3 ∷ column s 4 ∷ column s 5 ∷ []

-- a row of the table that has a value in its last column is what is shown of it
row_is : (db : Trees) (r : Row) (bytes : List ℕ) → passes Datatype ledger_schema db entry_table r ≡ true → passes NotNull ledger_schema db entry_table r ≡ true → column r 6 ≡ Blob bytes
    → (unshown (shown_of r) ≡ r) × (n : ℤ) × (column r 2 ≡ Int n)
row_is db [] bytes t k b = absurd cc
row_is db (v0 ∷ []) bytes t k b = absurd cc
row_is db (v0 ∷ v1 ∷ []) bytes t k b = absurd cc
row_is db (v0 ∷ v1 ∷ v2 ∷ []) bytes t k b = absurd cc
row_is db (v0 ∷ v1 ∷ v2 ∷ v3 ∷ []) bytes t k b = absurd cc
row_is db (v0 ∷ v1 ∷ v2 ∷ v3 ∷ v4 ∷ []) bytes t k b = absurd cc
row_is db (v0 ∷ v1 ∷ v2 ∷ v3 ∷ v4 ∷ v5 ∷ []) bytes t k b = absurd cc
row_is db (v0 ∷ v1 ∷ v2 ∷ v3 ∷ v4 ∷ v5 ∷ v6 ∷ []) bytes t k b =
    let typed = left_of _ _ t in
    let null : v1 ≡ Null = null_is v1 (left_of _ _ typed) in
    let int = int_is v2 (left_of _ _ (right_of _ _ typed)) (left_of _ _ k) in
    (ap (λ v. v0 ∷ v ∷ v2 ∷ v3 ∷ v4 ∷ v5 ∷ v6 ∷ []) (sym null), int.0, int.1)
row_is db (v0 ∷ v1 ∷ v2 ∷ v3 ∷ v4 ∷ v5 ∷ v6 ∷ v7 ∷ vs) bytes t k b =
    let long = as_long (Some 0) 0 entry_table.columns (v1 ∷ v2 ∷ v3 ∷ v4 ∷ v5 ∷ v6 ∷ v7 ∷ vs) (left_of _ _ t) in
    absurd (omega (arith, long))

-- it ends in bytes, and its second value is a number
abbrev EndsInBytes : Row → Type 0
EndsInBytes s = (bytes : List ℕ) × (column s 5 ≡ Blob bytes)

abbrev HasOpening : Row → Type 0
HasOpening s = (n : ℤ) × (column s 1 ≡ Int n)

rows_are : (db : Trees) (rows : List Row) → AllByRecursion (λ r. passes Datatype ledger_schema db entry_table r ≡ true) rows → AllByRecursion (λ r. passes NotNull ledger_schema db entry_table r ≡ true) rows
    → AllByRecursion EndsInBytes (map shown_of rows) → (map unshown (map shown_of rows) ≡ rows) × AllByRecursion HasOpening (map shown_of rows)
rows_are db [] t k h = (refl, tt)
rows_are db (r ∷ rows) t k h =
    let one = row_is db r h.0.0 t.0 k.0 h.0.1 in
    let more = rows_are db rows t.1 k.1 h.1 in
    (ap (λ x. x ∷ map unshown (map shown_of rows)) one.0 ∙ ap (λ xs. r ∷ xs) more.0, ((one.1, one.2), more.1))

end_in_bytes : (n : ℕ) (es : List EntryView) (rows : List Row) → AreShownAs n es rows → AllByRecursion EndsInBytes rows
end_in_bytes n [] [] h = tt
end_in_bytes n [] (row ∷ rows) h = absurd h
end_in_bytes n (e ∷ es) [] h = absurd h
end_in_bytes n (e ∷ es) (row ∷ rows) h = ((h.0.writes.0, h.0.writes.2), end_in_bytes (suc n) es rows h.1)

row_of_shown : (n : ℕ) (e : EntryView) (s : Row) → IsShownAs n e s → HasOpening s → IsRowOf n e (unshown s)
row_of_shown n e s h opening = record {
  opening = opening.0;
  bytes = h.writes.0;
  spelled = h.writes.1;
  is = rw (h.number_is, opening.1, h.conn_is, h.ordinal_is, h.token_is, h.writes.2) refl;
}

rows_of_shown : (n : ℕ) (es : List EntryView) (rows : List Row) → AreShownAs n es rows → AllByRecursion HasOpening rows → AreRowsOf n es (map unshown rows)
rows_of_shown n [] [] h k = tt
rows_of_shown n [] (row ∷ rows) h k = absurd h
rows_of_shown n (e ∷ es) [] h k = absurd h
rows_of_shown n (e ∷ es) (row ∷ rows) h k = (row_of_shown n e row h.0 k.0, rows_of_shown (suc n) es rows h.1 k.1)

-- where these entries are shown, the table holds them
pub shown_holds : (db : Trees) (es : List EntryView) (rows : List Row) → IsSound ledger_schema db → IsPermutation (map shown_of (db 0)) rows → AreShownAs 1 es rows → HoldsLedger db es
shown_holds db es rows sound same each =
    let all = map shown_of (db 0) in
    let back = IsPermutation-sym all rows same in
    let bytes = recursion_from_All EndsInBytes all (All-permutation EndsInBytes rows all back (All-from_recursion EndsInBytes rows (end_in_bytes 1 es rows each))) in
    let are = rows_are db (db 0) (sound.obeys.rules Datatype).0 (sound.obeys.rules NotNull).0 bytes in
    let openings = recursion_from_All HasOpening rows (All-permutation HasOpening all rows same (All-from_recursion HasOpening all are.1)) in
    record {
      sound = sound;
      rows = map unshown rows;
      same = subst (λ xs. IsPermutation xs (map unshown rows)) are.0 (IsPermutation-map unshown all rows same);
      each = rows_of_shown 1 es rows each openings;
    }
