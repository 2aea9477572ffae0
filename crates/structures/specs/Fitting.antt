-- A cell, seen as its tree, in the form of a version: without element ids if it has none, and else with the decimal texts
-- of the ids where they were absent.
use Rattle.std.specs.Prelude.{◌≡◌, Result, Ok, Err, ℤ, ℕ, zero, suc, List, [], ◌∷◌, length, if◌then◌else◌, ◌==◌, Option, None, Some}
use Rattle.std.specs.Fmt.{signed_decimal}
use Rattle.packstream.specs.Tree.{Tree, null, boolean, int, float, byte_string, text, list, dict, structure, Trees, no_trees, tree_then, Entries, no_entries, entry_then}
use Rattle.packstream.specs.Good.{count}
use Rattle.wire.specs.declared.Version.{Version}
use Rattle.wire.specs.Versions.{has_element_ids}
use Rattle.structures_cells.specs.declared.table.Field.{Field}
use Rattle.structures_cells.specs.declared.cell.Cell.{Cell}
use Rattle.structures_cells.specs.Shape.{shape}
use Rattle.structures_cells.specs.Table.{Row, row_in, table}
use Rattle.structures.specs.declared.fault.CellFault.{CellFault}
use Rattle.structures.specs.declared.fault.CellFault.TheVariants as told

-- the decimal text of an id
abbrev pub decimal_text : Tree → Tree
decimal_text (int z) = text (signed_decimal z)
decimal_text t = t

-- the first fields
abbrev pub front : ℕ → Trees → Trees
front zero ts = no_trees
front (suc n) no_trees = no_trees
front (suc n) (tree_then t ts) = tree_then t (front n ts)

-- the decimal texts of ids, in order
abbrev pub decimal_texts : Trees → Trees
decimal_texts no_trees = no_trees
decimal_texts (tree_then t ts) = tree_then (decimal_text t) (decimal_texts ts)

-- these and then those
abbrev pub trees_in_order : Trees → Trees → Trees
trees_in_order no_trees us = us
trees_in_order (tree_then t ts) us = tree_then t (trees_in_order ts us)

-- the fields with as many texts of ids, the ids being the first fields, if none are there yet
abbrev pub with_texts : List Field → List Field → Trees → Trees
with_texts fs more ts = if count ts == length fs then
    trees_in_order ts (decimal_texts (front (length more) ts)) else ts

-- the fields at a version, if it has these more with element ids
abbrev pub with_added : Version → List Field → List Field → Trees → Trees
with_added v fs [] ts = ts
with_added v fs (f ∷ more) ts =
    if has_element_ids v then with_texts fs (f ∷ more) ts else front (length fs) ts

-- the fields of a structure at a version, by its tag's row
abbrev pub fitted_by : Version → Option Row → Trees → Trees
fitted_by v None ts = ts
fitted_by v (Some r) ts = with_added v r.fields r.added ts

-- the whole of a cell
abbrev mutual
  pub fitted : Version → Tree → Tree
  fitted v null = null
  fitted v (boolean b) = boolean b
  fitted v (int z) = int z
  fitted v (float n) = float n
  fitted v (byte_string s) = byte_string s
  fitted v (text s) = text s
  fitted v (list ts) = list (fitted_all v ts)
  fitted v (dict es) = dict (fitted_under v es)
  fitted v (structure tag ts) = structure tag (fitted_by v (row_in tag table) (fitted_all v ts))

  pub fitted_all : Version → Trees → Trees
  fitted_all v no_trees = no_trees
  fitted_all v (tree_then t ts) = tree_then (fitted v t) (fitted_all v ts)

  pub fitted_under : Version → Entries → Entries
  fitted_under v no_entries = no_entries
  fitted_under v (entry_then k t es) = entry_then k (fitted v t) (fitted_under v es)

-- an entry's value
abbrev pub fitted_entry : Version → List ℕ × Tree → List ℕ × Tree
fitted_entry v e = (e.0, fitted v e.1)

-- the element id of one id, as its decimal text where there was none
abbrev pub element_or : ℤ → Trees → Trees
element_or id no_trees = tree_then (text (signed_decimal id)) no_trees
element_or id (tree_then t ts) = tree_then t ts

-- the same at a version, and none if the version has no element ids
abbrev pub element_at : Version → ℤ → Trees → Trees
element_at v id es = if has_element_ids v then element_or id es else no_trees

-- the element ids of three ids, as their decimal texts where there were none
abbrev pub elements_or : ℤ → ℤ → ℤ → Trees → Trees
elements_or id start end no_trees =
    tree_then (text (signed_decimal id))
    (tree_then (text (signed_decimal start))
    (tree_then (text (signed_decimal end)) no_trees))
elements_or id start end (tree_then t ts) = tree_then t ts

-- the same at a version, and none if the version has no element ids
abbrev pub elements_at : Version → ℤ → ℤ → ℤ → Trees → Trees
elements_at v id start end es = if has_element_ids v then elements_or id start end es else no_trees

-- what `fit` answers: the cell in the form of the version, unless memory ran out
abbrev pub Fits : Version → Tree → Result Cell CellFault → Type 0
Fits v s (Ok c) = shape c ≡ fitted v s
Fits v s (Err told.Memory) = Unit {0}
Fits v s (Err (told.Refused r k)) = ⊥
Fits v s (Err (told.Pack r o)) = ⊥
