-- The trees that cells are seen as, whatever their version.
use Rattle.std.specs.Prelude.{length, ◌++◌, Bool, true, false, IsTrue, not, ◌&&◌, ◌||◌, ◌==◌, Option, None, Some}
use Rattle.packstream.specs.Good.{count}
use Rattle.packstream.specs.Plain.{IsPlain}
use Rattle.packstream.specs.Tree.{Tree, null, boolean, int, float, byte_string, text, list, dict, structure, Trees, no_trees, tree_then, Entries, no_entries, entry_then}
use Rattle.structures_cells.specs.Table.{Row, row_in, table, legacy_date_time_tag}
use Rattle.structures_cells.specs.Faults.{are_kinds}

-- as many fields as the row has, or as it has with those that come with element ids
abbrev pub has_count : Row → Trees → Bool
has_count r ts = (count ts == length r.fields) || (count ts == length (r.fields ++ r.added))

-- there is a row, and the fields are as many as it has and of their kinds
abbrev pub is_row : Option Row → Trees → Bool
is_row None ts = false
is_row (Some r) ts = has_count r ts && are_kinds (r.fields ++ r.added) ts

-- Each structure is one of the table, with the fields of its row and of their kinds; a legacy DateTime doesn't occur.
abbrev mutual
  pub is_typed : Tree → Bool
  is_typed null = true
  is_typed (boolean b) = true
  is_typed (int z) = true
  is_typed (float n) = true
  is_typed (byte_string s) = true
  is_typed (text s) = true
  is_typed (list ts) = are_typed ts
  is_typed (dict es) = have_typed es
  is_typed (structure tag ts) =
      not (tag == legacy_date_time_tag) && (is_row (row_in tag table) ts && are_typed ts)

  pub are_typed : Trees → Bool
  are_typed no_trees = true
  are_typed (tree_then t ts) = is_typed t && are_typed ts

  pub have_typed : Entries → Bool
  have_typed no_entries = true
  have_typed (entry_then k t es) = is_typed t && have_typed es

-- a tree of cells: typed, its texts UTF-8 and its numbers in their ranges
abbrev pub IsCellTree : Tree → Type 0
IsCellTree t = IsTrue (is_typed t) × IsPlain t
