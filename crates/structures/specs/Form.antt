-- What a tree is read as, and how a cell is written.
use Rattle.std.specs.Prelude.{◌≡◌, ℕ, ◌+ℤ◌, if◌then◌else◌, ◌==◌}
use Rattle.packstream.specs.Tree.{Tree, null, boolean, int, float, byte_string, text, list, dict, structure, Trees, no_trees, tree_then, Entries, no_entries, entry_then}
use Rattle.wire.specs.declared.Version.{Version}
use Rattle.wire.specs.Versions.{has_utc_times}
use Rattle.structures_cells.specs.Table.{date_time_tag, legacy_date_time_tag}
use Rattle.structures_cells.specs.Faults.{utc_fields, IsFine}

-- the tag that a structure is read with: of a legacy DateTime that of one with seconds in UTC
abbrev pub typed_tag : ℕ → ℕ
typed_tag tag = if tag == legacy_date_time_tag then date_time_tag else tag

-- what a value is read as
abbrev mutual
  pub typed : Tree → Tree
  typed null = null
  typed (boolean b) = boolean b
  typed (int z) = int z
  typed (float n) = float n
  typed (byte_string s) = byte_string s
  typed (text s) = text s
  typed (list ts) = list (typed_all ts)
  typed (dict es) = dict (typed_under es)
  typed (structure tag ts) = structure (typed_tag tag) (utc_fields tag (typed_all ts))

  pub typed_all : Trees → Trees
  typed_all no_trees = no_trees
  typed_all (tree_then t ts) = tree_then (typed t) (typed_all ts)

  pub typed_under : Entries → Entries
  typed_under no_entries = no_entries
  typed_under (entry_then k t es) = entry_then k (typed t) (typed_under es)

-- the form table as a relation: a cell, seen as its tree, and a value
abbrev pub Form : Version → Tree → Tree → Type 0
Form v cell t = IsFine v t × (cell ≡ typed t)

-- seconds in UTC, nanoseconds and offset, with the seconds brought to local ones
abbrev pub to_local : Trees → Trees
to_local (tree_then (int utc) (tree_then t (tree_then (int offset) no_trees))) =
    tree_then (int (utc +ℤ offset)) (tree_then t (tree_then (int offset) no_trees))
to_local ts = ts

-- a DateTime at a version
abbrev pub moment : Version → Trees → Tree
moment v ts = if has_utc_times v then structure date_time_tag ts
    else structure legacy_date_time_tag (to_local ts)

-- a structure at a version
abbrev pub form_of_structure : Version → ℕ → Trees → Tree
form_of_structure v tag ts = if tag == date_time_tag then moment v ts else structure tag ts

-- a cell at a version
abbrev mutual
  pub form : Version → Tree → Tree
  form v null = null
  form v (boolean b) = boolean b
  form v (int z) = int z
  form v (float n) = float n
  form v (byte_string s) = byte_string s
  form v (text s) = text s
  form v (list ts) = list (form_all v ts)
  form v (dict es) = dict (form_under v es)
  form v (structure tag ts) = form_of_structure v tag (form_all v ts)

  pub form_all : Version → Trees → Trees
  form_all v no_trees = no_trees
  form_all v (tree_then t ts) = tree_then (form v t) (form_all v ts)

  pub form_under : Version → Entries → Entries
  form_under v no_entries = no_entries
  form_under v (entry_then k t es) = entry_then k (form v t) (form_under v es)
