-- Which cell a value stands for, as the rows of the table lay it out, and not how it is read.
use Rattle.std.specs.Prelude.{◌≡◌, ◌≢◌, ◌≤◌, ◌<◌, ℕ, ℤ, pos, neg_ℤ, nat_abs, ◌+ℤ◌, ◌≤ℤ◌, List, [], ◌∷◌, ◌++◌, Bool, true, false, Contains}
use Rattle.packstream.specs.Tree.{Tree, null, boolean, int, float, byte_string, text, list, dict, structure, Trees, no_trees, tree_then, Entries, no_entries, entry_then}
use Rattle.packstream.specs.Good.{count}
use Rattle.wire.specs.declared.Version.{Version}
use Rattle.wire.specs.Versions.{has_element_ids}
use Rattle.structures_cells.specs.declared.table.Field.{Field}
use Rattle.structures_cells.specs.declared.table.Field.TheVariants.{Integer, Nanosecond, DayNanosecond, Offset, UtcSecond, Float, Text, Labels, Properties, Nodes, Relationships, Indices}
use Rattle.structures_cells.specs.Table.{Row, table, node_tag, unbound_tag, path_tag, date_time_tag, legacy_date_time_tag}

-- these values are all made in one way: all texts, all integers, or all structures of one tag
pub data AreMade (A : Type 0) (make : A → Tree) : Trees → Type 0 where
  none_made : AreMade A make no_trees
  then_made : (x : A) (ts : Trees) → AreMade A make ts → AreMade A make (tree_then (make x) ts)

-- what a field of each kind may hold
pub data OfKind : Field → Tree → Type 0 where
  any_whole : (z : ℤ) → OfKind Integer (int z)
  within_second : (z : ℤ) → pos 0 ≤ℤ z → z ≤ℤ pos 999999999 → OfKind Nanosecond (int z)
  within_day : (z : ℤ) → pos 0 ≤ℤ z → z ≤ℤ pos 86399999999999 → OfKind DayNanosecond (int z)
  within_offset : (z : ℤ) → neg_ℤ (pos 64800) ≤ℤ z → z ≤ℤ pos 64800 → OfKind Offset (int z)
  within_utc : (z : ℤ) → neg_ℤ (pos 100000000000000000) ≤ℤ z → z ≤ℤ pos 100000000000000000
      → OfKind UtcSecond (int z)
  any_number : (n : ℕ) → OfKind Float (float n)
  any_text : (s : List ℕ) → OfKind Text (text s)
  any_labels : (ts : Trees) → AreMade (List ℕ) text ts → OfKind Labels (list ts)
  any_properties : (es : Entries) → OfKind Properties (dict es)
  any_nodes : (ts : Trees) → AreMade Trees (structure node_tag) ts → OfKind Nodes (list ts)
  any_relationships : (ts : Trees) → AreMade Trees (structure unbound_tag) ts
      → OfKind Relationships (list ts)
  any_indices : (ts : Trees) → AreMade ℤ int ts → OfKind Indices (list ts)

-- fields of these kinds, in order, and as many
pub data OfKinds : List Field → Trees → Type 0 where
  no_kinds : OfKinds [] no_trees
  then_kind : (k : Field) (ks : List Field) (t : Tree) (ts : Trees) → OfKind k t → OfKinds ks ts
      → OfKinds (k ∷ ks) (tree_then t ts)

-- steps of a path: each by a relationship, counted from 1 and negative against its direction, to a node, counted from 0
pub data Walks (nodes relationships : ℕ) : Trees → Type 0 where
  no_steps : Walks nodes relationships no_trees
  then_step : (z : ℤ) (i : ℕ) (ts : Trees) → 1 ≤ nat_abs z → nat_abs z ≤ relationships → i < nodes
      → Walks nodes relationships ts
      → Walks nodes relationships (tree_then (int z) (tree_then (int (pos i)) ts))

-- where the structure is a path, it has a node and its steps walk
pub data IsShaped : ℕ → Trees → Type 0 where
  no_path : (tag : ℕ) (ts : Trees) → tag ≢ path_tag → IsShaped tag ts
  a_path : (nodes relationships steps : Trees) → 1 ≤ count nodes
      → Walks (count nodes) (count relationships) steps
      → IsShaped path_tag (tree_then (list nodes)
      (tree_then (list relationships) (tree_then (list steps) no_trees)))

-- a row of the table with this tag stands at the version, and these are its fields there: those that come with element ids too
-- if the version has them
pub data HasRow (v : Version) : ℕ → List Field → Type 0 where
  row_alone : (r : Row) → Contains table r → r.stands v ≡ true → has_element_ids v ≡ false
      → HasRow v r.tag r.fields
  row_with_ids : (r : Row) → Contains table r → r.stands v ≡ true → has_element_ids v ≡ true
      → HasRow v r.tag (r.fields ++ r.added)

-- a DateTime's three fields
abbrev pub date_time_fields : ℤ → ℤ → ℤ → Trees
date_time_fields seconds nanoseconds offset =
    tree_then (int seconds) (tree_then (int nanoseconds) (tree_then (int offset) no_trees))

-- A cell, seen as its tree, and the value that stands for it: the same, member by member, but for the seconds of a
-- legacy DateTime, which the value has as local ones.
mutual
  pub data IsForm (v : Version) : Tree → Tree → Type 0 where
    of_null : IsForm v null null
    of_boolean : (b : Bool) → IsForm v (boolean b) (boolean b)
    of_int : (z : ℤ) → IsForm v (int z) (int z)
    of_float : (n : ℕ) → IsForm v (float n) (float n)
    of_bytes : (s : List ℕ) → IsForm v (byte_string s) (byte_string s)
    of_text : (s : List ℕ) → IsForm v (text s) (text s)
    of_list : (cs ts : Trees) → AreForms v cs ts → IsForm v (list cs) (list ts)
    of_dict : (ds es : Entries) → HaveForms v ds es → IsForm v (dict ds) (dict es)
    of_structure : (tag : ℕ) (ks : List Field) (cs ts : Trees) → tag ≢ legacy_date_time_tag
        → HasRow v tag ks → OfKinds ks ts → IsShaped tag ts
        → AreForms v cs ts → IsForm v (structure tag cs) (structure tag ts)
    of_local_seconds : (ks : List Field) (utc nanoseconds offset : ℤ)
        → HasRow v legacy_date_time_tag ks → OfKinds ks (date_time_fields utc nanoseconds offset)
        → IsForm v (structure date_time_tag (date_time_fields utc nanoseconds offset))
        (structure legacy_date_time_tag (date_time_fields (utc +ℤ offset) nanoseconds offset))

  pub data AreForms (v : Version) : Trees → Trees → Type 0 where
    no_forms : AreForms v no_trees no_trees
    then_form : (c t : Tree) (cs ts : Trees) → IsForm v c t → AreForms v cs ts
        → AreForms v (tree_then c cs) (tree_then t ts)

  pub data HaveForms (v : Version) : Entries → Entries → Type 0 where
    no_entry_forms : HaveForms v no_entries no_entries
    then_entry_form : (k : List ℕ) (c t : Tree) (ds es : Entries) → IsForm v c t → HaveForms v ds es
        → HaveForms v (entry_then k c ds) (entry_then k t es)
