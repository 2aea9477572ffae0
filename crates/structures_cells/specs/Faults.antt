-- What is wrong with a structure, and which structure of a tree is the first with a fault.
use Rattle.std.specs.Prelude.{◌≡◌, ℕ, ◌+◌, min, ℤ, pos, neg_ℤ, ◌-ℤ◌, int_le, nat_abs, nat_lt, nat_le, List, [], ◌∷◌, ◌++◌, length, Bool, true, false, if◌then◌else◌, not, ◌&&◌, ◌==◌, Option, None, Some, Result, Ok, Err}
use Rattle.packstream.specs.Tree.{Tree, null, boolean, int, float, byte_string, text, list, dict, structure, Trees, no_trees, tree_then, Entries, no_entries, entry_then}
use Rattle.packstream.specs.Good.{count}
use Rattle.wire.specs.declared.Version.{Version}
use Rattle.structures_cells.specs.declared.table.Field.{Field}
use Rattle.structures_cells.specs.declared.table.Field.TheVariants.{Integer, Nanosecond, DayNanosecond, Offset, UtcSecond, Float, Text, Labels, Properties, Nodes, Relationships, Indices}
use Rattle.structures_cells.specs.declared.fault.Reason.{Reason}
use Rattle.structures_cells.specs.declared.fault.Reason.TheVariants.{FieldCount, FieldKind, Range, PathShape}
use Rattle.structures_cells.specs.Table.{kinds, node_tag, unbound_tag, path_tag, legacy_date_time_tag}

-- an integer of any size
abbrev pub is_int : Tree → Bool
is_int (int z) = true
is_int t = false

-- a float of any bits
abbrev pub is_float : Tree → Bool
is_float (float n) = true
is_float t = false

-- a text of any length
abbrev pub is_text : Tree → Bool
is_text (text s) = true
is_text t = false

-- a dictionary with any entries
abbrev pub is_dict : Tree → Bool
is_dict (dict es) = true
is_dict t = false

-- a structure with the tag k, whatever its fields
abbrev pub has_tag : ℕ → Tree → Bool
has_tag k (structure tag ts) = tag == k
has_tag k t = false

-- all of the trees pass the test
abbrev pub each : (Tree → Bool) → Trees → Bool
each p no_trees = true
each p (tree_then t ts) = p t && each p ts

-- a list whose members all pass the test
abbrev pub is_list_of : (Tree → Bool) → Tree → Bool
is_list_of p (list ts) = each p ts
is_list_of p t = false

-- a field of this kind holds such a value, whatever its range
abbrev pub is_kind : Field → Tree → Bool
is_kind Integer t = is_int t
is_kind Nanosecond t = is_int t
is_kind DayNanosecond t = is_int t
is_kind Offset t = is_int t
is_kind UtcSecond t = is_int t
is_kind Float t = is_float t
is_kind Text t = is_text t
is_kind Labels t = is_list_of is_text t
is_kind Properties t = is_dict t
is_kind Nodes t = is_list_of (has_tag node_tag) t
is_kind Relationships t = is_list_of (has_tag unbound_tag) t
is_kind Indices t = is_list_of is_int t

-- the fields are of these kinds in order, as far as both go
abbrev pub are_kinds : List Field → Trees → Bool
are_kinds (k ∷ ks) (tree_then t ts) = is_kind k t && are_kinds ks ts
are_kinds ks ts = true

-- an integer is among those from low to high; what is no integer passes
abbrev pub is_between : ℤ → ℤ → Tree → Bool
is_between low high (int z) = int_le low z && int_le z high
is_between low high t = true

-- a number in a field of this kind is in the range of the kind, if that has one
abbrev pub in_range : Field → Tree → Bool
in_range Nanosecond t = is_between (pos 0) (pos 999999999) t
in_range DayNanosecond t = is_between (pos 0) (pos 86399999999999) t
in_range Offset t = is_between (neg_ℤ (pos 64800)) (pos 64800) t
in_range UtcSecond t = is_between (neg_ℤ (pos 100000000000000000)) (pos 100000000000000000) t
in_range k t = true

-- the fields are in the ranges of these kinds in order, as far as both go
abbrev pub are_in_range : List Field → Trees → Bool
are_in_range (k ∷ ks) (tree_then t ts) = in_range k t && are_in_range ks ts
are_in_range ks ts = true

-- the kinds of a DateTime's fields: seconds in UTC, nanoseconds, and an offset in seconds
abbrev pub moment_fields : List Field
moment_fields = UtcSecond ∷ Nanosecond ∷ Offset ∷ []

-- local seconds, nanoseconds and offset, with the seconds brought to UTC
abbrev pub to_utc : Trees → Trees
to_utc (tree_then (int local) (tree_then t (tree_then (int offset) no_trees))) =
    tree_then (int (local -ℤ offset)) (tree_then t (tree_then (int offset) no_trees))
to_utc ts = ts

-- the fields of a structure, with the seconds of a legacy DateTime brought to UTC
abbrev pub utc_fields : ℕ → Trees → Trees
utc_fields tag ts = if tag == legacy_date_time_tag then to_utc ts else ts

-- the number of one of n relationships, counted from 1 and negative against its direction; what is no integer passes
abbrev pub is_relationship : ℕ → Tree → Bool
is_relationship n (int z) = nat_lt 0 (nat_abs z) && nat_le (nat_abs z) n
is_relationship n t = true

-- the number of one of n nodes, counted from 0
abbrev pub is_place : ℕ → Tree → Bool
is_place n (int (pos i)) = nat_lt i n
is_place n t = false

-- at even positions a relationship, at odd ones a node, and an even number of them
abbrev pub is_walk : ℕ → ℕ → Bool → Trees → Bool
is_walk nodes relationships even no_trees = even
is_walk nodes relationships even (tree_then t ts) =
    (if even then is_relationship relationships t else is_place nodes t)
    && is_walk nodes relationships (not even) ts

-- a path has a node, and its indices walk; fields that are no three lists pass
abbrev pub is_path : Trees → Bool
is_path (tree_then (list nodes) (tree_then (list relationships) (tree_then (list steps) no_trees)))
    = nat_lt 0 (count nodes) && is_walk (count nodes) (count relationships) true steps
is_path ts = true

-- What is wrong: the first test that fails.
abbrev pub first_failed : List (Bool × Reason) → Option Reason
first_failed [] = None
first_failed (e ∷ es) = if e.0 then first_failed es else Some e.1

-- the first fault of a structure by its row's fields: of count, kind, range, or a path's shape
abbrev pub wrong : List Field → ℕ → Trees → Option Reason
wrong ks tag ts =
    first_failed
    ((count ts == length ks, FieldCount)
    ∷ (are_kinds ks ts, FieldKind)
    ∷ (are_in_range ks (utc_fields tag ts), Range)
    ∷ (if tag == path_tag then is_path ts else true, PathShape)
    ∷ [])

-- the same, or why its tag has no row at the version
abbrev pub fault_by : Result (List Field) Reason → ℕ → Trees → Option Reason
fault_by (Ok ks) tag ts = wrong ks tag ts
fault_by (Err r) tag ts = Some r

-- the fault of one structure by itself
abbrev pub fault : Version → ℕ → Trees → Option Reason
fault v tag ts = fault_by (kinds v tag) tag ts

-- The structures of a tree in preorder.
abbrev mutual
  pub structures : Tree → List (ℕ × Trees)
  structures null = []
  structures (boolean b) = []
  structures (int z) = []
  structures (float n) = []
  structures (byte_string s) = []
  structures (text s) = []
  structures (list ts) = structures_in ts
  structures (dict es) = structures_under es
  structures (structure tag ts) = (tag, ts) ∷ structures_in ts

  pub structures_in : Trees → List (ℕ × Trees)
  structures_in no_trees = []
  structures_in (tree_then t ts) = structures t ++ structures_in ts

  pub structures_under : Entries → List (ℕ × Trees)
  structures_under no_entries = []
  structures_under (entry_then k t es) = structures t ++ structures_under es

-- One number on; past 2 ^ 64 - 1 numbers are told as that.
abbrev pub next : ℕ → ℕ
next k = min (k + 1) 18446744073709551615

-- the fault of the structure with the number k, or else what is found after it
abbrev pub fault_or_rest : Option Reason → ℕ → Result ℕ (Reason × ℕ) → Result ℕ (Reason × ℕ)
fault_or_rest None k rest = rest
fault_or_rest (Some r) k rest = Err (r, k)

-- the fault of a structure, by its tag and its fields
abbrev pub FaultOf : Type 0
FaultOf = ℕ → Trees → Option Reason

-- the first fault of these structures and its number, or the number after them; the first has number k
abbrev pub scan : FaultOf → ℕ → List (ℕ × Trees) → Result ℕ (Reason × ℕ)
scan f k [] = Ok k
scan f k (s ∷ ss) = fault_or_rest (f s.0 s.1) k (scan f (next k) ss)

-- no structure has a fault
abbrev pub IsFine : Version → Tree → Type 0
IsFine v t = (n : ℕ) × (scan (fault v) 0 (structures t) ≡ Ok n)

-- structure k in preorder is the first with a fault, and r is its fault
abbrev pub IsBad : Version → Tree → ℕ → Reason → Type 0
IsBad v t k r = scan (fault v) 0 (structures t) ≡ Err (r, k)
