-- What the code sees of values and cells, a part at a time. Private functions and proofs alone need it.
use Rattle.std.specs.Prelude.{ℕ, ℤ, nat_lt, map, length, List, [], ◌∷◌, Bool, true, ◌&&◌, ◌==◌, Option, Some, is_none, Result, Ok, Err}
use Rattle.packstream.specs.Tree.{int, Trees}
use Rattle.packstream.specs.View.{trees_of}
use Rattle.wire.specs.declared.Version.{Version}
use Rattle.structures_cells.specs.declared.table.Field.{Field}
use Rattle.structures_cells.specs.declared.fault.Reason.{Reason}
use Rattle.structures_cells.specs.declared.fault.Reason.TheVariants.{NotInVersion, Range, PathShape}
use Rattle.structures_cells.specs.Table.{kinds}
use Rattle.structures_cells.specs.Faults.{FaultOf, first_failed, in_range, is_walk}
use Rattle.structures_cells.specs.Writing.{tag_at}

-- each of these structures passes by itself
abbrev pub all_fine : FaultOf → List (ℕ × Trees) → Bool
all_fine f [] = true
all_fine f (s ∷ ss) = is_none (f s.0 s.1) && all_fine f ss

-- the numbers with which the fields of a cell begin lie in the ranges of their kinds
abbrev pub numbers_in_range : List ℤ → List Field → Bool
numbers_in_range [] ks = true
numbers_in_range (z ∷ zs) [] = true
numbers_in_range (z ∷ zs) (k ∷ ks) = in_range k (int z) && numbers_in_range zs ks

-- the fault of a typed cell by its number of fields and the numbers that they begin with, from its
-- row's kinds or why there is no row; a path's walk isn't looked at
abbrev pub range_fault_by : Result (List Field) Reason → ℕ → List ℤ → Option Reason
range_fault_by (Ok ks) n zs =
    first_failed ((n == length ks, NotInVersion) ∷ (numbers_in_range zs ks, Range) ∷ [])
range_fault_by (Err r) n zs = Some r

-- the same at a version, by the cell's tag
abbrev pub range_fault : Version → ℕ → ℕ → List ℤ → Option Reason
range_fault v tag n zs = range_fault_by (kinds v (tag_at v tag)) n zs

-- the fault of a path by its numbers of nodes and relationships and its indices
abbrev pub walk_fault : ℕ → ℕ → List ℤ → Option Reason
walk_fault nodes relationships indices =
    first_failed ((
      nat_lt 0 nodes
          && is_walk nodes relationships true (trees_of (map int indices)),
      PathShape,
    ) ∷ [])
