-- Why a cell, seen as its tree, can't be written at a version, and which of its structures is the first with a fault.
use Rattle.std.specs.Prelude.{◌≡◌, ℕ, length, List, [], ◌∷◌, true, if◌then◌else◌, ◌==◌, Option, Some, Result, Ok, Err}
use Rattle.packstream.specs.Tree.{Tree, Trees}
use Rattle.packstream.specs.Good.{count}
use Rattle.wire.specs.declared.Version.{Version}
use Rattle.wire.specs.Versions.{has_utc_times}
use Rattle.structures_cells.specs.declared.table.Field.{Field}
use Rattle.structures_cells.specs.declared.fault.Reason.{Reason}
use Rattle.structures_cells.specs.declared.fault.Reason.TheVariants.{NotInVersion, Range, PathShape}
use Rattle.structures_cells.specs.Table.{kinds, path_tag, date_time_tag, legacy_date_time_tag}
use Rattle.structures_cells.specs.Faults.{FaultOf, scan, structures, first_failed, are_in_range, is_path}

-- the tag under which a version writes a DateTime
abbrev pub moment_tag : Version → ℕ
moment_tag v = if has_utc_times v then date_time_tag else legacy_date_time_tag

-- the tag under which a version writes a structure
abbrev pub tag_at : Version → ℕ → ℕ
tag_at v tag = if tag == date_time_tag then moment_tag v else tag

-- the fault of one typed cell: its structure and the number of its element ids are of the version, its numbers are
-- in their ranges, its indices walk
abbrev pub fault_of_structure_by : Result (List Field) Reason → ℕ → Trees → Option Reason
fault_of_structure_by (Ok ks) tag ts =
    first_failed
    ((count ts == length ks, NotInVersion)
    ∷ (are_in_range ks ts, Range)
    ∷ (if tag == path_tag then is_path ts else true, PathShape)
    ∷ [])
fault_of_structure_by (Err r) tag ts = Some r

-- the same of a structure by its row
abbrev pub fault_of_structure : Version → FaultOf
fault_of_structure v tag ts = fault_of_structure_by (kinds v (tag_at v tag)) tag ts

-- no typed cell has a fault
abbrev pub IsWritable : Version → Tree → Type 0
IsWritable v s = (n : ℕ) × (scan (fault_of_structure v) 0 (structures s) ≡ Ok n)

-- typed cell k in preorder is the first with a fault, and r is its fault
abbrev pub IsUnwritable : Version → Tree → ℕ → Reason → Type 0
IsUnwritable v s k r = scan (fault_of_structure v) 0 (structures s) ≡ Err (r, k)
