-- How a field of cells is written, or the first fault of its cells.
use Rattle.std.specs.Prelude.{ℕ, false, Result, Ok, Err}
use Rattle.packstream.specs.declared.fault.Reason.{Reason as PackReason}
use Rattle.packstream.specs.Tree.{Tree}
use Rattle.packstream.specs.Making.{first_fault, faults_in}
use Rattle.wire.specs.declared.Version.{Version}
use Rattle.structures_cells.specs.declared.fault.Reason.{Reason as CellReason}
use Rattle.structures_cells.specs.Faults.{scan, structures}
use Rattle.structures_cells.specs.Writing.{fault_of_structure}
use Rattle.structures.specs.Form.{form}
use Rattle.messages.specs.declared.fault.MsgFault.{MsgFault}
use Rattle.messages.specs.declared.fault.MsgFault.TheVariants as fault

-- a value after a search for its faults: itself, or the first fault with its preorder number
abbrev pub value_by : Result ℕ (PackReason × ℕ) → Tree → Result Tree MsgFault
value_by (Ok n) t = Ok t
value_by (Err e) t = Err (fault.CellPack e.0 e.1)

-- a form after a search of its cell's structures: their first fault, else its own, else itself
abbrev pub form_by : Result ℕ (CellReason × ℕ) → Tree → Result Tree MsgFault
form_by (Ok n) t = value_by (first_fault (faults_in 0 false t) 0) t
form_by (Err e) t = Err (fault.Cell e.0 e.1)

-- the form of a cell, seen as its tree; or its first fault, numbered within the field
abbrev pub cell_put : Version → Tree → Result Tree MsgFault
cell_put v s = form_by (scan (fault_of_structure v) 0 (structures s)) (form v s)
