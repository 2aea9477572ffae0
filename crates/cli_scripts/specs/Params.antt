-- Parameters out of bytes.
use Rattle.std.specs.Prelude.{ℕ, List, [], ◌∷◌, Option, Some, None, Result, Ok, Err}
use Rattle.std.specs.Option.{option_and_then, option_or}
use Rattle.std.specs.Result.{result_ok}
use Rattle.packstream.specs.Answers.{whole_of}
use Rattle.packstream.specs.Good.{IsGood}
use Rattle.packstream.specs.Spelling.{Spells}
use Rattle.packstream.specs.Tree.{Tree, dict}
use Rattle.packstream.specs.View.{entries_of}
use Rattle.structures_cells.specs.Faults.{fault, scan, structures}
use Rattle.structures_cells.specs.declared.fault.Reason.{Reason}
use Rattle.structures.specs.Form.{Form, typed}
use Rattle.wire.specs.declared.Version.{Version}
use Rattle.wire.specs.Versions.{versions}
use Rattle.messages.specs.Messages.{pairs_of}
use Rattle.cli_scripts.specs.Views.{Params}

-- the cell of a value whose structures have been judged
abbrev pub cell_by : Result ℕ (Reason × ℕ) → Tree → Option Tree
cell_by (Ok n) t = Some (typed t)
cell_by (Err e) t = None

-- the cell of a value at a version, seen as its tree
abbrev pub cell_at : Version → Tree → Option Tree
cell_at v t = cell_by (scan (fault v) 0 (structures t)) t

-- the cell at the first of these versions that reads the value
abbrev pub cell_among : List Version → Tree → Option Tree
cell_among [] t = None
cell_among (v ∷ []) t = cell_at v t
cell_among (v ∷ (u ∷ us)) t = option_or (cell_at v t) (cell_among (u ∷ us) t)

-- the cell at a version that reads the value: at all that do it is the same
abbrev pub cell_of : Tree → Option Tree
cell_of t = cell_among versions t

-- the entries of a value that is a dictionary, as parameters
abbrev pub entries_in : Tree → Option Params
entries_in (dict es) = Some (pairs_of es)
entries_in t = None

-- the parameters that bytes spell
abbrev pub params_of : List ℕ → Option Params
params_of b = option_and_then entries_in (option_and_then cell_of (result_ok (whole_of b)))

-- the bytes spell a good value, which at some version is a cell: a dictionary with these entries
pub record IsParams (b : List ℕ) (ps : Params) : Type 0 where
  pub version : Version
  pub value : Tree
  pub good : IsGood value
  pub spelled : Spells value b
  pub form : Form version (dict (entries_of ps)) value
