-- What was added of a message that is written without a value. Private functions and proofs alone need it.
use Rattle.std.specs.Prelude.{◌≡◌, ◌≤◌, ℕ, List, ◌++◌, Result, Ok}
use Rattle.packstream.specs.Tree.{Tree, dict, Entries}
use Rattle.packstream.specs.Canon.{canon}
use Rattle.packstream.specs.Good.{IsGood, depth}
use Rattle.wire.specs.declared.Version.{Version}
use Rattle.messages.specs.declared.fault.MsgFault.{MsgFault}
use Rattle.messages.specs.Cells.{cell_put}

-- the form is a good value, and its shortest spelling was added
pub record Adds (form : Result Tree MsgFault) (old new : List ℕ) : Type 0 where
  pub value : Tree
  pub is : form ≡ Ok value
  pub good : IsGood value
  pub added : new ≡ old ++ canon value

-- the entries are those of a good dictionary that may stand in a message, and its shortest spelling was added
pub record AddsEntries (form : Result Entries MsgFault) (old new : List ℕ) : Type 0 where
  pub entries : Entries
  pub is : form ≡ Ok entries
  pub good : IsGood (dict entries)
  pub deep : depth (dict entries) ≤ 31
  pub added : new ≡ old ++ canon (dict entries)

-- a field of cells is written at the version as a good value that may stand in a message, and its shortest spelling was added
pub record AddsCells (v : Version) (cell : Tree) (old new : List ℕ) : Type 0 where
  pub value : Tree
  pub is : cell_put v cell ≡ Ok value
  pub good : IsGood value
  pub deep : depth value ≤ 31
  pub added : new ≡ old ++ canon value
