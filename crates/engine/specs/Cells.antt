-- What is made of trees of cells, with its names in UTF-8.
use Rattle.std.specs.Prelude.{ℕ, List, All, IfSome}
use Rattle.std.specs.Str.{IsUtf8}
use Rattle.packstream.specs.Tree.{Tree}
use Rattle.structures_cells.specs.Cells.{IsCellTree}
use Rattle.engine.specs.Views.{EntryView, AnswerView}

-- a write or a parameter
abbrev pub IsCellPair : List ℕ × Tree → Type 0
IsCellPair pair = IsUtf8 pair.0 × IsCellTree pair.1

-- the writes of a transaction, or the parameters of a query
abbrev pub AreCellPairs : List (List ℕ × Tree) → Type 0
AreCellPairs pairs = All IsCellPair pairs

-- a ledger
abbrev pub AreCellEntries : List EntryView → Type 0
AreCellEntries ledger = All (λ entry. AreCellPairs entry.writes) ledger

-- an answer
pub record IsOfCells (a : AnswerView) : Type 0 where
  pub fields : All IsUtf8 a.fields
  pub rows : All (λ row. All IsCellTree row) a.rows
  pub write : IfSome a.write IsCellPair
