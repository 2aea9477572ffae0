-- Writes and the bytes that spell them.
use Rattle.std.specs.Prelude.{◌≡◌, ℕ, List, [], ◌∷◌, ◌++◌}
use Rattle.packstream.specs.Tree.{Tree, text}
use Rattle.packstream.specs.Good.{IsGood}
use Rattle.packstream.specs.Spelling.{Spells}
use Rattle.structures.specs.Form.{Form}
use Rattle.wire.specs.declared.Version.{Version}
use Rattle.engine.specs.Views.{WriteView}

-- at some version the value is the cell's form; and it is good, so that it has bytes
pub record HasForm (cell value : Tree) : Type 0 where
  pub version : Version
  pub formed : Form version cell value
  pub good : IsGood value

-- the bytes spell the write's key, and then a form of its value
pub record SpellsWrite (w : WriteView) (bytes : List ℕ) : Type 0 where
  pub value : Tree
  pub form : HasForm w.1 value
  pub key_bytes : List ℕ
  pub value_bytes : List ℕ
  pub key_spelled : Spells (text w.0) key_bytes
  pub value_spelled : Spells value value_bytes
  pub whole : bytes ≡ key_bytes ++ value_bytes

-- the bytes spell the writes, one after the other
abbrev pub SpellsWrites : List WriteView → List ℕ → Type 0
SpellsWrites [] bytes = bytes ≡ []
SpellsWrites (w ∷ ws) bytes =
    (front : List ℕ) × (rest : List ℕ) × SpellsWrite w front × SpellsWrites ws rest × (bytes ≡ front ++ rest)

-- bytes that spell the value were added
abbrev pub AddsSpelling : Tree → List ℕ → List ℕ → Type 0
AddsSpelling t old new = (more : List ℕ) × Spells t more × (new ≡ old ++ more)

-- bytes that spell the write were added
abbrev pub AddsWrite : WriteView → List ℕ → List ℕ → Type 0
AddsWrite w old new = (more : List ℕ) × SpellsWrite w more × (new ≡ old ++ more)

-- bytes that spell a good value were taken off the front
abbrev pub TakesValue : Tree → List ℕ → List ℕ → Type 0
TakesValue t bytes rest = (front : List ℕ) × IsGood t × Spells t front × (bytes ≡ front ++ rest)

-- bytes that spell the write were taken off the front
abbrev pub TakesWrite : WriteView → List ℕ → List ℕ → Type 0
TakesWrite w bytes rest = (front : List ℕ) × SpellsWrite w front × (bytes ≡ front ++ rest)
