-- Bytes that no value is spelled by.
use Rattle.std.specs.Prelude.{ℕ, List}
use Rattle.packstream.specs.Good.{IsGood}
use Rattle.packstream.specs.Spelling.{Spells}
use Rattle.packstream.specs.Tree.{Tree}

-- no good value has these bytes as a spelling
abbrev pub SpellNothing : List ℕ → Type 0
SpellNothing b = (t : Tree) → IsGood t → Spells t b → ⊥
