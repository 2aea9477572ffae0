-- What is said of the bytes of one value.
use Rattle.std.specs.Prelude.{◌≡◌, ◌⊎◌, ◌<◌, ◌≤◌, ℕ, List, length, string_bytes, Ok, Err}
use Rattle.hex.specs.Hex.{decode_of, encode_lower}
use Rattle.packstream.specs.declared.fault.Reason.{Reason}
use Rattle.packstream.specs.declared.fault.Reason.TheVariants.{Size}
use Rattle.packstream.specs.declared.fault.PackFault.{PackFault}
use Rattle.packstream.specs.declared.fault.PackFault.TheVariants as fault
use Rattle.packstream.specs.Tree.{Tree}
use Rattle.packstream.specs.Good.{IsGood}
use Rattle.packstream.specs.Spelling.{Spells}
use Rattle.packstream.specs.Canon.{canon}
use Rattle.packstream.specs.Faults.{Bad}
use Rattle.wire.specs.declared.Version.{Version}
use Rattle.structures_cells.specs.declared.fault.Reason.{Reason as CellReason}
use Rattle.structures_cells.specs.Faults.{IsBad}
use Rattle.structures.specs.declared.fault.CellFault.{CellFault}
use Rattle.structures.specs.declared.fault.CellFault.TheVariants as cell_fault
use Rattle.structures.specs.Form.{Form}
use Rattle.structures.specs.Answers.{Writes}
use Rattle.cli_commands.specs.declared.checks.Checked.{Checked}
use Rattle.cli_commands.specs.declared.checks.Checked.TheVariants.{Fine, Refused, Unfit}
use Rattle.packstream.specs.Limits.{max_size}

-- a value is the form of a cell at a version
abbrev pub IsCell : Version → Tree → Type 0
IsCell v t = (s : Tree) × Form v s t

-- the shortest spelling of a value is past the limit of a message, which is told so
pub record IsTooLong (t : Tree) (r : Reason) (o : ℕ) : Type 0 where
  pub reason : r ≡ Size
  pub place : o ≡ 0
  pub long : max_size < length (canon t)

-- the shortest spelling of a value in hex; or that it is past the limit of a message
abbrev pub IsSpelled : Tree → Checked → Type 0
IsSpelled t (Fine hex) = (length (canon t) ≤ max_size) × (string_bytes hex ≡ encode_lower (canon t))
IsSpelled t (Refused r o) = IsTooLong t r o
IsSpelled t (Unfit r k) = ⊥

-- the bytes spell a good value that is a cell, and this is told of its shortest spelling
pub record IsSpelledAgain (v : Version) (b : List ℕ) (c : Checked) : Type 0 where
  pub tree : Tree
  pub good : IsGood tree
  pub spelled : Spells tree b
  pub cell : IsCell v tree
  pub again : IsSpelled tree c

-- the bytes spell a good value, whose first structure with a fault is the one of this number, for this reason
pub record IsNoCell (v : Version) (b : List ℕ) (r : CellReason) (k : ℕ) : Type 0 where
  pub tree : Tree
  pub good : IsGood tree
  pub spelled : Spells tree b
  pub bad : IsBad v tree k r

-- The shortest spelling of the value that the bytes spell, which is a cell; or what is wrong with them, as they are read
-- or as they are written back, and where; or what is wrong with the first of its structures that has a fault, and its number.
abbrev pub Checks : Version → List ℕ → Checked → Type 0
Checks v b (Fine hex) = IsSpelledAgain v b (Fine hex)
Checks v b (Refused r o) = Bad b o r ⊎ IsSpelledAgain v b (Refused r o)
Checks v b (Unfit r k) = IsNoCell v b r k

-- the same for the bytes that a text spells
abbrev pub ChecksHex : Version → List ℕ → Checked → Type 0
ChecksHex v text c = (bytes : List ℕ) × (decode_of text ≡ Ok bytes) × Checks v bytes c

-- the bytes have this fault, and at its place; of want of memory nothing is known
abbrev pub ChecksFault : List ℕ → PackFault → Type 0
ChecksFault b (fault.Refused r o) = Bad b o r
ChecksFault b fault.Memory = Unit {0}

-- this is said of a cell's fault
abbrev pub IsUnfit : CellFault → Checked → Type 0
IsUnfit (cell_fault.Refused r k) c = c ≡ Unfit r k
IsUnfit (cell_fault.Pack r o) c = c ≡ Refused r o
IsUnfit cell_fault.Memory c = ⊥

-- the form of a cell is good, and this is told of its shortest spelling
pub record IsFormSpelled (v : Version) (s : Tree) (c : Checked) : Type 0 where
  pub tree : Tree
  pub form : Form v s tree
  pub good : IsGood tree
  pub spelled : IsSpelled tree c

-- the form of a cell is spelled, or the cell can't be written
abbrev pub IsWrittenBack : Version → Tree → Checked → Type 0
IsWrittenBack v s c =
    IsFormSpelled v s c ⊎ ((e : CellFault) × Writes v s (Err e) × IsUnfit e c)
