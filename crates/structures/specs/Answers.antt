-- What reading and writing answer.
use Rattle.std.specs.Prelude.{◌≡◌, ℕ, false, ◌⊎◌, ◌↔◌, Result, Ok, Err}
use Rattle.packstream.specs.declared.fault.Reason.{Reason as PackReason}
use Rattle.packstream.specs.declared.fault.Reason.TheVariants as pack
use Rattle.packstream.specs.Good.{IsGood}
use Rattle.packstream.specs.Making.{first_fault, faults_in}
use Rattle.structures_cells.specs.Writing.{IsWritable, IsUnwritable}
use Rattle.packstream.specs.Tree.{Tree}
use Rattle.wire.specs.declared.Version.{Version}
use Rattle.structures_cells.specs.declared.cell.Cell.{Cell}
use Rattle.structures_cells.specs.declared.fault.Reason.{Reason}
use Rattle.structures_cells.specs.Shape.{shape}
use Rattle.structures_cells.specs.Faults.{IsBad, IsFine}
use Rattle.structures.specs.declared.fault.CellFault.{CellFault}
use Rattle.structures.specs.declared.fault.CellFault.TheVariants as fault
use Rattle.structures.specs.Form.{Form}

-- what is said of an answer other than want of memory
abbrev pub UnlessMemory : {A : Type 0} → Result A CellFault → Type 0 → Type 0
UnlessMemory (Ok x) p = p
UnlessMemory (Err (fault.Refused r k)) p = p
UnlessMemory (Err fault.Memory) p = Unit {0}
UnlessMemory (Err (fault.Pack r o)) p = p

-- it answered the cell of this tree
abbrev pub Gave : Result Cell CellFault → Tree → Type 0
Gave (Ok c) s = shape c ≡ s
Gave (Err e) s = ⊥

-- the value's cell, or its first fault; memory runs out only if it has none
abbrev pub Reads : Version → Tree → Result Cell CellFault → Type 0
Reads v t (Ok c) = Form v (shape c) t
Reads v t (Err (fault.Refused r k)) = IsBad v t k r
Reads v t (Err fault.Memory) = IsFine v t
Reads v t (Err (fault.Pack r o)) = ⊥

-- apart from memory, it is the cell whose form the value is, if it is one's
abbrev pub ReadsForm : Version → Tree → Result Cell CellFault → Type 0
ReadsForm v t r = (s : Tree) → UnlessMemory r (Gave r s ↔ Form v s t)

-- apart from memory, it is the value's first fault, if it has one
abbrev pub ReadsFault : Version → Tree → Result Cell CellFault → Type 0
ReadsFault v t r =
    (q : Reason) (k : ℕ) → UnlessMemory r ((r ≡ Err (fault.Refused q k)) ↔ IsBad v t k q)

-- what `Packed::new` answers of this tree
abbrev pub IsUnpacked : Tree → PackReason → ℕ → Type 0
IsUnpacked t r o = first_fault (faults_in 0 false t) 0 ≡ Err (r, o)

-- A cell without a fault is written as this value, which is good.
pub record HasGoodForm (v : Version) (s t : Tree) : Type 0 where
  pub writable : IsWritable v s
  pub formed : Form v s t
  pub good : IsGood t

-- A cell without a fault has a form, which has this fault as a value.
pub record HasBadForm (v : Version) (s : Tree) (r : PackReason) (o : ℕ) : Type 0 where
  pub value : Tree
  pub writable : IsWritable v s
  pub formed : Form v s value
  pub unpacked : IsUnpacked value r o

-- The cell's form, or its first fault; if it has none and its form isn't good, the form's fault; memory runs out only if it has none.
abbrev pub Writes : Version → Tree → Result Tree CellFault → Type 0
Writes v s (Ok t) = HasGoodForm v s t
Writes v s (Err (fault.Refused r k)) = IsUnwritable v s k r
Writes v s (Err fault.Memory) = IsWritable v s
Writes v s (Err (fault.Pack r o)) = HasBadForm v s r o

-- apart from memory, it is the cell's form, if the cell has one and that is good
abbrev pub WritesForm : Version → Tree → Result Tree CellFault → Type 0
WritesForm v s r = (t : Tree) → UnlessMemory r ((r ≡ Ok t) ↔ HasGoodForm v s t)

-- apart from memory, it is the first fault of a cell, if there is one
abbrev pub WritesFault : Version → Tree → Result Tree CellFault → Type 0
WritesFault v s r =
    (q : Reason) (k : ℕ) → UnlessMemory r ((r ≡ Err (fault.Refused q k)) ↔ IsUnwritable v s k q)

-- apart from memory, it is the fault of the cell's form, if that has one
abbrev pub WritesPackFault : Version → Tree → Result Tree CellFault → Type 0
WritesPackFault v s r =
    (q : PackReason) (o : ℕ) → UnlessMemory r ((r ≡ Err (fault.Pack q o)) ↔ HasBadForm v s q o)

-- the value itself, or its fault
abbrev pub Packs : Tree → Result Tree CellFault → Type 0
Packs t (Ok u) = (u ≡ t) × IsGood t
Packs t (Err (fault.Refused r k)) = ⊥
Packs t (Err fault.Memory) = ⊥
Packs t (Err (fault.Pack r o)) = IsUnpacked t r o

-- at the version the value is the form of one cell alone, and has no fault
pub record StandsForOne (v : Version) (t : Tree) : Type 0 where
  pub cell : Tree
  pub formed : Form v cell t
  pub only : (s : Tree) → Form v s t → cell ≡ s
  pub never_bad : (k : ℕ) (r : Reason) → IsBad v t k r → ⊥

-- at the version the value has one first fault, and is the form of no cell
pub record IsBadOnce (v : Version) (t : Tree) : Type 0 where
  pub number : ℕ
  pub why : Reason
  pub bad : IsBad v t number why
  pub only : (k : ℕ) (r : Reason) → IsBad v t k r → (number ≡ k) × (why ≡ r)
  pub forms_none : (s : Tree) → Form v s t → ⊥

-- at the version the value is the form of one cell, or has one first fault, and never both
abbrev pub HasOneReading : Version → Tree → Type 0
HasOneReading v t = StandsForOne v t ⊎ IsBadOnce v t

-- at the version the cell has one form, and no fault
pub record HasOneForm (v : Version) (s : Tree) : Type 0 where
  pub value : Tree
  pub writable : IsWritable v s
  pub formed : Form v s value
  pub only : (t : Tree) → Form v s t → value ≡ t
  pub never_unwritable : (k : ℕ) (r : Reason) → IsUnwritable v s k r → ⊥

-- at the version the cell has one first fault, and no form
pub record IsUnwritableOnce (v : Version) (s : Tree) : Type 0 where
  pub number : ℕ
  pub why : Reason
  pub unwritable : IsUnwritable v s number why
  pub only : (k : ℕ) (r : Reason) → IsUnwritable v s k r → (number ≡ k) × (why ≡ r)
  pub never_writable : IsWritable v s → ⊥
  pub has_none : (t : Tree) → Form v s t → ⊥

-- at the version the cell has one form, or one first fault, and never both
abbrev pub HasOneWriting : Version → Tree → Type 0
HasOneWriting v s = HasOneForm v s ⊎ IsUnwritableOnce v s

-- the faults of packing that a form may have
abbrev pub IsOfPacking : PackReason → Type 0
IsOfPacking r = (r ≡ pack.KeyTwice) ⊎ (r ≡ pack.Depth)
