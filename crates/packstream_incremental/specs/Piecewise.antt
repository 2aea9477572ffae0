-- What a reader of pieces has read, and what a piece makes of it.
use Rattle.std.specs.Prelude.{◌≡◌, ◌⊎◌, ◌↔◌, ℕ, List, [], ◌++◌, Option, Some, None, MatchOption, Result, Ok, Err}
use Rattle.packstream.specs.declared.fault.Reason.{Reason}
use Rattle.packstream.specs.declared.fault.Reason.TheVariants as reason
use Rattle.packstream.specs.declared.fault.PackFault.{PackFault}
use Rattle.packstream.specs.declared.fault.PackFault.TheVariants as fault
use Rattle.packstream.specs.Tree.{Tree}
use Rattle.packstream.specs.Good.{IsGood}
use Rattle.packstream.specs.Plain.{AreBytes}
use Rattle.packstream.specs.Spelling.{Spells}
use Rattle.packstream.specs.Faults.{Bad, IsBadAlways}
use Rattle.packstream.specs.Answers.{UnlessMemory}

-- The bytes that were read; and once each continuation of them has one fault at one place, that fault and its place.
pub record Point : Type 0 where
  pub bytes : List ℕ
  pub bad : Option (Reason × ℕ)

-- where a reader stands, and the point that it can return to
pub record Points : Type 0 where
  pub here : Point
  pub held : Point

-- before any byte was read
abbrev pub nothing_read : Point
nothing_read = record { bytes = []; bad = None }

-- a reader that has read nothing, and would return to that
abbrev pub fresh : Points
fresh = record { here = nothing_read; held = nothing_read }

-- The bytes begin with these.
abbrev pub IsBeginning : List ℕ → List ℕ → Type 0
IsBeginning front b = (more : List ℕ) × (b ≡ front ++ more)

-- The bytes have no fault, or bytes are missing.
abbrev pub MayGoOn : List ℕ → Type 0
MayGoOn b = (r : Reason) (o : ℕ) → Bad b o r → r ≡ reason.Short

-- the piece is joined to the bytes
pub record Joins (old : Point) (piece : List ℕ) (new : Point) : Type 0 where
  pub joined : new.bytes ≡ old.bytes ++ piece
  pub good : new.bad ≡ None
  pub goes_on : MayGoOn new.bytes

-- with the piece each continuation of the bytes is bad, and the bytes that there were are kept
pub record TurnsBad (old : Point) (piece : List ℕ) (new : Point) : Type 0 where
  pub why : Reason
  pub place : ℕ
  pub told : new.bad ≡ Some (why, place)
  pub always : IsBadAlways (old.bytes ++ piece) why place
  -- it isn't that bytes are missing
  pub certain : why ≡ reason.Short → ⊥
  pub kept : IsBeginning old.bytes new.bytes

-- a piece is joined to the bytes, or makes them bad; once they are bad nothing changes
abbrev pub Takes : Point → List ℕ → Point → Type 0
Takes old piece new = MatchOption old.bad (Joins old piece new ⊎ TurnsBad old piece new)
    (λ f. new ≡ old)

-- Of these bytes the point is what came: they are its bytes, or each continuation of them has its fault.
abbrev pub Reads : Point → List ℕ → Type 0
Reads p b = AreBytes b × MatchOption p.bad (p.bytes ≡ b) (λ f. IsBadAlways b f.0 f.1)

-- apart from memory, the good value that the bytes spell, if they spell one
abbrev pub TellsValue : List ℕ → Result Tree PackFault → Type 0
TellsValue b told = (t : Tree) → UnlessMemory told ((told ≡ Ok t) ↔ (IsGood t × Spells t b))

-- apart from memory, the fault at its place, if the bytes have one
abbrev pub TellsFault : List ℕ → Result Tree PackFault → Type 0
TellsFault b told = (r : Reason) (o : ℕ)
    → UnlessMemory told ((told ≡ Err (fault.Refused r o)) ↔ Bad b o r)

-- what is told at a point: of its bytes, or its fault
pub record Finishes (p : Point) (told : Result Tree PackFault) : Type 0 where
  pub value : p.bad ≡ None → TellsValue p.bytes told
  pub bad : (r : Reason) (o : ℕ) → p.bad ≡ Some (r, o) → told ≡ Err (fault.Refused r o)
  pub fault : p.bad ≡ None → TellsFault p.bytes told
