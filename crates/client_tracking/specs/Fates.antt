-- What attempts under one token tell, one after the other, and what is known by them.
use Rattle.std.specs.Prelude.{◌≡◌, ◌≤◌, ℕ, zero, suc, Bool, true, false, if◌then◌else◌, Option, Some, None, List, [], ◌∷◌, ◌++◌, length}
use Rattle.client_tracking.specs.declared.attempts.Tells.{Tells}
use Rattle.client_tracking.specs.declared.attempts.Tells.TheVariants as tells
use Rattle.client_tracking.specs.declared.attempts.Retry.{Retry}
use Rattle.client_tracking.specs.declared.attempts.Retry.TheVariants as retry
use Rattle.client_tracking.specs.declared.attempts.Fate.{Fate}
use Rattle.client_tracking.specs.declared.attempts.Fate.TheVariants as fate

-- The fate after at most so many tries, if these are all the attempts: none of them follows one that decides it, nor, under Never, a doubt.
-- doubtful: an attempt before them may have committed.
abbrev pub fate_of : Retry → Bool → ℕ → List Tells → Option Fate
fate_of r doubtful zero [] = Some (if doubtful then fate.Open else fate.Absent)
fate_of r doubtful (suc n) (tells.Stands ∷ []) = Some fate.Stands
fate_of r doubtful (suc n) (tells.Clash ∷ []) = Some fate.Clash
fate_of r false (suc n) (tells.Refused ∷ []) = Some fate.Refused
fate_of r true (suc n) (tells.Refused ∷ more) = fate_of r true n more
fate_of r doubtful (suc n) (tells.Nothing ∷ more) = fate_of r doubtful n more
fate_of retry.Tokens doubtful (suc n) (tells.Doubt ∷ more) = fate_of retry.Tokens true n more
fate_of retry.Never doubtful (suc n) (tells.Doubt ∷ []) = Some fate.Open
fate_of r doubtful n more = None

-- none tells Stands or Clash
abbrev pub AllOpen : List Tells → Type 0
AllOpen [] = Unit {0}
AllOpen (tells.Stands ∷ more) = ⊥
AllOpen (tells.Clash ∷ more) = ⊥
AllOpen (t ∷ more) = AllOpen more

-- none tells anything
abbrev pub AllNothing : List Tells → Type 0
AllNothing [] = Unit {0}
AllNothing (tells.Nothing ∷ more) = AllNothing more
AllNothing (t ∷ more) = ⊥

-- one tells a doubt
abbrev pub HasDoubt : List Tells → Type 0
HasDoubt [] = ⊥
HasDoubt (tells.Doubt ∷ more) = Unit {0}
HasDoubt (t ∷ more) = HasDoubt more

-- This is the last that was told, within so many tries, and what was told before it is so.
pub record EndsWith (tries : ℕ) (told : List Tells) (t : Tells) (Before : List Tells → Type 0) : Type 0 where
  pub before : List Tells
  pub last : told ≡ before ++ t ∷ []
  pub so : Before before
  pub within : length told ≤ tries

-- The attempts before one that reports Stands or Clash: under Tokens none of them reports either, under Never each reports nothing.
abbrev pub Undecided : Retry → List Tells → Type 0
Undecided retry.Tokens told = AllOpen told
Undecided retry.Never told = AllNothing told

-- The meaning of each fate: the last attempt reports Stands, Clash or Refused. As Absent all tries were made, and each reports nothing. As Open
-- under Tokens all tries were made, some with a doubt; under Never the last reports a doubt, and each before it nothing.
abbrev pub Says : Retry → ℕ → List Tells → Fate → Type 0
Says r tries told fate.Stands = EndsWith tries told tells.Stands (Undecided r)
Says r tries told fate.Clash = EndsWith tries told tells.Clash (Undecided r)
Says r tries told fate.Refused = EndsWith tries told tells.Refused AllNothing
Says retry.Tokens tries told fate.Open = (length told ≡ tries) × (HasDoubt told × AllOpen told)
Says retry.Never tries told fate.Open = EndsWith tries told tells.Doubt AllNothing
Says r tries told fate.Absent = (length told ≡ tries) × AllNothing told

-- If a fate is known by what was told, that is what was told.
abbrev pub FatesSay : Type 0
FatesSay = (r : Retry) (tries : ℕ) (told : List Tells) (f : Fate) → fate_of r false tries told ≡ Some f
    → Says r tries told f
