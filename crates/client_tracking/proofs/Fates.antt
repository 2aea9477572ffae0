-- What was told so far, and what is known by one more.
use Rattle.std.proofs.Common.{◌≡◌, refl, sym, ◌∙◌, ap, ℕ, suc, ◌+◌, ◌-◌, ◌<◌, ◌≤◌, Bool, true, false, Some, List, [], ◌∷◌, ◌++◌, append_assoc, append-nil, arith}
use Rattle.client_tracking.specs.declared.attempts.Tells.{Tells}
use Rattle.client_tracking.specs.declared.attempts.Tells.TheVariants as tells
use Rattle.client_tracking.specs.declared.attempts.Retry.{Retry}
use Rattle.client_tracking.specs.declared.attempts.Fate.{Fate}
use Rattle.client_tracking.specs.declared.attempts.Fate.TheVariants as fate
use Rattle.client_tracking.specs.Fates.{fate_of}

-- what is known by what the next tells, whatever was doubtful
pub stands : (r : Retry) (d : Bool) (n : ℕ) → fate_of r d (suc n) (tells.Stands ∷ []) ≡ Some fate.Stands
stands Retry.Tokens true n = refl
stands Retry.Tokens false n = refl
stands Retry.Never true n = refl
stands Retry.Never false n = refl

pub clashes : (r : Retry) (d : Bool) (n : ℕ) → fate_of r d (suc n) (tells.Clash ∷ []) ≡ Some fate.Clash
clashes Retry.Tokens true n = refl
clashes Retry.Tokens false n = refl
clashes Retry.Never true n = refl
clashes Retry.Never false n = refl

pub refuses : (r : Retry) (n : ℕ) → fate_of r false (suc n) (tells.Refused ∷ []) ≡ Some fate.Refused
refuses Retry.Tokens n = refl
refuses Retry.Never n = refl

pub refused_after_doubt : (r : Retry) (n : ℕ) (later : List Tells) → fate_of r true (suc n) (tells.Refused ∷ later) ≡ fate_of r true n later
refused_after_doubt Retry.Tokens n later = refl
refused_after_doubt Retry.Never n later = refl

pub nothing : (r : Retry) (d : Bool) (n : ℕ) (later : List Tells) → fate_of r d (suc n) (tells.Nothing ∷ later) ≡ fate_of r d n later
nothing Retry.Tokens true n later = refl
nothing Retry.Tokens false n later = refl
nothing Retry.Never true n later = refl
nothing Retry.Never false n later = refl

pub doubts : (d : Bool) (n : ℕ) (later : List Tells) → fate_of Retry.Tokens d (suc n) (tells.Doubt ∷ later) ≡ fate_of Retry.Tokens true n later
doubts true n later = refl
doubts false n later = refl

pub stays_open : (d : Bool) (n : ℕ) → fate_of Retry.Never d (suc n) (tells.Doubt ∷ []) ≡ Some fate.Open
stays_open true n = refl
stays_open false n = refl

pub open_at_end : (r : Retry) → fate_of r true 0 [] ≡ Some fate.Open
open_at_end Retry.Tokens = refl
open_at_end Retry.Never = refl

pub absent_at_end : (r : Retry) → fate_of r false 0 [] ≡ Some fate.Absent
absent_at_end Retry.Tokens = refl
absent_at_end Retry.Never = refl

-- so many attempts told this, and what is known by all depends on those that come
abbrev pub SoFar : Retry → ℕ → ℕ → Bool → List Tells → Type 0
SoFar r tries made d told = (later : List Tells) → fate_of r false tries (told ++ later) ≡ fate_of r d (tries - made) later

pub none_yet : (r : Retry) (tries : ℕ) → SoFar r tries 0 false []
none_yet r tries later = let same : tries ≡ tries - 0 = omega arith in ap (λ n. fate_of r false n later) same

-- one more was made
pub with_one : (r : Retry) (tries made : ℕ) (d : Bool) (told : List Tells) (t : Tells) → SoFar r tries made d told → made < tries
    → (later : List Tells) → fate_of r false tries ((told ++ t ∷ []) ++ later) ≡ fate_of r d (suc (tries - (made + 1))) (t ∷ later)
with_one r tries made d told t s l later =
    let one : tries - made ≡ suc (tries - (made + 1)) = omega (arith, l) in
    ap (fate_of r false tries) (append_assoc told (t ∷ []) later) ∙ s (t ∷ later) ∙ ap (λ n. fate_of r d n (t ∷ later)) one

pub one_more : (r : Retry) (tries made : ℕ) (d d2 : Bool) (told : List Tells) (t : Tells) → SoFar r tries made d told → made < tries
    → ((n : ℕ) (later : List Tells) → fate_of r d (suc n) (t ∷ later) ≡ fate_of r d2 n later) → SoFar r tries (made + 1) d2 (told ++ t ∷ [])
one_more r tries made d d2 told t s l step later = with_one r tries made d told t s l later ∙ step (tries - (made + 1)) later

-- it is known by the last
pub known_by : (r : Retry) (tries made : ℕ) (d : Bool) (told : List Tells) (t : Tells) (f : Fate) → SoFar r tries made d told → made < tries
    → ((n : ℕ) → fate_of r d (suc n) (t ∷ []) ≡ Some f) → fate_of r false tries (told ++ t ∷ []) ≡ Some f
known_by r tries made d told t f s l step =
    ap (fate_of r false tries) (sym (append-nil (told ++ t ∷ []))) ∙ with_one r tries made d told t s l [] ∙ step (tries - (made + 1))

-- the tries are used up
pub used_up : (r : Retry) (tries made : ℕ) (d : Bool) (told : List Tells) (f : Fate) → SoFar r tries made d told → tries ≤ made
    → fate_of r d 0 [] ≡ Some f → fate_of r false tries told ≡ Some f
used_up r tries made d told f s l e =
    let none : tries - made ≡ 0 = omega (arith, l) in
    ap (fate_of r false tries) (sym (append-nil told)) ∙ s [] ∙ ap (λ n. fate_of r d n []) none ∙ e
