-- Attempts of a transaction under one token, until its fate is known.
use Rattle.std.specs.Prelude.{◌≡◌, ℕ, suc, false, Option, Some, None, Result, List, [], ◌∷◌, ◌++◌, map}
use Rattle.client_tracking.specs.declared.attempts.Tells.{Tells}
use Rattle.client_tracking.specs.declared.attempts.Retry.{Retry}
use Rattle.client_tracking.specs.declared.attempts.Fate.{Fate}
use Rattle.wire.specs.declared.Wish.{Wish}
use Rattle.client_tracking.specs.Attempts.{Made}
use Rattle.client_tracking.specs.Fates.{fate_of}
use Rattle.driver.specs.declared.breaks.Break.{Break}
use Rattle.driver.specs.Stands.{health}
use Rattle.driver.specs.Attempting.{AskedView, Streams, streams, Calls, made_at, tells_at, Attempts}

-- The streams of a connection when they were given back, and the reported reason why its last exchange was broken off.
pub record Ending : Type 0 where
  pub at : Streams
  pub broken : Result (Unit {0}) Break

abbrev pub ending : Streams → Result (Unit {0}) Break → Ending
ending at broken = record { at = at; broken = broken }

-- one more connection is open, if one was available
abbrev pub one_more : {S : Type 0} → Option S → ℕ → ℕ
one_more None n = n
one_more (Some s) n = suc n

-- An opening adds to the log only that no connection was available. A connection is added when its streams are given back.
abbrev pub not_had : {S : Type 0} → Option S → List (Option Ending)
not_had None = None ∷ []
not_had (Some s) = []

-- streams that have moved nothing yet
abbrev pub unmoved : Streams
unmoved = streams [] [] (health false false false)

-- The attempt over the streams of a connection, from their first byte until they were given back; none if no connection was available.
abbrev pub IsTry : AskedView → ℕ → Option Ending → Option Made → Type 0
IsTry a conn None m = m ≡ None
IsTry a conn (Some e) m = Attempts a conn unmoved e.at e.broken m

-- Each of these attempts was made over the connection at the same index, if they have these numbers from the nth on.
abbrev pub AreTries : AskedView → (ℕ → ℕ) → ℕ → List (Option Ending) → List (Option Made) → Type 0
AreTries a conns n [] [] = Unit {0}
AreTries a conns n (o ∷ os) (m ∷ ms) = IsTry a (conns n) o m × AreTries a conns (suc n) os ms
AreTries a conns n os ms = ⊥

-- the attempts that these calls make, over connections of these numbers from the nth on
abbrev pub made_from : Wish → (ℕ → ℕ) → ℕ → List (Option Calls) → List (Option Made)
made_from wish conns n [] = []
made_from wish conns n (c ∷ cs) = made_at wish (conns n) c ∷ made_from wish conns (suc n) cs

-- One more connection is in the log, and the attempt over it says this, whatever number it has.
abbrev pub Tries : AskedView → List (Option Ending) → List (Option Ending) → Tells → Type 0
Tries a old new told =
    (o : Option Ending) × (new ≡ old ++ o ∷ [])
    × (c : Option Calls) × (tells_at a.wish c ≡ told)
    × ((conn : ℕ) → IsTry a conn o (made_at a.wish conn c))

-- These connections were added to the log, in order, at most `tries`. Over each, these calls of its client are its one attempt.
-- The fate follows from what the attempts say. r: what follows a doubt.
pub record IsKnown (a : AskedView) (r : Retry) (old new : List (Option Ending)) (tries : ℕ) (f : Fate) : Type 0 where
  pub used : List (Option Ending)
  pub logs : new ≡ old ++ used
  -- the calls of the client of each
  pub calls : List (Option Calls)
  pub tried : (conns : ℕ → ℕ) → AreTries a conns 0 used (made_from a.wish conns 0 calls)
  pub known : fate_of r false tries (map (tells_at a.wish) calls) ≡ Some f
