-- An attempt of a transaction as its caller saw it, and what it tells.
use Rattle.std.specs.Prelude.{ℕ, Bool, false, ◌==◌, if◌then◌else◌, Option, Some, None, List, [], ◌∷◌, length}
use Rattle.std.specs.Option.{option_or}
use Rattle.wire.specs.declared.Wish.{Wish}
use Rattle.messages.specs.View.{RequestView}
use Rattle.client.specs.declared.Outcome.{Outcome}
use Rattle.client.specs.Verdicts.{Told, GotRow, Got}
use Rattle.client.specs.Rest.{losses}
use Rattle.client.specs.Client.{Reading, knows_of, reading_of}
use Rattle.client_tracking.specs.declared.attempts.Tells.{Tells}
use Rattle.client_tracking.specs.declared.attempts.Tells.TheVariants as tells_variant
use Rattle.client_tracking.specs.Account.{outcome_lost}
use Rattle.client_tracking.specs.Telling.{tells_by}

-- what its client wished, the requests that it accepted, the bytes that it took, and whether it was lost
pub record Attempt : Type 0 where
  pub wish : Wish
  pub sent : List RequestView
  pub took : List ℕ
  pub lost : Bool

-- what its client made of the bytes
abbrev pub read : Attempt → Reading
read a = reading_of a.wish a.sent a.took

-- what its client told at its loss
abbrev pub told_lost : Attempt → List (ℕ × Outcome)
told_lost a = if a.lost then losses (knows_of (read a) a.sent false) else []

-- the outcome that the summary of this ordinal told, if it was told
abbrev pub outcome_heard : ℕ → List Told → Option Outcome
outcome_heard i [] = None
outcome_heard i (GotRow row ∷ ts) = outcome_heard i ts
outcome_heard i (Got j p o x ∷ ts) = if j == i then Some o else outcome_heard i ts

-- what the caller was told of a request
abbrev pub told_of : Attempt → ℕ → Option Outcome
told_of a i = option_or (outcome_heard i (read a).told) (outcome_lost i (told_lost a))

-- an attempt that was made: the ordinal of its COMMIT, whether that was refused since other writes stand, whether a request was refused for
-- good, and the number of the connection that it was
pub record Made : Type 0 where
  pub attempt : Attempt
  pub commit : ℕ
  pub clash : Bool
  pub final : Bool
  pub conn : ℕ

-- what it tells
abbrev pub tells : Made → Tells
tells m = tells_by (told_of m.attempt) m.commit m.clash m.final (length m.attempt.sent)

-- what an attempt tells: nothing, if no connection could be opened for it
abbrev pub tells_in : Option Made → Tells
tells_in None = tells_variant.Nothing
tells_in (Some m) = tells m
