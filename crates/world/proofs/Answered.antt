-- What the clauses of a call on one session say together.
use Rattle.std.proofs.Common.{◌≡◌, Option, Some, None, Result, Ok, Err, IsSome}
use Rattle.server.specs.declared.kinds.Refused.{Refused}
use Rattle.server.specs.declared.kinds.Refused.TheVariants.{NoSuchConnection, SessionsFull, Memory}
use Rattle.server.specs.Prelude.{Rest}

module _ {G : Type 0} where
  -- The answer of a call on one session, where the server had this rest: what the model answers; a refusal where no session with the
  -- number lives; or want of memory. `Now` is what holds of the rest after it, the same rest where the call was refused.
  abbrev pub Answers : {A : Type 0} → Result A Refused → Option (A × Rest G) → Rest G → (Rest G → Type 0) → Type 0
  Answers (Ok a) model r Now = (after : Rest G) × (model ≡ Some (a, after)) × Now after
  Answers (Err NoSuchConnection) model r Now = (model ≡ None) × Now r
  Answers (Err SessionsFull) model r Now = ⊥
  Answers (Err Memory) model r Now = IsSome model × Now r
