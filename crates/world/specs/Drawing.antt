-- What is taken out of a session, to be given to its peer.
use Rattle.std.specs.Prelude.{◌≡◌, ◌⊎◌, ℕ, Option, Some, None, Result, Ok, Err, List, ◌++◌}
use Rattle.std.specs.declared.alloc.AllocError.{AllocError}
use Rattle.server_session.specs.declared.Cause.{Cause}
use Rattle.server.specs.Serving.{Rest, take_out_at}

module _ {G : Type 0} where
  -- so many bytes came out, and are held behind the others
  pub record Takes (c n : ℕ) (r : Rest G) (old new : List ℕ) (Now : Rest G → Type 0) : Type 0 where
    pub taken : List ℕ
    pub after : Rest G
    pub out : take_out_at c n r ≡ Some (taken, after)
    pub held : new ≡ old ++ taken
    pub now : Now after

  -- of a session that was given up none; if there is no room for them, they came out or didn't
  abbrev pub Draws : Option Cause → ℕ → ℕ → Rest G → List ℕ → Result (Unit {0}) AllocError → List ℕ
      → (Rest G → Type 0) → Type 0
  Draws (Some cause) c n r old result new Now = (new ≡ old) × Now r
  Draws None c n r old (Ok u) new Now = Takes c n r old new Now
  Draws None c n r old (Err e) new Now = ((new ≡ old) × Now r) ⊎ Takes c n r old new Now
