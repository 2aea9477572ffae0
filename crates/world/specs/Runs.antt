-- Lists of steps, and what was seen of each client on the way.
use Rattle.std.specs.Prelude.{ℕ, ◌==◌, if◌then◌else◌, Ok, List, [], ◌∷◌, ◌++◌, slice_get}
use Rattle.engine.specs.Views.{EntryView}
use Rattle.server_session.specs.Session.{Setting}
use Rattle.client.specs.Verdicts.{Told}
use Rattle.client.specs.Moments.{tellings}
use Rattle.world.specs.World.{World, Event, Seen, Gave, WStep, IsLedger, place, empty, taken_out}

-- the worlds that a list of steps reaches from one without connections, over the ledger that the engine brought, with its events and what was seen of each, the newest first
pub data Ran (S : Setting) (brought : List EntryView) : List (Event × Seen) → World → Type 0 where
  begins : IsLedger brought → Ran S brought [] (empty brought)
  goes_on : (w w2 : World) (e : Event) (seen : Seen) (past : List (Event × Seen))
      → Ran S brought past w → WStep S w e seen w2 → Ran S brought ((e, seen) ∷ past) w2
  takes_out : (w : World) (c n : ℕ) (past : List (Event × Seen)) → Ran S brought past w
      → Ran S brought past (taken_out w c n (slice_get w.conns c))

-- the rows and summaries in what is seen of an event
abbrev pub told_in : Seen → List Told
told_in (Gave used (Ok note)) = tellings note
told_in seen = []

-- the rows and summaries that were seen at the connection of this number, the newest first
abbrev pub told_at : ℕ → List (Event × Seen) → List Told
told_at c [] = []
told_at c (x ∷ past) = if place x.0 == c then told_in x.1 ++ told_at c past else told_at c past
