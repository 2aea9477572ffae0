-- The meaning of a call of `until_known` of `driver` for the ledger.
use Rattle.std.specs.Prelude.{◌≡◌, ℕ, false, Option, Some, None, List, map}
use Rattle.engine.specs.Views.{EntryView}
use Rattle.server_session.specs.Session.{Setting}
use Rattle.client_tracking.specs.declared.Retry.{Retry}
use Rattle.client_tracking.specs.declared.Fate.{Fate}
use Rattle.client_tracking.specs.Attempts.{Made, tells_in}
use Rattle.client_tracking.specs.Fates.{fate_of}
use Rattle.driver.specs.Attempting.{AskedView}
use Rattle.driver.specs.Retrying.{Ending, AreTries}
use Rattle.world.specs.Connections.{Connection}
use Rattle.world.specs.World.{World, Reached}
use Rattle.world.specs.Good.{Each}
use Rattle.world_guarantees.specs.Tied.{IsAt}
use Rattle.world_guarantees.specs.OneCaller.{Means}

-- If there is an attempt, it is the connection with its number.
abbrev pub IsMet : World → Option Made → Type 0
IsMet w None = Unit {0}
IsMet w (Some m) = (k : Connection) × IsAt w m.conn k m.attempt

-- A call made these attempts, by the log of the connections that it used. In every reached world in which each attempt is the connection with its
-- number, the fate of the attempts means this for the ledger, under each `Retry`. Other callers may use the token too.
abbrev pub SentUntilKnown : Type 0
SentUntilKnown =
    (S : Setting) (brought : List EntryView) (w : World) → Reached S brought w
    → (a : AskedView) (conns : ℕ → ℕ) (used : List (Option Ending))
    → (made : List (Option Made)) → AreTries a conns 0 used made
    → Each (IsMet w) made
    → (again : Retry) (tries : ℕ) (f : Fate) → fate_of again false tries (map tells_in made) ≡ Some f
    → Means S a.token w made f
