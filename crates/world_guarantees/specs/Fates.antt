-- The meaning of a call of `until_known` of `driver` for a server's ledger, by the calls at both ends alone.
use Rattle.std.specs.Prelude.{◌≡◌, ℕ, suc, ◌<◌, false, Option, Some, None, List, [], ◌∷◌, map}
use Rattle.wire.specs.declared.Wish.{Wish}
use Rattle.engine.specs.Views.{EntryView}
use Rattle.engine.specs.Welcomes.{Welcome}
use Rattle.server.specs.Serving.{Rest, empty}
use Rattle.server.specs.Running.{after_events}
use Rattle.client_tracking.specs.declared.Retry.{Retry}
use Rattle.client_tracking.specs.declared.Fate.{Fate}
use Rattle.client_tracking.specs.Fates.{fate_of}
use Rattle.driver.specs.Attempting.{AskedView, Calls, made_by, tells_at}
use Rattle.driver.specs.Retrying.{Ending, AreTries, made_from, IsKnown}
use Rattle.world.specs.World.{IsLedger}
use Rattle.world.specs.Turns.{Definition, setting_of}
use Rattle.world_guarantees.specs.OneCaller.{Means}
use Rattle.world_guarantees.specs.Moments.{Moment, server_calls, attempt_of, ArePlayed}
use Rattle.world_guarantees.specs.Runs.{IsRun}

module _ {G : Type 0} (answer : Definition) (welcomes : G → Welcome) where
  -- If a try made these calls, the client of the connection with this number made their attempt: it accepted the same requests, took the same bytes,
  -- and is lost. The server accepted the connection.
  abbrev pub IsCalledAt : (ℕ → Option Wish) → List Moment → Rest G → Wish → ℕ → Option Calls → Type 0
  IsCalledAt ours ms r wish conn None = Unit {0}
  IsCalledAt ours ms r wish conn (Some c) =
      (ours conn ≡ Some wish) × (attempt_of wish conn ms ≡ (made_by wish c.0 c.1 conn).attempt)
      × (conn < (after_events answer welcomes (server_calls ms) r).next)

  -- Each of these tries was made by such a client. `conns` numbers their connections, from the nth on.
  abbrev pub AreCalledAt : (ℕ → Option Wish) → List Moment → Rest G → Wish → (ℕ → ℕ) → ℕ → List (Option Calls) → Type 0
  AreCalledAt ours ms r wish conns n [] = Unit {0}
  AreCalledAt ours ms r wish conns n (c ∷ cs) =
      IsCalledAt ours ms r wish (conns n) c × AreCalledAt ours ms r wish conns (suc n) cs

  -- A world after the calls at both ends, and the meaning of the fate for its ledger, which is the server's.
  pub record IsSo (gate : G) (ours : ℕ → Option Wish) (ledger : List EntryView) (ms : List Moment) (a : AskedView) (conns : ℕ → ℕ)
      (calls : List (Option Calls)) (f : Fate) : Type 0 where
    pub run : IsRun answer welcomes gate ours ledger ms
    pub means : Means (setting_of answer welcomes gate) a.token run.after (made_from a.wish conns 0 calls) f

  -- A call of `until_known` made these calls on its clients, by the log of the connections that it used. If they are among the calls at both ends of
  -- the connections, the fate means this for the server's ledger. `ArePlayed` says that no byte arrived that the other end had not put out.
  abbrev pub CallsAreKnown : G → (ℕ → Option Wish) → Type 0
  CallsAreKnown gate ours =
      (ledger : List EntryView) (ms : List Moment) → IsLedger ledger
      → ArePlayed answer welcomes ours ms (empty ledger gate)
      → (a : AskedView) (conns : ℕ → ℕ) (used : List (Option Ending)) (calls : List (Option Calls))
      → AreTries a conns 0 used (made_from a.wish conns 0 calls)
      → AreCalledAt ours ms (empty ledger gate) a.wish conns 0 calls
      → (again : Retry) (tries : ℕ) (f : Fate) → fate_of again false tries (map (tells_at a.wish) calls) ≡ Some f
      → IsSo gate ours ledger ms a conns calls f

  -- A call of `until_known` made these attempts, by the log of its connections. The fate means this for the ledger of each server that accepted the
  -- connections, in each order in time of the calls at both ends.
  pub record IsKnownTo (a : AskedView) (again : Retry) (old new : List (Option Ending)) (tries : ℕ) (f : Fate) : Type 0 where
    pub known : IsKnown a again old new tries f
    pub means : (gate : G) (ours : ℕ → Option Wish) (ledger : List EntryView) (ms : List Moment) → IsLedger ledger
        → ArePlayed answer welcomes ours ms (empty ledger gate)
        → (conns : ℕ → ℕ) → AreCalledAt ours ms (empty ledger gate) a.wish conns 0 known.calls
        → IsSo gate ours ledger ms a conns known.calls f
