-- Calls at both ends as a run of a world.
use Rattle.std.specs.Prelude.{◌≡◌, ℕ, Option, Some, None, List, slice_get}
use Rattle.wire.specs.declared.Wish.{Wish}
use Rattle.engine.specs.Views.{EntryView}
use Rattle.engine.specs.Welcomes.{Welcome}
use Rattle.server.specs.Serving.{empty}
use Rattle.server.specs.Running.{after_events}
use Rattle.world.specs.Connections.{Connection, Foreign}
use Rattle.world.specs.World.{World, IsLedger}
use Rattle.world.specs.Turns.{Definition}
use Rattle.world_guarantees.specs.Tied.{IsAt}
use Rattle.world_guarantees.specs.Calls.{IsBehind}
use Rattle.world_guarantees.specs.Moments.{Moment, server_calls, attempt_of, ArePlayed}

module _ {G : Type 0} (answer : Definition) (welcomes : G → Welcome) where
  -- A world after the calls. Its server is the one after the calls, each of these clients is the connection with its number, and all other peers are
  -- foreign.
  pub record IsRun (gate : G) (ours : ℕ → Option Wish) (ledger : List EntryView)
      (ms : List Moment) : Type 0 where
    pub after : World
    pub behind : IsBehind answer welcomes gate ledger
        (after_events answer welcomes (server_calls ms) (empty ledger gate)) after
    pub attempts : (conn : ℕ) (k : Connection) (wish : Wish) → ours conn ≡ Some wish
        → slice_get after.conns conn ≡ Some k → IsAt after conn k (attempt_of wish conn ms)
    pub foreign : (conn : ℕ) (k : Connection) → ours conn ≡ None
        → slice_get after.conns conn ≡ Some k → k.peer ≡ Foreign

  -- Calls on a server and on these clients are such a run, if the server was made over a ledger.
  abbrev pub AreRuns : G → (ℕ → Option Wish) → Type 0
  AreRuns gate ours = (ledger : List EntryView) (ms : List Moment) → IsLedger ledger
      → ArePlayed answer welcomes ours ms (empty ledger gate) → IsRun gate ours ledger ms
