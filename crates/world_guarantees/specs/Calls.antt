-- Lists of calls on a server as events of a world. All its peers are foreign: they may send any bytes.
use Rattle.std.specs.Prelude.{◌≡◌, ℕ, Option, Some, None, List, ◌∷◌, ◌++◌, map, slice_get}
use Rattle.engine.specs.Views.{EntryView}
use Rattle.engine.specs.Welcomes.{Welcome}
use Rattle.server_session.specs.declared.Worked.{Worked}
use Rattle.server_session.specs.Rest.{IsCounted}
use Rattle.server.specs.Serving.{Rest, empty, work_at}
use Rattle.server.specs.Running.{Event as Call, opens, feeds, works, takes, noops, loses, after_events}
use Rattle.world.specs.Connections.{Connection, Foreign}
use Rattle.world.specs.World.{World, Event, Opens, Feeds, Work, ToClient, PutsNoop, ServerLost, IsLedger, Reached, empty as empty_world}
use Rattle.world.specs.Rests.{server_rest}
use Rattle.world.specs.Contract.{Replays}
use Rattle.world.specs.Turns.{Definition, setting_of}

-- The event of the world that a call is, if the peer is foreign. Bytes that are taken out of a session reach its peer at once.
abbrev pub event_of : Call → Event
event_of opens = Opens Foreign
event_of (feeds conn piece) = Feeds conn piece
event_of (works conn) = Work conn
event_of (takes conn max) = ToClient conn max
event_of (noops conn) = PutsNoop conn
event_of (loses conn) = ServerLost conn

-- If a step reports a commit, the ledger is shorter than 2^63. If no session has the number, there is no step.
abbrev pub counted_if : {G : Type 0} → Option (Worked × Rest G) → Type 0
counted_if None = Unit {0}
counted_if (Some p) = IsCounted p.0

module _ {G : Type 0} (answer : Definition) (welcomes : G → Welcome) where
  -- The ledger is shorter than 2^63 at each commit that these calls report, as `work` promises.
  abbrev pub AreCounted : List Call → Rest G → Type 0
  AreCounted calls r = (before later : List Call) (conn : ℕ) → before ++ works conn ∷ later ≡ calls
      → counted_if (work_at answer welcomes conn (after_events answer welcomes before r))

  -- This is the server of a reached world: each session's state is that of its connection, and both have the same ledger.
  pub record IsBehind (gate : G) (brought : List EntryView) (r : Rest G) (w : World) : Type 0 where
    pub reached : Reached (setting_of answer welcomes gate) brought w
    pub server : server_rest gate w ≡ r

  -- The events of these calls lead to a world, without those that the world refuses. The world's server is the one after the calls, and all peers are
  -- foreign.
  pub record IsReplayed (gate : G) (ledger : List EntryView) (calls : List Call) : Type 0 where
    pub after : World
    pub replays : Replays (setting_of answer welcomes gate) (empty_world ledger) (map event_of calls)
        after
    pub behind : IsBehind gate ledger (after_events answer welcomes calls (empty ledger gate)) after
    pub foreign : (conn : ℕ) (k : Connection) → slice_get after.conns conn ≡ Some k
        → k.peer ≡ Foreign

  -- Each list of calls on a server is such a list of events, if the server was made over a ledger.
  abbrev pub AreEvents : G → Type 0
  AreEvents gate = (ledger : List EntryView) (calls : List Call) → IsLedger ledger
      → AreCounted calls (empty ledger gate) → IsReplayed gate ledger calls
