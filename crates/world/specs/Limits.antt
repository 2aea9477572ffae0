-- How much is kept of each connection, whatever comes to it.
use Rattle.std.specs.Prelude.{◌≡◌, ℕ, ◌+◌, ◌≤◌, false, Some, List, length, slice_get}
use Rattle.wire.specs.declared.Wish.{Wish}
use Rattle.engine.specs.Views.{EntryView}
use Rattle.server_session.specs.Session.{Setting}
use Rattle.server.specs.Running.{Bounded}
use Rattle.client.specs.Moments.{opened_bytes}
use Rattle.client.specs.Rest as asking
use Rattle.world.specs.Connections.{Ours, Connection}
use Rattle.world.specs.World.{World, live, Reached}
use Rattle.world.specs.Rests.{live_of, client_rest}
use Rattle.machine.specs.Limits.{max_waiting}
use Rattle.wire.specs.Limits.{max_message}
use Rattle.server.specs.Limits.{max_sessions}

-- a client: the requests that wait, and the bytes of an unfinished message
pub record IsFew (r : asking.Rest) : Type 0 where
  pub waiting : length r.knows.waiting ≤ max_waiting
  pub unfinished : opened_bytes r.item ≤ max_message + 1

-- the session of a connection, unless it was given up, and its client, of whose bytes any number was taken out
pub record IsWithin (c : ℕ) (k : Connection) : Type 0 where
  pub session : k.server_lost ≡ false → Bounded (live_of c k)
  pub client : (wish : Wish) (out : ℕ) → k.peer ≡ Ours wish → IsFew (client_rest out k)

-- After any events at most 16 sessions live, and each connection is within its limits.
abbrev pub KeepsLimits : Setting → Type 0
KeepsLimits S =
    (brought : List EntryView) (w : World) → Reached S brought w
    → (live w ≤ max_sessions) × ((c : ℕ) (k : Connection) → slice_get w.conns c ≡ Some k → IsWithin c k)
