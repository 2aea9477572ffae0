-- Calls at both ends, in the order of time: on one server, and on this library's clients at the other ends of its connections.
use Rattle.std.specs.Prelude.{◌≡◌, ℕ, ◌==◌, if◌then◌else◌, Option, Some, None, List, [], ◌∷◌, ◌++◌}
use Rattle.wire.specs.declared.Wish.{Wish}
use Rattle.messages.specs.View.{RequestView}
use Rattle.engine.specs.Welcomes.{Welcome}
use Rattle.server.specs.Serving.{Rest}
use Rattle.server.specs.Running.{Event as Call}
use Rattle.server.specs.Past.{bytes_taken}
use Rattle.server_event_loop.specs.Moving.{bytes_given}
use Rattle.client.specs.Rest.{refuses}
use Rattle.client.specs.Moments.{Call as ClientCall, Submits, Run, starts, calls}
use Rattle.client.specs.Fits.{IsWrittenBy}
use Rattle.client_tracking.specs.Attempts.{Attempt}
use Rattle.world.specs.Turns.{Definition}
use Rattle.world_guarantees.specs.Calls.{AreCounted}

-- A call on the server, or on the client of the connection with this number.
pub data Moment : Type 0 where
  serves : Call → Moment
  asks : ℕ → ClientCall → Moment

-- The calls on the server, in order.
abbrev pub server_calls : List Moment → List Call
server_calls [] = []
server_calls (serves call ∷ ms) = call ∷ server_calls ms
server_calls (asks conn call ∷ ms) = server_calls ms

-- The calls on the client of one connection, in order.
abbrev pub client_calls : ℕ → List Moment → List ClientCall
client_calls conn [] = []
client_calls conn (serves call ∷ ms) = client_calls conn ms
client_calls conn (asks c call ∷ ms) =
    if c == conn then call ∷ client_calls conn ms else client_calls conn ms

-- The run of the client of a connection: its calls from a new client with this wish.
abbrev pub run_of : Wish → ℕ → List Moment → Run
run_of wish conn ms = calls (starts wish) (client_calls conn ms)

-- A run as an attempt: the client's wish, the requests that it accepted, the bytes that it took, and whether it is lost.
abbrev pub attempt_by : Wish → Run → Attempt
attempt_by wish x = record { wish = wish; sent = x.sent; took = x.took; lost = x.lost }

-- The attempt of the client of a connection.
abbrev pub attempt_of : Wish → ℕ → List Moment → Attempt
attempt_of wish conn ms = attempt_by wish (run_of wish conn ms)

-- The first bytes are a prefix of the second.
abbrev pub IsFront : List ℕ → List ℕ → Type 0
IsFront front whole = (rest : List ℕ) × (front ++ rest ≡ whole)

module _ {G : Type 0} (answer : Definition) (welcomes : G → Welcome) where
  -- The session of a connection has taken a prefix of the bytes that its client has put out, even if they still wait in the client. The client has
  -- taken a prefix of the bytes that came out of the session.
  pub record IsLinked (wish : Wish) (conn : ℕ) (ms : List Moment) (r : Rest G) : Type 0 where
    pub up : IsFront (bytes_taken answer welcomes conn (server_calls ms) r)
        ((run_of wish conn ms).out ++ (run_of wish conn ms).rest.unsent)
    pub down : IsFront (run_of wish conn ms).took
        (bytes_given answer welcomes conn (server_calls ms) r)

  -- Calls at both ends, from this server on. `ours` gives the wish of the client of each connection by its number, and None if the peer is foreign.
  pub record ArePlayed (ours : ℕ → Option Wish) (ms : List Moment) (r : Rest G) : Type 0 where
    pub counted : AreCounted answer welcomes (server_calls ms) r
    -- After each call, no byte has arrived at either end that the other end had not put out.
    pub linked : (before later : List Moment) (conn : ℕ) (wish : Wish) → ours conn ≡ Some wish
        → before ++ later ≡ ms → IsLinked wish conn before r
    -- A request that a client accepts can be encoded, as `submit` promises.
    pub written : (before later : List Moment) (conn : ℕ) (wish : Wish) (q : RequestView)
        → ours conn ≡ Some wish → before ++ asks conn (Submits q) ∷ later ≡ ms
        → refuses (run_of wish conn before).rest.knows q ≡ None
        → IsWrittenBy (run_of wish conn before).rest.knows.version q
