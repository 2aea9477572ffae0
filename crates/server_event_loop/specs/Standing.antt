-- How a server stands among its connections.
use Rattle.std.specs.Prelude.{◌≡◌, ◌+◌, ◌<◌, ◌≤◌, ◌==◌, if◌then◌else◌, ℕ, List, [], ◌∷◌, map, Option, None, IsSome}
use Rattle.std.specs.List.{AllByRecursion}
use Rattle.engine.specs.Views.{EntryView}
use Rattle.server.specs.declared.server.Server.{Server}
use Rattle.server.specs.Serving.{Rest, find}
use Rattle.server.specs.Views.{rest_of}
use Rattle.server_event_loop.specs.declared.line.Parting.{Parting}
use Rattle.server_event_loop.specs.declared.seat.Seat.{Seat}
use Rattle.server_event_loop.specs.declared.closing.Closing.{Closing}
use Rattle.server_event_loop.specs.Peers.{Wire}
use Rattle.server_event_loop.specs.Moving.{Held}
use Rattle.server_event_loop.specs.Views.{seat_held, owed_of}

-- an end that is told: the number of the connection, and how its session was given up
pub record Told : Type 0 where
  pub conn : ℕ
  pub parting : Parting

-- what is owed to the peer of a connection whose session was given up
pub record Owed : Type 0 where
  pub conn : ℕ
  pub bytes : List ℕ

-- A server among its connections: what is held of those whose sessions live, and what is owed to those whose sessions were given up; the
-- server; what came and went of each connection; and the ends that were told, if they are known.
pub record At (G : Type 0) : Type 0 where
  pub seats : List Held
  pub closings : List Owed
  pub rest : Rest G
  pub wire : ℕ → Wire
  pub told : Option (List Told)

-- what is owed on a connection
abbrev pub closing_owed : Closing → Owed
closing_owed c = record { conn = c.conn; bytes = owed_of c }

-- a server among these connections
abbrev pub standing : {E G P J : Type 0} → (E → List EntryView) → (P → ℕ → Wire)
    → (J → Option (List Told)) → List Seat → List Closing → Server E G → P → J → At G
standing entries wire told seats closings server peers journal = record {
  seats = map seat_held seats;
  closings = map closing_owed closings;
  rest = rest_of entries server;
  wire = wire peers;
  told = told journal;
}

-- how many have a number, of the connections whose sessions live
abbrev pub seats_at : ℕ → List Held → ℕ
seats_at k [] = 0
seats_at k (h ∷ hs) = (if h.conn == k then 1 else 0) + seats_at k hs

-- and of those whose sessions were given up
abbrev pub closings_at : ℕ → List Owed → ℕ
closings_at k [] = 0
closings_at k (c ∷ cs) = (if c.conn == k then 1 else 0) + closings_at k cs

-- the connection's number is below the next, and its session lives
pub record IsLive {G : Type 0} (r : Rest G) (h : Held) : Type 0 where
  pub below : h.conn < r.next
  pub lives : IsSome (find h.conn r.sessions)

-- Each connection has a number of its own below the next, and where its session wasn't given up, it lives. No session has a number from the
-- next on.
pub record IsSeated {G : Type 0} (a : At G) : Type 0 where
  pub once : (k : ℕ) → seats_at k a.seats + closings_at k a.closings ≤ 1
  pub seats : AllByRecursion (IsLive a.rest) a.seats
  pub closings : AllByRecursion (λ c. c.conn < a.rest.next) a.closings
  pub unused : (k : ℕ) → a.rest.next ≤ k → find k a.rest.sessions ≡ None
