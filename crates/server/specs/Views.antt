-- What contracts see of a server: each session by what it keeps.
use Rattle.std.specs.Prelude.{◌≡◌, List, map, Option, Some, None}
use Rattle.std.specs.Borrow.{Bor}
use Rattle.packstream_incremental.specs.Piecewise.{Points, Reads}
use Rattle.engine.specs.Views.{EntryView}
use Rattle.server_session.specs.Views.{kept_of}
use Rattle.messages_deframer.specs.Opening.{data_of}
use Rattle.server.specs.declared.server.Server.{Server}
use Rattle.server.specs.declared.connected.Connected.{Connected}
use Rattle.server.specs.Serving.{Live, Rest}
use Rattle.server.specs.Incoming.{opened_of}

-- a live session
abbrev pub live_of : Connected → Live
live_of s = record { conn = s.conn; kept = kept_of s.session; unfinished = opened_of s.incoming }

-- A session lives; the reader has read the data of its message that isn't whole, and stands at the point that it holds.
pub record IsLent (r : Points) (live : Option Live) : Type 0 where
  pub session : Live
  pub is : live ≡ Some session
  pub reads : Reads r.here (data_of session.unfinished)
  pub still : r.held ≡ r.here

-- a reader is lent where a session lives, and there alone
abbrev pub Lends : Option (Bor Points) → Option Live → Type 0
Lends None live = live ≡ None
Lends (Some r) live = IsLent r.now live

-- the sessions, the number that comes next, the ledger of the engine and the gate
abbrev pub rest_of : {E G : Type 0} → (E → List EntryView) → Server E G → Rest G
rest_of entries s = record {
  sessions = map live_of s.sessions.items;
  next = s.next;
  ledger = entries s.engine;
  gate = s.gate;
}

-- For the crates above that still speak of every rest: the server's rest is this one.
abbrev pub Fits : {E G : Type 0} → (E → List EntryView) → Server E G → Rest G → Type 0
Fits entries s r = rest_of entries s ≡ r
