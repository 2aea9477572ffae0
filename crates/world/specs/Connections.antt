-- Connections: what their ends said and took of each other, and where their sessions stand. Lists of what was said have the newest first.
use Rattle.std.specs.Prelude.{ℕ, suc, Bool, false, Option, None, unwrap_or, List, [], ◌∷◌, ◌++◌, take, drop, map}
use Rattle.packstream.specs.Tree.{Tree}
use Rattle.wire.specs.declared.Version.{Version}
use Rattle.wire.specs.declared.Wish.{Wish}
use Rattle.wire.specs.Offers.{offer_of, wish_version}
use Rattle.wire.specs.Framing.{bytes_in_order, bytes_newest_first}
use Rattle.messages.specs.View.{RequestView, ResponseView}
use Rattle.messages.specs.Arrivals.{Arrival, arrivals, request_bytes, Heard, Chosen, Quiet, heard_bytes}
use Rattle.machine.specs.declared.State.{State}
use Rattle.server_session.specs.declared.Cause.{Cause}
use Rattle.server_session.specs.Session.{Open, no_result, Tx, no_tx}
use Rattle.server_session.specs.Rest.{Written, Kept}
use Rattle.client.specs.Client.{Reading, reading_of}
use Rattle.server.specs.Past.{places_of}

-- what a server says: the version, or that it takes none; a no-op; a row, as it was fitted; a summary
pub data Said : Type 0 where
  SaysVersion : Option Version → Said
  SaysNoop : Said
  SaysRow : List Tree → Said
  SaysSummary : Written → Said

-- what a client makes of it
abbrev pub heard_as : Said → Heard
heard_as (SaysVersion o) = Chosen o
heard_as SaysNoop = Quiet
heard_as (SaysRow row) = Heard.Told (ResponseView.Record row)
heard_as (SaysSummary x) = Heard.Told x.response

-- the peer of a session: a client of ours, with what it wishes, or a foreign one
pub data Peer : Type 0 where
  Ours : Wish → Peer
  Foreign : Peer

-- a connection: what its ends said and took of each other, and where its session stands
pub record Connection : Type 0 where
  pub peer : Peer
  -- the requests that the client submitted
  pub sent : List RequestView
  -- the bytes that the session took
  pub up : List ℕ
  pub version : Option Version
  -- the newest first
  pub says : List Said
  -- of the bytes of what was said: how many were taken out, and how many the client was given
  pub taken : ℕ
  pub down : ℕ
  pub cut : Bool
  pub client_lost : Bool
  pub server_lost : Bool
  pub state : State
  pub ended : Option Cause
  pub result : Open
  pub tx : Tx

-- a connection that is opened with this peer, before any other event
abbrev pub fresh : Peer → Connection
fresh peer =
    record {
      peer = peer;
      sent = [];
      up = [];
      version = None;
      says = [];
      taken = 0;
      down = 0;
      cut = false;
      client_lost = false;
      server_lost = false;
      state = State.Fresh;
      ended = None;
      result = no_result;
      tx = no_tx;
    }

-- how many requests were answered
abbrev pub answer_count : List Said → ℕ
answer_count [] = 0
answer_count (SaysSummary x ∷ xs) = suc (answer_count xs)
answer_count (_ ∷ xs) = answer_count xs

-- the version that a session speaks: the one that it took, and 5.1 if none was taken
abbrev pub said_version : Connection → Version
said_version k = unwrap_or k.version Version.V51

-- the bytes of all that was said
abbrev pub output : Connection → List ℕ
output k = bytes_newest_first (heard_bytes (said_version k)) (map heard_as k.says)

-- the bytes that the client was given
abbrev pub bytes_delivered : Connection → List ℕ
bytes_delivered k = take k.down (output k)

-- what the client of a connection wishes; a foreign peer stands as one that wishes the newest
abbrev pub wish_of : Peer → Wish
wish_of (Ours wish) = wish
wish_of Foreign = Wish.Newest

-- what a reader makes of the bytes that the client of a connection was given, by these bytes alone
abbrev pub heard_by_bytes : Connection → Reading
heard_by_bytes k = reading_of (wish_of k.peer) k.sent (bytes_delivered k)

-- all that the client ever puts out
abbrev pub input : Wish → List RequestView → List ℕ
input wish sent = offer_of wish ++ bytes_in_order (request_bytes (wish_version wish)) sent

-- the requests that a session took, and what can't be read, the oldest first
abbrev pub arrivals_at : Connection → List Arrival
arrivals_at k = places_of (arrivals k.up)

-- what arrived and isn't answered
abbrev pub waiting : Connection → List Arrival
waiting k = drop (answer_count k.says) (arrivals_at k)

-- what a session keeps: where it stands, and what follows from what it said, took and gave out
abbrev pub kept_of : Connection → Kept
kept_of k =
    record {
      version = k.version;
      state = k.state;
      ended = k.ended;
      first = answer_count k.says;
      waiting = waiting k;
      result = k.result;
      tx = k.tx;
      unsent = drop k.taken (output k);
    }

-- a connection whose session stands so then, and said this more, from which the rest that it keeps follows
abbrev pub keeping : Connection → Kept → List Said → Connection
keeping k s more =
    record k {
      version = s.version;
      says = more ++ k.says;
      state = s.state;
      ended = s.ended;
      result = s.result;
      tx = s.tx;
    }
