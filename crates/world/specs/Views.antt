-- What the code holds, as contracts see it.
use Rattle.std.specs.Prelude.{◌≡◌, ℕ, Option, Some, None, is_some, Ok, List, [], ◌++◌, map, length, false}
use Rattle.machine.specs.declared.Phase.{Phase}
use Rattle.messages.specs.View.{request_view}
use Rattle.client.specs.declared.Outcome.{Outcome}
use Rattle.client.specs.Fits as client
use Rattle.client.specs.Notes.{note}
use Rattle.client.specs.Rest as asking
use Rattle.world.specs.declared.flow.Flow.{Flow}
use Rattle.world.specs.declared.kinds.Peer.{Peer as PeerTold}
use Rattle.world.specs.declared.kinds.Peer.TheVariants as peer
use Rattle.world.specs.declared.kinds.Event.{Event as EventTold}
use Rattle.world.specs.declared.kinds.Event.TheVariants as event
use Rattle.world.specs.declared.kinds.Seen.{Seen as SeenTold}
use Rattle.world.specs.declared.kinds.Seen.TheVariants as seen
use Rattle.world.specs.declared.link.End.{End}
use Rattle.world.specs.declared.link.End.TheVariants as end
use Rattle.world.specs.declared.link.Link.{Link as LinkHeld}
use Rattle.world.specs.declared.link.Read.{Read}
use Rattle.world.specs.declared.link.Wrote.{Wrote}
use Rattle.world.specs.Connections.{Peer, Ours, Foreign}
use Rattle.world.specs.World.{Event, Opens, Submit, ToServer, ToClient, Work, PutsNoop, Cut, ClientLost, ServerLost, Feeds, Seen, Opened, Submitted, Fed, Gave, SawWork, SawNoop, SawNothing}
use Rattle.world.specs.Reports.{ReadSummary}
use Rattle.world.specs.Fits.{Link}

-- bytes on their way, in order: those that are joined, then those that lie apart
abbrev pub flow_of : Flow → List ℕ
flow_of f = f.first.items ++ f.more

-- a peer, as contracts see it
abbrev pub peer_of : PeerTold → Peer
peer_of (peer.Ours wish) = Ours wish
peer_of peer.Foreign = Foreign

-- an event, as contracts see it: a request by its view
abbrev pub event_of : EventTold → Event
event_of (event.Open p) = Opens (peer_of p)
event_of (event.Submit conn request) = Submit conn (request_view request)
event_of (event.ToServer conn max) = ToServer conn max
event_of (event.ToClient conn max) = ToClient conn max
event_of (event.Work conn) = Work conn
event_of (event.Noop conn) = PutsNoop conn
event_of (event.Cut conn) = Cut conn
event_of (event.ClientLost conn) = ClientLost conn
event_of (event.ServerLost conn) = ServerLost conn
event_of (event.Foreign conn bytes) = Feeds conn bytes.items

-- what is seen of an event, as contracts see it
abbrev pub seen_of : SeenTold → Seen
seen_of (seen.Opened conn) = Opened conn
seen_of (seen.Submitted answer) = Submitted answer
seen_of (seen.Fed took) = Fed took.used took.what
seen_of (seen.Gave used heard) = Gave used (Ok (note heard))
seen_of (seen.Worked worked) = SawWork worked
seen_of (seen.Noop put) = SawNoop put
seen_of seen.Nothing = SawNothing

-- a summary that a session wrote: its request's ordinal, and the phase that it leads to
abbrev pub wrote_of : Wrote → ℕ × Phase
wrote_of x = (x.ordinal, x.phase)

-- a summary that a client read, as contracts see it
abbrev pub read_of : Read → ReadSummary
read_of x = record { ordinal = x.ordinal; phase = x.phase; outcome = x.outcome }

-- the outcomes at a client's loss, none if it wasn't lost
abbrev pub losses_of : Option (List (ℕ × Outcome)) → List (ℕ × Outcome)
losses_of None = []
losses_of (Some losses) = losses

-- the peer of an end
abbrev pub end_peer : End → Peer
end_peer (end.Ours wish c lost) = Ours wish
end_peer end.Foreign = Foreign

-- the outcomes that the client of an end gave at its loss, if there is one and it was lost
abbrev pub end_lost : End → Option (List (ℕ × Outcome))
end_lost (end.Ours wish c lost) = lost
end_lost end.Foreign = None

-- the client of an end may stand at this rest of a run
abbrev pub FitsEnd : End → Option asking.Rest → Type 0
FitsEnd (end.Ours wish c lost) (Some x) = client.Fits c x
FitsEnd end.Foreign None = Unit {0}
FitsEnd e x = ⊥

-- how many requests wait at a client
abbrev pub waiting_at : Option asking.Rest → ℕ
waiting_at None = 0
waiting_at (Some x) = length x.knows.waiting

-- a link, of whose client this is the rest
abbrev pub link_of : LinkHeld → Option asking.Rest → Link
link_of l x =
    record {
      peer = end_peer l.end;
      client = x;
      up = flow_of l.up;
      down = flow_of l.down;
      cut = l.is_cut;
      client_lost = is_some (end_lost l.end);
      gone = l.gone;
      wrote = map wrote_of l.wrote.items;
      read = map read_of l.read.items;
      lost = losses_of (end_lost l.end);
    }

-- the rest of the client of a connection that is opened
abbrev pub client_of : Peer → Option asking.Rest
client_of (Ours wish) = Some (asking.begun wish)
client_of Foreign = None

-- the link of a connection that is opened: no byte is on its way, and nothing is to be reported
abbrev pub opened_link : Peer → Link
opened_link p = record {
  peer = p;
  client = client_of p;
  up = [];
  down = [];
  cut = false;
  client_lost = false;
  gone = None;
  wrote = [];
  read = [];
  lost = [];
}

-- an end of a connection that is opened: of this peer, its client at the beginning and not lost
pub record Begins (p : PeerTold) (e : End) : Type 0 where
  pub peer : end_peer e ≡ peer_of p
  pub lost : end_lost e ≡ None
  pub client : FitsEnd e (client_of (peer_of p))

-- what is held of a connection that is opened with this peer
abbrev pub IsOpened : PeerTold → LinkHeld → Type 0
IsOpened p l = (link_of l (client_of (peer_of p)) ≡ opened_link (peer_of p))
    × FitsEnd l.end (client_of (peer_of p))
