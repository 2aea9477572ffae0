-- The events of a script's lines, and what is noted of them.
use Rattle.std.specs.Prelude.{ℕ, nat_lt, Bool, true, false, List, codes, Option, Some, None, Result, Ok, Err, slice_get}
use Rattle.wire.specs.declared.Version.{Version}
use Rattle.wire.specs.declared.Version.TheVariants.{V51}
use Rattle.wire.specs.Offers.{wish_version}
use Rattle.server_session.specs.declared.What.{What}
use Rattle.server_session.specs.declared.What.TheVariants as what
use Rattle.server_session.specs.declared.Worked.{Worked}
use Rattle.server_session.specs.declared.Worked.TheVariants as worked
use Rattle.client.specs.declared.SubmitFault.{SubmitFault}
use Rattle.cli_scripts.specs.declared.line.Peer.{Peer as PeerSaid}
use Rattle.cli_scripts.specs.declared.line.Peer.TheVariants as peer
use Rattle.cli_scripts.specs.declared.line.Amount.{Amount}
use Rattle.cli_scripts.specs.declared.line.Amount.TheVariants.{Bytes, All}
use Rattle.cli_scripts.specs.declared.line.Times.{Times}
use Rattle.cli_scripts.specs.declared.line.Times.TheVariants as times
use Rattle.cli_scripts.specs.Views as line
use Rattle.cli_scripts.specs.Views.{LineView}
use Rattle.cli_scripts.specs.Meant.{meant}
use Rattle.cli_output.specs.Names.{refusal_code}
use Rattle.world.specs.Connections.{Connection, Peer, Ours, Foreign, wish_of}
use Rattle.world.specs.World.{World, Event, Opens, Submit, ToServer, ToClient, Work, PutsNoop, Cut, ClientLost, ServerLost, Feeds, Seen, Opened, Submitted, Fed, Gave, SawWork, SawNoop, SawNothing, Refusal, V1, V2, V3}
use Rattle.wire.specs.Limits.{max_message}

-- the version of the requests of a connection: the one that its client wishes, and the newest if it has none
abbrev pub version_of : Option Connection → Version
version_of None = V51
version_of (Some k) = wish_version (wish_of k.peer)

-- the same of the connection with this number
abbrev pub version_at : World → ℕ → Version
version_at w c = version_of (slice_get w.conns c)

-- the peer that the line of an opening says
abbrev pub peer_said : PeerSaid → Peer
peer_said (peer.Ours wish) = Ours wish
peer_said peer.Foreign = Foreign

-- how many bytes a step of a line moves at most
abbrev pub bytes_in : Amount → ℕ
bytes_in (Bytes n) = n
bytes_in All = max_message

-- the number of the connection of a line, 0 for an opening
abbrev pub conn_of : LineView → ℕ
conn_of (line.Open p) = 0
conn_of (line.Submit c q) = c
conn_of (line.ToServer c a) = c
conn_of (line.ToClient c a) = c
conn_of (line.Work c t) = c
conn_of (line.Noop c) = c
conn_of (line.Cut c) = c
conn_of (line.ClientLost c) = c
conn_of (line.ServerLost c) = c
conn_of (line.Foreign c bytes) = c

-- the event of a line, whose request is of this version
abbrev pub event_by : Version → LineView → Event
event_by v (line.Open p) = Opens (peer_said p)
event_by v (line.Submit c q) = Submit c (meant v q)
event_by v (line.ToServer c a) = ToServer c (bytes_in a)
event_by v (line.ToClient c a) = ToClient c (bytes_in a)
event_by v (line.Work c t) = Work c
event_by v (line.Noop c) = PutsNoop c
event_by v (line.Cut c) = Cut c
event_by v (line.ClientLost c) = ClientLost c
event_by v (line.ServerLost c) = ServerLost c
event_by v (line.Foreign c bytes) = Feeds c bytes

-- the event of a line in a world, by the version of its connection's requests
abbrev pub event_at : World → LineView → Event
event_at w l = event_by (version_at w (conn_of l)) l

-- whether an amount of bytes is the word `all`
abbrev pub is_all : Amount → Bool
is_all (Bytes n) = false
is_all All = true

-- the same of how often a session works
abbrev pub is_always : Times → Bool
is_always times.Once = false
is_always times.All = true

-- whether the event of a line comes again as long as it moves something
abbrev pub repeats : LineView → Bool
repeats (line.ToServer c a) = is_all a
repeats (line.ToClient c a) = is_all a
repeats (line.Work c t) = is_always t
repeats (line.Open p) = false
repeats (line.Submit c q) = false
repeats (line.Noop c) = false
repeats (line.Cut c) = false
repeats (line.ClientLost c) = false
repeats (line.ServerLost c) = false
repeats (line.Foreign c bytes) = false

-- what an event comes to: what is seen of it, or why it can't be
abbrev pub Came : Type 0
Came = Result Seen Refusal

-- whether something moved
abbrev pub works : Worked → Bool
works worked.Idle = false
works worked.Full = false
works worked.Row = true
works (worked.Wrote ordinal kind state entry) = true
works (worked.Ended cause) = false

-- the same by what is seen: a byte was used, or a step wrote a row or a summary
abbrev pub moves_seen : Seen → Bool
moves_seen (Opened c) = false
moves_seen (Submitted answer) = false
moves_seen (Fed used w) = nat_lt 0 used
moves_seen (Gave used told) = nat_lt 0 used
moves_seen (SawWork w) = works w
moves_seen (SawNoop put) = false
moves_seen SawNothing = false

-- the same by what an event comes to: a refusal moves nothing
abbrev pub moves : Came → Bool
moves (Ok seen) = moves_seen seen
moves (Err refusal) = false

-- the code of a request that was submitted: None if it was taken
abbrev pub submit_code : Result ℕ SubmitFault → Option (List ℕ)
submit_code (Ok ordinal) = None
submit_code (Err fault) = refusal_code fault

-- the code of bytes at a session: Full, if no place or no ordinal is left
abbrev pub fed_code : What → Option (List ℕ)
fed_code what.Part = None
fed_code (what.Handshake v) = None
fed_code what.BadMagic = None
fed_code what.Noop = None
fed_code what.Message = None
fed_code what.Malformed = None
fed_code what.Full = Some (codes "Full")
fed_code what.Closed = None

-- the code of a session's step: Full, where 65,536 bytes or more lie untaken
abbrev pub worked_code : Worked → Option (List ℕ)
worked_code worked.Idle = None
worked_code worked.Full = Some (codes "Full")
worked_code worked.Row = None
worked_code (worked.Wrote ordinal kind state entry) = None
worked_code (worked.Ended cause) = None

-- the code of what is seen of an event, None if nothing is noted
abbrev pub seen_code : Seen → Option (List ℕ)
seen_code (Opened c) = None
seen_code (Submitted answer) = submit_code answer
seen_code (Fed used w) = fed_code w
seen_code (Gave used told) = None
seen_code (SawWork w) = worked_code w
seen_code (SawNoop put) = None
seen_code SawNothing = None

-- the code of what an event comes to, None if nothing is noted
abbrev pub code_of : Came → Option (List ℕ)
code_of (Ok seen) = seen_code seen
code_of (Err V1) = Some (codes "V1")
code_of (Err V2) = Some (codes "V2")
code_of (Err V3) = Some (codes "V3")
