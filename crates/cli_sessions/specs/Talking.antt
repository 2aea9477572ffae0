-- What a client at a shell does with numbered lines: what it sends and reads, what is printed and told, and where it stands then.
use Rattle.std.specs.Prelude.{◌≡◌, ◌⊎◌, ℕ, Bool, true, false, not, ◌&&◌, if◌then◌else◌, List, [], ◌∷◌, ◌++◌, drop, codes, Option, Some, None}
use Rattle.std.specs.List.{flat_map}
use Rattle.cli_sessions.specs.Words.{Appends, Consumes, IsAtEnd, Version, V51, Newest, Phase, is_defunct, RequestView, Outcome, SubmitFault, Knows, Note, Rest}
use Rattle.cli_sessions.specs.Words.{begun as begun_rest, refuses, after_submit, taken_out, awaits, Fits, StreamFault, ReadFailed, WriteFailed, Memory, StaysSound}
use Rattle.cli_sessions.specs.Words.{AppendsFront, hears_all, after_all, IsNeeded, IsTurn, given_up, losses_then, Text, ScriptRequestView, meant, request_line_of}
use Rattle.cli_sessions.specs.Words.{refusal_code, version_name, Gets, lost_line, refused_line}
use Rattle.cli_sessions.specs.declared.caller.Caller.{Caller}
use Rattle.cli_sessions.specs.Printing.{IsFront, Prints, versions_after, notes_text}
use Rattle.cli_sessions.specs.ShellStreams.{Streams}

-- where a client stands, and the version at which rows are printed and requests are made
pub record Place : Type 0 where
  pub rest : Rest
  pub version : Version

-- at the beginning: the newest version, until one is heard
abbrev pub first_place : Place
first_place = record { rest = begun_rest Newest; version = V51 }

-- a client that stands there
pub record IsAt (c : Caller) (p : Place) : Type 0 where
  pub fits : Fits c.client p.rest
  pub version : c.version ≡ p.version

-- after a request that is accepted
abbrev pub submitted : Place → RequestView → Place
submitted p q = record { rest = after_submit p.rest q; version = p.version }

-- after so many bytes were taken out
abbrev pub sent_out : Place → ℕ → Place
sent_out p n = record { rest = taken_out p.rest n; version = p.version }

-- where a client stands after these bytes of its server
abbrev pub place_after : Place → List ℕ → Place
place_after p bytes = record {
  rest = after_all p.rest bytes;
  version = versions_after p.version (hears_all p.rest bytes).notes;
}

-- what is printed of these bytes
abbrev pub text_of : Place → List ℕ → List ℕ
text_of p bytes = notes_text p.version (hears_all p.rest bytes).notes

-- what is told at the start: the version that was taken, and how a line looks; or that there is no conversation
abbrev pub greeting_of : Bool → Version → List ℕ
greeting_of true v = codes "no conversation\n"
greeting_of false v = codes "version " ++ version_name v
    ++ codes "; each line is a request: hello, logon [bad], logoff, goodbye, reset, run TEXT HEX [r] [token T], begin [r] [token T], commit, rollback, discard N or pull N\n"

-- the same where a client stands after the version was heard
abbrev pub greeting : Place → List ℕ
greeting p = greeting_of p.rest.knows.over p.version

-- all that a client was told is printed, unless a sink failed or memory ran out
abbrev pub is_printed : Option StreamFault → Bool
is_printed None = true
is_printed (Some ReadFailed) = true
is_printed (Some WriteFailed) = false
is_printed (Some Memory) = false

-- while notes are printed none comes, or one that keeps some of them from it
abbrev pub CutsBy : Option StreamFault → Option StreamFault → Type 0
CutsBy fault cut = (cut ≡ None) ⊎ ((is_printed fault ≡ false) × (cut ≡ fault))

-- no answer is still to come, and the client goes on: nothing but a GOODBYE waits
abbrev pub is_settled : Knows → Bool
is_settled k = not (awaits k) && not k.over

-- what became of the requests that waited for an answer
abbrev pub lost_of : Knows → List (ℕ × Outcome)
lost_of k = if is_settled k then [] else losses_then k

-- a line for each of them
abbrev pub losses_text : List (ℕ × Outcome) → List ℕ
losses_text losses = flat_map lost_line losses

-- why a client has ended: its server took no version, or its answer can't be; nothing where a summary led to Defunct
abbrev pub ending_by : Option Version → Phase → List ℕ
ending_by None ph = codes "the server took no version\n"
ending_by (Some v) ph = if is_defunct ph then []
    else codes "the server's answer can't be: C6\n"

-- why no answer comes any more, if no fault says so: the server is gone while one is awaited, or the client has ended
abbrev pub ending : Knows → List ℕ
ending k = if awaits k then codes "the server is gone\n"
    else (if k.over then ending_by k.version k.phase else [])

-- the same, unless a fault comes, which is told by itself
abbrev pub why_text : Option StreamFault → Knows → List ℕ
why_text None k = ending k
why_text (Some fault) k = []

-- the bytes that were sent to the server and read of it, and what was printed on standard output and told on standard error
pub record Log : Type 0 where
  pub sent : List ℕ
  pub read : List ℕ
  pub printed : List ℕ
  pub told : List ℕ

-- what is printed and told, if nothing is sent or read
abbrev pub said : List ℕ → List ℕ → Log
said printed told = record { sent = []; read = []; printed = printed; told = told }

-- Bytes are read as long as an answer is still to come, and printed as they are heard. A fault may break it off. After a sink's failure, and if
-- memory ran out, some of what was read wasn't fed, or a note wasn't printed.
pub record HeardUpTo (fault : Option StreamFault) (p : Place) : Type 0 where
  pub fed : List ℕ
  pub unheard : List ℕ
  pub needed : IsNeeded p.rest (fed ++ unheard)
  pub whole : is_printed fault ≡ true
      → (unheard ≡ []) ⊎ ((hears_all p.rest fed).knows.over ≡ true)
  pub printed : List ℕ
  pub told : List ℕ
  pub cut : Option StreamFault
  pub cuts : CutsBy fault cut
  pub prints : Prints p.version cut (hears_all p.rest fed).notes printed told

-- what is read, printed and told so, if this was sent
abbrev pub heard_log : {fault : Option StreamFault} {p : Place} → List ℕ → HeardUpTo fault p → Log
heard_log sent h =
    record { sent = sent; read = h.fed ++ h.unheard; printed = h.printed; told = h.told }

-- where a client stands once it has heard so much
abbrev pub heard_place : {fault : Option StreamFault} {p : Place} → HeardUpTo fault p → Place
heard_place {p = p} h = place_after p h.fed

-- what is told where a client is given up: what became of its requests, and why no answer comes
abbrev pub parting : Option StreamFault → Knows → List ℕ
parting fault k = losses_text (lost_of k) ++ why_text fault k

-- the same log, and behind it what is told where the client is given up
abbrev pub parting_log : {fault : Option StreamFault} {p : Place} → List ℕ → HeardUpTo fault p → Log
parting_log {fault = fault} sent h =
    record (heard_log sent h) { told = h.told ++ parting fault (heard_place h).rest.knows }

-- where a client stands once it is given up, unless all was answered
abbrev pub parted : {fault : Option StreamFault} {p : Place} → HeardUpTo fault p → Place
parted h =
    record { rest = given_up (heard_place h).rest; version = (heard_place h).version }

-- so much of a text is printed: all of it, or a beginning where a fault comes
abbrev pub IsPart : Option StreamFault → List ℕ → List ℕ → Type 0
IsPart None text part = part ≡ text
IsPart (Some fault) text part = IsFront part text

-- A beginning of it was put out, and all of it if it is whole.
pub record Puts (whole : Bool) (before after : Option (List ℕ)) (bytes : List ℕ) : Type 0 where
  pub front : AppendsFront before after bytes
  pub all : whole ≡ true → Appends before after bytes

-- The streams moved as a log has it; the server was sent all, or a beginning where a sink failed or memory ran out. A stream that fails is told:
-- without such a fault each is as sound as it was.
pub record Moves (fault : Option StreamFault) (before after : Streams) (log : Log) : Type 0 where
  pub read : Consumes before.left after.left log.read
  pub sent : Puts (is_printed fault) before.written after.written log.sent
  pub printed : Appends before.printed after.printed log.printed
  pub told : Gets before.deaf after.deaf before.told after.told log.told
  pub source : (fault ≡ Some ReadFailed → ⊥) → StaysSound before.read_failed after.read_failed
  pub sinks : (fault ≡ Some WriteFailed → ⊥) → StaysSound before.write_failed after.write_failed
      × StaysSound before.print_failed after.print_failed

-- What waits to be sent is sent, of which so many bytes are taken out, and answers are heard. It ends if none is still to come, or if the server
-- is gone, or by a fault. Then the client is given up, unless all was answered, and what became of the requests that waited is told, and why no
-- answer comes.
pub record Exchanges (fault : Option StreamFault) (p : Place) (before after : Streams) : Type 0 where
  pub out : ℕ
  pub heard : HeardUpTo fault (sent_out p out)
  pub moves : Moves fault before after (parting_log p.rest.unsent heard)
  pub ends : fault ≡ None → (drop out p.rest.unsent ≡ [])
      × (IsAtEnd after.left ⊎ (awaits (heard_place heard).rest.knows ≡ false))

-- A line with its number is refused, which is printed; or its request is sent and its answers are heard. A fault may break that off.
pub data TalksLine (fault : Option StreamFault) (p : Place) (l : ℕ × Text) (before after : Streams)
    : Place → Type 0 where
  refuses_line : (q : ScriptRequestView) (why : SubmitFault) (code part : List ℕ)
      → request_line_of l.1 ≡ Some q → refuses p.rest.knows (meant p.version q) ≡ Some why
      → refusal_code why ≡ Some code → IsPart fault (refused_line l.0 code) part
      → Moves fault before after (said part []) → TalksLine fault p l before after p
  answers_line : (q : ScriptRequestView) → request_line_of l.1 ≡ Some q
      → refuses p.rest.knows (meant p.version q) ≡ None
      → (x : Exchanges fault (submitted p (meant p.version q)) before after)
      → TalksLine fault p l before after (parted x.heard)

-- A client's conversation, after these lines, from streams to streams: the version is heard, and told, and then the lines follow. A fault may break
-- the last of it off, or come behind.
pub data Talked (start : Streams) : Option StreamFault → List (ℕ × Text) → Streams → Place → Type 0 where
  opens : (mid now : Streams) (x : Exchanges None first_place start mid)
      → Moves None mid now (said [] (greeting (parted x.heard)))
      → Talked start None [] now (parted x.heard)
  fails_first : (fault : StreamFault) (now : Streams)
      (x : Exchanges (Some fault) first_place start now)
      → Talked start (Some fault) [] now (parted x.heard)
  next_line : (fault : Option StreamFault) (lines : List (ℕ × Text)) (l : ℕ × Text)
      (mid now : Streams) (p r : Place) → Talked start None lines mid p
      → TalksLine fault p l mid now r → Talked start fault (lines ++ l ∷ []) now r
  breaks_off : (fault : StreamFault) (lines : List (ℕ × Text)) (mid now : Streams) (p : Place)
      → Talked start None lines mid p → Moves (Some fault) mid now (said [] [])
      → Talked start (Some fault) lines now p

-- one of the sinks has failed
abbrev pub FailsToPut : Streams → Type 0
FailsToPut now = (now.write_failed ≡ true) ⊎ (now.print_failed ≡ true)

-- A client asks its server, after so much of a conversation: for the version, or for the answers to a request that it accepts.
pub data IsAsking (start : Streams) : Streams → Place → Type 0 where
  asks_version : IsAsking start start first_place
  asks_answer : (lines : List (ℕ × Text)) (now : Streams) (p : Place) (q : RequestView)
      → Talked start None lines now p → refuses p.rest.knows q ≡ None
      → IsAsking start now (submitted p q)

-- It is the server's turn: after so much of a conversation its sink took all that is asked of it, and after the bytes that were read of it an
-- answer is still to come.
pub record IsServersTurn (start : Streams) (left written : Option (List ℕ)) : Type 0 where
  pub now : Streams
  pub place : Place
  pub asking : IsAsking start now place
  pub turn : IsTurn place.rest now.left left now.written written
