-- What a client and a server in one process print and leave.
use Rattle.std.specs.Prelude.{◌≡◌, ◌⊎◌, ◌≤◌, ℕ, Bool, false, List, [], ◌++◌, length, Option, Some, IsSome, Result, Ok, Err}
use Rattle.std.specs.Io.KnownBytes.{Appends, Consumes}
use Rattle.wire.specs.Framing.{Opened}
use Rattle.server_session.specs.Session.{Setting}
use Rattle.cli_scripts.specs.Rows.{request_line_of}
use Rattle.cli_scripts.specs.Views.{ScriptRequestView}
use Rattle.cli_scripts.specs.declared.fault.ScriptFault.{ScriptFault}
use Rattle.cli_scripts.specs.Script.{IsRefused}
use Rattle.cli_sessions.specs.declared.caller.Caller.{Caller}
use Rattle.cli_sessions.specs.declared.loops.Pair.{Pair}
use Rattle.cli_output.specs.declared.stop.StopReason.{StopReason}
use Rattle.cli_output.specs.declared.stop.StopReason.TheVariants.{Unreadable, Broken}
use Rattle.cli_output.specs.Stopping.{Gets, IsStopOf, stop_text}
use Rattle.cli_sessions.specs.Talking.{Place, IsAt, text_of, place_after}
use Rattle.cli_sessions.specs.Turns.{Turns, no_turns, AreQuiet, all_sent, given, talk_for, turns_of}
use Rattle.cli_sessions.specs.Ways.{Way, Ways}
use Rattle.cli_sessions.specs.Passing.{FailsToRead, FailsToWrite, Passes}
use Rattle.server.specs.Serving.{Rest, find, opened}
use Rattle.streams.specs.declared.fault.StreamFault.{StreamFault}
use Rattle.server_blocking.specs.declared.liveness.Liveness.{Liveness}
use Rattle.server_blocking.specs.Conversing.{Talk, with_talk}
use Rattle.streams.specs.Fronts.{AppendsFront}
use Rattle.streams.specs.Limits.{max_piece}
use Rattle.server_blocking.specs.Settling.{Grows, Stands, TakesUp}
use Rattle.server_blocking.specs.Views.{SinkView}
use Rattle.cli_output.specs.Telling.{entries_text}

-- a stop at a line that can't be read has the number of the first such line
abbrev pub Numbers : List ℕ → StopReason → Type 0
Numbers script (Unreadable n) = IsRefused request_line_of script (ScriptFault.Unreadable n)
Numbers script (Broken fault) = Unit {0}

-- the first line that can't be read is told by its number, on standard error
abbrev pub TellsLine : List ℕ → Bool → Bool → Option (List ℕ) → Option (List ℕ) → Type 0
TellsLine script had_failed has_failed before after = (n : ℕ)
    × IsRefused request_line_of script (ScriptFault.Unreadable n)
    × Gets had_failed has_failed before after (stop_text (Unreadable n))

-- Nothing was run: all is as it was before.
abbrev pub RunsNothing : {S W : Type 0} → S → S → W → W → Type 0
RunsNothing server server_now ways ways_now = (server_now ≡ server) × (ways_now ≡ ways)

-- No session was opened, or one, which lives on; the ledger has grown by some entries, or by none.
abbrev pub HasLooped : {G : Type 0} → Rest G → (Rest G → Type 0) → Type 0
HasLooped r Now = Now r ⊎ Grows (opened r) r.next Now

-- A fault came while a client that stood there heard these bytes: it has heard a beginning of them. This text is printed, and behind it what is printed
-- of what it heard, or a beginning where the fault came on the way.
pub record HearsFront (text : List ℕ) (p : Place) (bytes : List ℕ)
    (before after : Option (List ℕ)) : Type 0 where
  pub heard : List ℕ
  pub rest : List ℕ
  pub parts : heard ++ rest ≡ bytes
  pub prints : AppendsFront before after (text ++ text_of p heard)

-- Such a fault came while it read and heard an answer, behind these bytes: at most 4,096 bytes more were read and not heard.
pub record ReadsUpTo (behind text : List ℕ) (p : Place) (answer : List ℕ)
    (left left_now before after : Option (List ℕ)) : Type 0 where
  pub hears : HearsFront text p answer before after
  pub unheard : List ℕ
  pub read : Consumes left left_now (behind ++ (hears.heard ++ unheard))
  pub few : length unheard ≤ max_piece

-- Where a client stands before it hears an answer, the bytes that it has read by then, and the text that is printed, since the way to it and what is
-- printed were so.
pub record Outset : Type 0 where
  pub place : Place
  pub behind : List ℕ
  pub text : List ℕ
  pub way : Way
  pub out : Option (List ℕ)

-- a fault came then while it read and heard this answer
abbrev pub HearsUpTo : Outset → List ℕ → Option (List ℕ) → Option (List ℕ) → Type 0
HearsUpTo o answer left out = ReadsUpTo o.behind o.text o.place answer o.way.left left o.out out

-- the place of a client of which this item isn't whole
abbrev pub with_item : Place → Opened → Place
with_item p i = record {
  rest = record { wish = p.rest.wish; knows = p.rest.knows; item = i; unsent = p.rest.unsent };
  version = p.version;
}

-- The client stands there; of one that has ended it isn't said which item of its bytes isn't whole.
pub record StandsAt (c : Caller) (p : Place) : Type 0 where
  pub item : Opened
  pub at : IsAt c (with_item p item)
  pub same : p.rest.knows.over ≡ false → item ≡ p.rest.item

-- The client has heard all of these bytes, and what is printed of them was.
pub record IsHeardAll (p : Place) (bytes : List ℕ) (c : Caller) (before after : Option (List ℕ)) : Type 0 where
  pub stands : StandsAt c (place_after p bytes)
  pub printed : Appends before after (text_of p bytes)

-- The client has heard so much since it stood there: that passed, and what is printed of it was.
pub record HasHeard (o : Outset) (heard : List ℕ) (way : Way) (out : Option (List ℕ)) (c : Caller) : Type 0 where
  pub stands : StandsAt c (place_after o.place heard)
  pub passes : Passes o.way way (o.behind ++ heard)
  pub printed : Appends o.out out (o.text ++ text_of o.place heard)

-- These bytes passed behind what it has heard, and it has heard them; or a fault came while it read and heard them and what is answered after them.
abbrev pub HandsOver : Outset → List ℕ → List ℕ → List ℕ → Way → Option (List ℕ) → Caller
    → Result (Unit {0}) StreamFault → Type 0
HandsOver o heard bytes after way out c (Ok x) = HasHeard o (heard ++ bytes) way out c
HandsOver o heard bytes after way out c (Err fault) =
    HearsUpTo o (heard ++ (bytes ++ after)) way.left out

-- a stop is I1 only if a way breaks at its source, and I2 only if a sink has failed
abbrev pub HasCause : StopReason → Ways → Ways → Type 0
HasCause stop start now = IsStopOf stop (FailsToRead start now) (FailsToWrite now)

-- It came so far; or a fault broke it off there, and the session lives.
abbrev pub Goes : {G : Type 0} → Rest G → ℕ → Ways → Ways → (Rest G → Type 0) → Type 0 → Type 0
    → Result (Unit {0}) StreamFault → Type 0
Goes r conn start now Now Came There (Ok x) = Came
Goes r conn start now Now Came There (Err fault) =
    Grows r conn Now × HasCause (Broken fault) start now × There

-- a buffer with these bytes, as a sink
abbrev pub buffer_of : List ℕ → SinkView
buffer_of bytes = record { put = bytes; taken = Some bytes }

module _ {G : Type 0} (r : Rest G) (conn : ℕ) (S : Setting) where
  -- The session took these bytes of its client, up to its end, and this is all that it has put out.
  abbrev pub Sits : (Rest G → Type 0) → List ℕ → List ℕ → Liveness → Type 0
  Sits Now sent put_out liveness =
      TakesUp r conn S (Stands r conn S Now (buffer_of []) (buffer_of put_out)) [] sent liveness

  -- Both have come so far, and all passed over the streams and is printed. The session lives, and the ledger has at most grown.
  pub record Comes (start now : Ways) (t : Turns) (pair : Pair) (Now : Rest G → Type 0) : Type 0
    where
      pub lives : Grows r conn Now
      pub client : StandsAt pair.caller t.place
      pub session : Sits Now t.sent pair.said.bytes.items pair.liveness
      pub up : Passes start.up now.up t.sent
      pub down : Passes start.down now.down (talk_for S conn r.ledger t.sent).out
      pub printed : Appends start.out now.out t.text

  -- where the client stands before it hears what is answered in the exchange that follows
  abbrev pub outset : Ways → Turns → Outset
  outset start t = record {
    place = all_sent t.place;
    behind = (talk_for S conn r.ledger t.sent).out;
    text = t.text;
    way = start.down;
    out = start.out;
  }

  -- In that exchange these bytes were sent of all that the client has to send, and all that is answered to them is heard.
  abbrev pub Meets : Ways → Ways → Turns → List ℕ → Pair → (Rest G → Type 0) → Type 0
  Meets start now t sent pair Now = Comes start now (given S conn r.ledger t sent) pair Now

-- A session was opened with this number, the next, on a server on which none lives, and a client has heard nothing of it.
pub record IsOpened {G : Type 0} (r : Rest G) (S : Setting) (conn : ℕ) (pair : Pair) (Now : Rest G → Type 0) : Type 0 where
  pub number : conn ≡ r.next
  pub found : IsSome (find conn (opened r).sessions)
  pub now : Now (opened r)
  pub comes : (at : Ways) → Comes (opened r) conn S at at no_turns pair Now

module _ {G : Type 0} (r : Rest G) (S : Setting) (lines : List (ℕ × ScriptRequestView)) where
  -- how far a client comes with these lines, and a session on a server on which no other lives
  abbrev pub end : Turns
  end = turns_of S r.next r.ledger lines

  -- what the session does with all that its client sends
  abbrev pub whole_talk : Talk
  whole_talk = talk_for S r.next r.ledger end.sent

  -- the lines of what the client heard and of what it refused, and then those of the ledger that the session leaves
  abbrev pub all_text : List ℕ
  all_text = end.text ++ entries_text whole_talk.ledger

  -- Where all goes well, what is printed are the lines of what the client heard and of what it refused, and then those of the ledger that the
  -- session leaves; what passed over the streams is all that the client sent and all that the session answered; and after no line an answer
  -- is still to come.
  pub record Loops (Now : Rest G → Type 0) (start last : Ways) : Type 0 where
    pub unfinished : Opened
    pub printed : Appends start.out last.out all_text
    pub up : Passes start.up last.up end.sent
    pub down : Passes start.down last.down whole_talk.out
    pub quiet : AreQuiet S r.next r.ledger lines
    pub now : Now (with_talk (opened r) r.next unfinished whole_talk.ledger whole_talk.kept)
