-- How far a loop has come, and what it has printed, if a fault breaks it off.
use Rattle.std.specs.Prelude.{◌⊎◌, ℕ, List, take, Option, Result, Ok, Err}
use Rattle.std.specs.Io.KnownBytes.{Appends}
use Rattle.engine.specs.Views.{EntryView}
use Rattle.server_session.specs.Session.{Setting}
use Rattle.server.specs.Serving.{Rest}
use Rattle.streams.specs.declared.fault.StreamFault.{StreamFault}
use Rattle.streams.specs.Fronts.{AppendsFront}
use Rattle.cli_scripts.specs.Views.{ScriptRequestView}
use Rattle.cli_output.specs.declared.stop.StopReason.TheVariants.{Broken}
use Rattle.cli_output.specs.Telling.{entries_text}
use Rattle.cli_sessions.specs.declared.loops.Pair.{Pair}
use Rattle.cli_sessions.specs.Turns.{AreQuiet, IsQuiet, Turns, all_sent, due, exchanged, stage, talk_for, turns_of}
use Rattle.cli_sessions.specs.Ways.{Ways}
use Rattle.cli_sessions.specs.Passing.{Passes}
use Rattle.cli_sessions.specs.Looping.{Comes, Goes, HasCause, Loops, ReadsUpTo, all_text, end, whole_talk}

module _ (S : Setting) (conn : ℕ) (ledger : List EntryView) where
  -- A fault came when both had come so far, in the exchange that follows: the client has read all that was answered before, and a beginning of what the
  -- session answers to all that it has to send. At most 4,096 bytes more were read and not heard. What is printed of what was heard was, or a
  -- beginning of it where the fault came on the way.
  abbrev pub BreaksIn : Ways → Ways → Turns → Type 0
  BreaksIn start now t =
      ReadsUpTo (talk_for S conn ledger t.sent).out t.text (all_sent t.place) (due S conn ledger t)
      start.down.left now.down.left start.out now.out

  -- a fault came so once the first n of these lines were submitted
  abbrev pub BreaksAt : Ways → Ways → List (ℕ × ScriptRequestView) → Type 0
  BreaksAt start now lines = (n : ℕ) × BreaksIn start now (stage S conn ledger (take n lines))

module _ {G : Type 0} (r : Rest G) (conn : ℕ) (S : Setting) where
  -- An exchange was made, and no answer is still to come; or a fault broke it off.
  abbrev pub Exchanges : Ways → Ways → Turns → Pair → (Rest G → Type 0)
      → Result (Unit {0}) StreamFault → Type 0
  Exchanges start now t pair Now result =
      Goes r conn start now Now
      (Comes r conn S start now (exchanged S conn r.ledger t) pair Now
      × IsQuiet (exchanged S conn r.ledger t))
      (BreaksIn S conn r.ledger start now t) result

  -- Lines were run, and after none an answer is still to come; or a fault broke it off.
  abbrev pub RunsLines : List (ℕ × ScriptRequestView) → Ways → Ways → Pair → (Rest G → Type 0)
      → Result (Unit {0}) StreamFault → Type 0
  RunsLines lines start now pair Now result =
      Goes r conn start now Now
      (Comes r conn S start now (turns_of S conn r.ledger lines) pair Now
      × AreQuiet S conn r.ledger lines)
      (BreaksAt S conn r.ledger start now lines) result

module _ {G : Type 0} (r : Rest G) (S : Setting) (lines : List (ℕ × ScriptRequestView)) where
  -- A fault came behind the lines: all that is printed of them was, and a beginning of the lines of the ledger.
  pub record BreaksBehind (start last : Ways) : Type 0 where
    pub up : Passes start.up last.up (end r S lines).sent
    pub down : Passes start.down last.down (whole_talk r S lines).out
    pub out : Option (List ℕ)
    pub printed : Appends start.out out (end r S lines).text
    pub entries : AppendsFront out last.out (entries_text (whole_talk r S lines).ledger)

  -- If a fault breaks a loop off, what was printed is a beginning of what a whole run prints, and what the client has heard by then is printed,
  -- unless the fault came while it was.
  pub record Breaks (start last : Ways) : Type 0 where
    pub begins : AppendsFront start.out last.out (all_text r S lines)
    pub printed : BreaksAt S r.next r.ledger start last lines ⊎ BreaksBehind start last

  -- It ran whole; or a fault broke it off.
  abbrev pub EndsAt : (Rest G → Type 0) → Ways → Ways → Result (Unit {0}) StreamFault → Type 0
  EndsAt Now start last (Ok x) = Loops r S lines Now start last
  EndsAt Now start last (Err fault) =
      HasCause (Broken fault) start last × Breaks start last
