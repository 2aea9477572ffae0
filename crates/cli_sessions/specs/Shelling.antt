-- What the parts of a shell do, with or without a fault, and how a shell ends.
use Rattle.std.specs.Prelude.{◌≡◌, ◌⊎◌, ℕ, Bool, true, false, if◌then◌else◌, List, [], ◌∷◌, ◌++◌, ◌==◌, drop, Option, Some, None, IfSome, IfOk, Result, Ok, Err}
use Rattle.std.specs.List.{All}
use Rattle.cli_sessions.specs.Words.{result_err, Appends, Consumes, IsAtEnd, Version, RequestView, SubmitFault, Fits, Note, awaits, refuses, taken_out, StreamFault}
use Rattle.cli_sessions.specs.Words.{WriteFailed, StaysSound, AppendsFront, LetsRead, IsTurn, Text, is_empty, lines, filled_from, filled_lines, request_line_of}
use Rattle.cli_sessions.specs.Words.{StopReason, Unreadable, Broken, refusal_code, Gets, IsStopOf, ends_with, said_of, refused_line}
use Rattle.cli_sessions.specs.declared.caller.Caller.{Caller}
use Rattle.cli_sessions.specs.declared.shells.Conversation.{Conversation}
use Rattle.cli_sessions.specs.Printing.{Prints, versions_after}
use Rattle.cli_sessions.specs.Talking.{FailsToPut, Place, IsAt, submitted, sent_out, heard_log, heard_place, HeardUpTo, Exchanges, IsServersTurn, Moves, parted}
use Rattle.cli_sessions.specs.Talking.{Talked}
use Rattle.cli_sessions.specs.ShellStreams.{Streams}

-- What standard output and standard error took, and whether they have failed.
pub record Sinks : Type 0 where
  pub printed : Option (List ℕ)
  pub told : Option (List ℕ)
  pub print_failed : Bool
  pub deaf : Bool

-- those among the streams of a shell
abbrev pub sinks_of : Streams → Sinks
sinks_of s = record {
  printed = s.printed;
  told = s.told;
  print_failed = s.print_failed;
  deaf = s.deaf;
}

-- the same of two sinks, by what they took and whether they have failed
abbrev pub sinks_by : {O E : Type 0} → (O → Option (List ℕ)) → (O → Bool) → (E → Option (List ℕ))
    → (E → Bool) → O → E → Sinks
sinks_by taken failed told deaf out err = record {
  printed = taken out;
  told = told err;
  print_failed = failed out;
  deaf = deaf err;
}

-- These notes are printed, or a fault came while one was: what standard output took of them, which is sound unless it is told, and what standard
-- error got.
pub record PutsNotes (v : Version) (notes : List Note) (fault : Option StreamFault)
    (before after : Sinks) : Type 0 where
  pub printed : List ℕ
  pub told : List ℕ
  pub prints : Prints v fault notes printed told
  pub took : Appends before.printed after.printed printed
  pub sound : (fault ≡ Some WriteFailed → ⊥) → StaysSound before.print_failed after.print_failed
  pub got : Gets before.deaf after.deaf before.told after.told told

-- What waited to be sent, or some of it, was written; then bytes were read, fed and printed, up to a fault.
pub record Hears (fault : Option StreamFault) (p : Place) (before after : Streams) (c : Caller)
    : Type 0 where
  pub out : ℕ
  pub heard : HeardUpTo fault (sent_out p out)
  pub moves : Moves fault before after (heard_log p.rest.unsent heard)
  pub at : IsAt c (heard_place heard)
  pub all : fault ≡ None → drop out p.rest.unsent ≡ []

-- a piece more was heard; or there was none, and the input has ended; or a fault came
abbrev pub HearsMore : Place → Streams → Streams → Caller → Result Bool StreamFault → Type 0
HearsMore p before after c result = Hears (result_err result) p before after c
    × IfOk result (λ some. some ≡ false → IsAtEnd after.left)

-- the same until no answer was still to come, the input had ended, or a fault came
abbrev pub Converses : Option StreamFault → Place → Streams → Streams → Caller → Type 0
Converses fault p before after c = (x : Hears fault p before after c)
    × (fault ≡ None → IsAtEnd after.left ⊎ (awaits (heard_place x.heard).rest.knows ≡ false))

-- An exchange was made, up to a fault.
pub record Asks (fault : Option StreamFault) (p : Place) (before after : Streams) (c : Caller)
    : Type 0 where
  pub exchange : Exchanges fault p before after
  pub at : IsAt c (parted exchange.heard)

-- A request was submitted; or it is refused, which was printed; or a fault came: nothing was printed, or a beginning of it.
abbrev pub Submits : Place → RequestView → ℕ → Option (List ℕ) → Option (List ℕ)
    → (Place → Type 0) → Result Bool StreamFault → Type 0
Submits p q number before after Now (Ok true) =
    (refuses p.rest.knows q ≡ None) × (after ≡ before) × Now (submitted p q)
Submits p q number before after Now (Ok false) =
    (why : SubmitFault) × (code : List ℕ) × (refuses p.rest.knows q ≡ Some why)
    × (refusal_code why ≡ Some code) × Appends before after (refused_line number code) × Now p
Submits p q number before after Now (Err fault) =
    Now p × ((after ≡ before)
    ⊎ ((why : SubmitFault) × (code : List ℕ) × (refuses p.rest.knows q ≡ Some why)
    × (refusal_code why ≡ Some code) × AppendsFront before after (refused_line number code)))

-- a line with its number, unless it is empty
abbrev pub if_filled : ℕ → Text → List (ℕ × Text)
if_filled n line = if is_empty line then [] else (n, line) ∷ []

-- These lines were done, and a client stands where they lead.
pub record Reaches (start now : Streams) (lines : List (ℕ × Text)) (c : Caller) : Type 0 where
  pub place : Place
  pub talked : Talked start None lines now place
  pub at : IsAt c place

-- Of these bytes of the input each line that has ended is done, and the last is begun: whatever follows, its lines follow those.
pub record Progress (start now : Streams) (script : List ℕ) (c : Conversation) : Type 0 where
  pub done : List (ℕ × Text)
  pub reaches : Reaches start now done c.caller
  pub begun : All (λ b. (b == 10) ≡ false) c.begun.items
  pub follow : (more : List ℕ) → filled_lines (script ++ more)
      ≡ done ++ filled_from c.number (lines (c.begun.items ++ more))

-- the fault by which a conversation is broken off
abbrev pub fault_in : Option StopReason → Option StreamFault
fault_in None = None
fault_in (Some (Unreadable n)) = None
fault_in (Some (Broken fault)) = Some fault

-- which lines of a script are done: all; or those before the first that can't be read; or a beginning of them
abbrev pub AreDone : Option StopReason → List (ℕ × Text) → List (ℕ × Text) → Type 0
AreDone None all done = all ≡ done
AreDone (Some (Unreadable n)) all done =
    (line : Text) × (rest : List (ℕ × Text)) × (all ≡ done ++ (n, line) ∷ rest)
    × (request_line_of line ≡ None)
AreDone (Some (Broken fault)) all done = (rest : List (ℕ × Text)) × (all ≡ done ++ rest)

-- Of these lines as many were done as a stop leaves.
pub record Does (stop : Option StopReason) (start now : Streams) (all : List (ℕ × Text)) : Type 0 where
  pub done : List (ℕ × Text)
  pub lines : AreDone stop all done
  pub place : Place
  pub talked : Talked start (fault_in stop) done now place

-- these lines were done, and a client stands where they lead; or as many of them as a stop leaves
abbrev pub DoesMore : Option StopReason → Streams → Streams → List (ℕ × Text) → Caller → Type 0
DoesMore None start now all c = Reaches start now all c
DoesMore (Some stop) start now all c = Does (Some stop) start now all

-- the same of all lines of a script, at a stop
abbrev pub StopsIn : StopReason → Streams → Streams → List ℕ → Type 0
StopsIn stop start now script = Does (Some stop) start now (filled_lines script)

-- A byte more of the input was done; or it stopped at it, before the bytes after it were looked at.
abbrev pub TakesByte : Streams → Streams → List ℕ → ℕ → Conversation → Result (Unit {0}) StopReason
    → Type 0
TakesByte start now script byte c (Ok x) = Progress start now (script ++ byte ∷ []) c
TakesByte start now script byte c (Err stop) =
    (more : List ℕ) → StopsIn stop start now (script ++ byte ∷ more)

-- a piece more of the input was done, or it stopped in it
abbrev pub Takes : Streams → Streams → List ℕ → List ℕ → Conversation → Result (Unit {0}) StopReason
    → Type 0
Takes start now script piece c (Ok x) = Progress start now (script ++ piece) c
Takes start now script piece c (Err stop) = StopsIn stop start now (script ++ piece)

-- the input was read, to its end if nothing stops before, and its lines were done
pub record Runs (stop : Option StopReason) (before after : Option (List ℕ)) (start now : Streams)
    : Type 0 where
  pub script : List ℕ
  pub read : Consumes before after script
  pub end : stop ≡ None → IsAtEnd after
  pub does : Does stop start now (filled_lines script)

-- How a shell went. Its status says whether it stopped, and why; standard error has why at last. Its lines are those of the bytes of the input
-- that were read: all of them to the end; or those before the first that can't be read, which has the number that is told. The streams moved
-- as the conversation over these lines has it. A stream is told to have failed only if one of them has.
pub record Shells (status : ℕ) (input_failed : Bool) (before after : Option (List ℕ))
    (start now : Streams) : Type 0 where
  pub stop : Option StopReason
  pub ends : status ≡ ends_with stop
  pub cause : IfSome stop (λ s.
      IsStopOf s ((input_failed ≡ true) ⊎ (now.read_failed ≡ true)) (FailsToPut now))
  pub told : Option (List ℕ)
  pub deaf : Bool
  pub runs : Runs stop before after start (record now { told = told; deaf = deaf })
  pub said : Gets deaf now.deaf told now.told (said_of stop)

-- The streams to the server and standard output are as sound as they were.
pub record IsSound (before after : Streams) : Type 0 where
  pub source : StaysSound before.read_failed after.read_failed
  pub sink : StaysSound before.write_failed after.write_failed
  pub out : StaysSound before.print_failed after.print_failed

module _ {S : Type 0} (MayRead : S → Option (List ℕ) → ℕ → Type 0) (left : S → Option (List ℕ)) (now : Streams) (c : Caller) where
  -- A source lets itself be read when it is the turn of a client's server: the sink took all that the client puts out, and an answer is
  -- still to come.
  pub record LetsAsk : Type 0 where
    pub lets : LetsRead MayRead (λ s taken. (p : Place) → IsAt c p → IsTurn p.rest now.left (left s) now.written taken)

-- it is the server's turn after any beginning of an input that leaves the streams and the client so
abbrev pub IsTurnWithin : Streams → Conversation → Option (List ℕ) → Option (List ℕ) → Type 0
IsTurnWithin now c left taken =
    (start : Streams) (script : List ℕ) → Progress start now script c
    → IsServersTurn start left taken
