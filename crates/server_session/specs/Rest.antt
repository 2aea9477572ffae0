-- What a session keeps of its past: as much as its later steps depend on, and nothing else.
use Rattle.std.specs.Prelude.{◌≡◌, ℕ, zero, suc, ◌+◌, ◌<◌, Bool, true, false, not, ◌&&◌, ◌||◌, if◌then◌else◌, nat_le, Option, Some, None, is_some, option_map, unwrap_or, List, [], ◌∷◌, ◌++◌, length, take, drop, Result, Ok, Err}
use Rattle.packstream.specs.Tree.{Tree}
use Rattle.wire.specs.declared.Version.{Version}
use Rattle.wire.specs.declared.Version.TheVariants.{V51}
use Rattle.messages.specs.declared.fault.MsgFault.{MsgFault}
use Rattle.messages.specs.View.{RequestView, ResponseView}
use Rattle.messages.specs.Arrivals.{Arrival, Shook, NoMagic, Asked, Unread, TooLong, Heard, Chosen, Quiet, Told, heard_bytes}
use Rattle.machine.specs.declared.states.State.{State}
use Rattle.machine.specs.declared.rows.Verdict.{Verdict}
use Rattle.machine.specs.Asks.{kind_of, is_reset}
use Rattle.machine.specs.Rows.{row_at}
use Rattle.machine.specs.Following.{interruptible}
use Rattle.engine.specs.Views.{EntryView}
use Rattle.server_session.specs.declared.kinds.Cause.{Cause}
use Rattle.server_session.specs.declared.kinds.What.{What}
use Rattle.server_session.specs.declared.kinds.Worked.{Worked}
use Rattle.server_session.specs.declared.kinds.Worked.TheVariants as worked
use Rattle.server_session.specs.Session.{Setting, Open, no_result, Tx, no_tx, Change, Reply, OneRow, Summary, Bye, serve}
use Rattle.server_session.specs.Limits.{max_unsent}
use Rattle.machine.specs.Limits.{max_ordinals, max_waiting}
use Rattle.engine.specs.Limits.{ledger_bound}

-- what a session keeps; the bytes of its unfinished item stand beside it
pub record Kept : Type 0 where
  pub version : Option Version
  pub state : State
  pub ended : Option Cause
  -- the ordinal of the first that waits, and those that wait: requests, and at last what stands for none
  pub first : ℕ
  pub waiting : List Arrival
  pub result : Open
  pub tx : Tx
  -- bytes said and not taken out
  pub unsent : List ℕ

-- what a session keeps before any bytes have come
abbrev pub begun : Kept
begun = record {
  version = None;
  state = State.Fresh;
  ended = None;
  first = 0;
  waiting = [];
  result = no_result;
  tx = no_tx;
  unsent = [];
}

-- a summary that was written: the row by which it answered the request, in the state in which it was worked
pub record Written : Type 0 where
  pub ordinal : ℕ
  pub request : RequestView
  pub worked_in : State
  pub verdict : Verdict
  pub response : ResponseView
  pub state : State
  -- the ledger's length before its step
  pub length_before : ℕ
  -- what its step added to the ledger
  pub entry : Option Change

-- what a step did
pub data Done : Type 0 where
  Idle Full : Done
  WroteRow : List Tree → Done
  Wrote : Written → Done
  Ended : Cause → Done

-- one step: what is kept then, what it commits, what it did
pub record Step : Type 0 where
  pub kept : Kept
  pub commit : Option Change
  pub answer : Done

-- a step that commits nothing
abbrev pub rests : Kept → Done → Step
rests s answer = record { kept = s; commit = None; answer = answer }

-- the entry that a step adds
abbrev pub commit_entries : ℕ → ℕ → Option Change → List EntryView
commit_entries conn ordinal None = []
commit_entries conn ordinal (Some change) =
    record { conn = conn; ordinal = ordinal; writes = change.writes; token = change.token } ∷ []

-- the version that was taken, and V51 if none was
abbrev pub version_of : Kept → Version
version_of s = unwrap_or s.version V51

-- the open result and the open transaction are dropped
abbrev pub after_interrupt : Kept → Kept
after_interrupt s = record s { state = State.Interrupted; result = no_result; tx = no_tx }

-- if there is a RESET, it interrupts in the states in which it may
abbrev pub interrupts : Bool → Kept → Kept
interrupts b s = if b && interruptible s.state then after_interrupt s else s

-- the session ends by this cause: no result and no transaction is open then
abbrev pub ends : Cause → Kept → Kept
ends cause s = record s {
  ended = Some cause;
  state = State.Defunct;
  result = no_result;
  tx = no_tx;
}

-- what is unsent once this is said
abbrev pub puts : Kept → Heard → List ℕ
puts s x = s.unsent ++ heard_bytes (version_of s) x

-- why a session ends with a summary
abbrev pub cause_of : Verdict → State → Option Cause
cause_of Verdict.Invalid s = Some Cause.Invalid
cause_of d State.Defunct = Some Cause.AuthRefused
cause_of d s = None

-- a step by the reply to its request; later: what waits behind it
abbrev pub replies : List EntryView → Kept → RequestView → List Arrival → Reply → Step
replies entries s q later (OneRow r left) =
    rests (record s { result = left; unsent = puts s (Told (ResponseView.Record r)) }) (WroteRow r)
replies entries s q later Bye = rests (ends Cause.Goodbye s) (Ended Cause.Goodbye)
replies entries s q later (Summary d m left tx entry) =
    let next = unwrap_or (row_at (version_of s) s.state (kind_of q) d) State.Defunct in
    record {
      kept = record s {
        state = next;
        ended = cause_of d next;
        first = suc s.first;
        waiting = later;
        result = left;
        tx = tx;
        unsent = puts s (Told m);
      };
      commit = entry;
      answer = Wrote (record {
        ordinal = s.first;
        request = q;
        worked_in = s.state;
        verdict = d;
        response = m;
        state = next;
        length_before = length entries;
        entry = entry;
      });
    }

-- a step that serves this request; later: what waits behind it
abbrev pub serves : Setting → ℕ → List EntryView → Kept → RequestView → List Arrival → Step
serves S c entries s q later =
    replies entries s q later (serve S (version_of s) c entries s.state s.result s.tx q)

-- a RESET waits
abbrev pub reset_among : List Arrival → Bool
reset_among [] = false
reset_among (Asked q ∷ xs) = is_reset (kind_of q) || reset_among xs
reset_among (_ ∷ xs) = reset_among xs

-- what stands for no request waits
abbrev pub unread_among : List Arrival → Bool
unread_among [] = false
unread_among (Unread e ∷ xs) = true
unread_among (TooLong ∷ xs) = true
unread_among (_ ∷ xs) = unread_among xs

-- a step by what waits: a request is served, after the interrupt of a RESET that waits; what stands for none
-- ends the session
abbrev pub turns : Setting → ℕ → List EntryView → Kept → List Arrival → Step
turns S c entries s (Asked q ∷ later) =
    serves S c entries (interrupts (reset_among (Asked q ∷ later)) s) q later
turns S c entries s (Unread e ∷ later) = rests (ends Cause.Malformed s) (Ended Cause.Malformed)
turns S c entries s (TooLong ∷ later) = rests (ends Cause.TooBig s) (Ended Cause.TooBig)
turns S c entries s _ = rests s Idle

-- `work` of a session
abbrev pub work_kept : Setting → ℕ → List EntryView → Kept → Option Cause → Step
work_kept S c entries s (Some cause) = rests s (Ended cause)
work_kept S c entries s None =
    if nat_le max_unsent (length s.unsent) then rests s Full else turns S c entries s s.waiting

-- Where a step may take memory: before the end, below 65,536 unsent bytes, and where something waits.
pub record MayStep (s : Kept) : Type 0 where
  pub goes : s.ended ≡ None
  pub room : nat_le max_unsent (length s.unsent) ≡ false
  pub waits : 0 < length s.waiting

-- what `work` tells of a step
abbrev pub worked_of : Done → Worked
worked_of Idle = Worked.Idle
worked_of Full = Worked.Full
worked_of (WroteRow row) = Worked.Row
worked_of (Wrote x) = Worked.Wrote x.ordinal (kind_of x.request) x.state
    (option_map (λ _. x.length_before + 1) x.entry)
worked_of (Ended cause) = Worked.Ended cause

-- What a step reads and changes: what the session keeps, and the ledger.
pub record Snapshot : Type 0 where
  pub kept : Kept
  pub ledger : List EntryView

-- a step of the connection with this number: what `work` tells, and the snapshot after it
abbrev pub stepped : Setting → ℕ → Snapshot → Worked × Snapshot
stepped S conn x =
    let d = work_kept S conn x.ledger x.kept x.kept.ended in (
      worked_of d.answer,
      record {
        kept = d.kept;
        ledger = x.ledger ++ commit_entries conn x.kept.first d.commit;
      },
    )

-- A step writes a row, over any setting and ledger, and the ledger stays as it is.
abbrev pub StepsRow : Kept → Kept → Type 0
StepsRow old new = (S : Setting) (conn : ℕ) (ledger : List EntryView)
    → stepped S conn (record { kept = old; ledger = ledger })
    ≡ (Worked.Row, record { kept = new; ledger = ledger })

-- So many steps write a row each.
abbrev pub WritesRows : ℕ → Kept → Kept → Type 0
WritesRows zero old new = new ≡ old
WritesRows (suc n) old new = (mid : Kept) × WritesRows n old mid × StepsRow mid new

-- a commit that is told is of a ledger shorter than 2^63
abbrev pub IsCounted : Worked → Type 0
IsCounted (worked.Wrote ordinal kind state (Some len)) = len < ledger_bound
IsCounted _ = Unit {0}

-- what a message is, by what is read of it
abbrev pub arrival_by : Result RequestView MsgFault → Arrival
arrival_by (Ok q) = Asked q
arrival_by (Err e) = Unread e

-- `feed`: what the item that a piece completed does
abbrev pub after_item : Kept → Option Arrival → Kept
after_item s None = s
after_item s (Some (Shook (Some v))) =
    record s { version = Some v; unsent = s.unsent ++ heard_bytes v (Chosen (Some v)) }
after_item s (Some (Shook None)) = ends Cause.NoVersion (record s { unsent = puts s (Chosen None) })
after_item s (Some NoMagic) = ends Cause.BadMagic s
after_item s (Some Arrival.Idle) = s
after_item s (Some (Asked q)) =
    interrupts (is_reset (kind_of q)) (record s { waiting = s.waiting ++ Asked q ∷ [] })
after_item s (Some (Unread e)) = record s { waiting = s.waiting ++ Unread e ∷ [] }
after_item s (Some TooLong) = record s { waiting = s.waiting ++ TooLong ∷ [] }

-- what `feed` tells of what arrived; nothing arrived if no item is whole
abbrev pub what_of : Option Arrival → What
what_of None = What.Part
what_of (Some (Shook v)) = What.Handshake v
what_of (Some NoMagic) = What.BadMagic
what_of (Some Arrival.Idle) = What.Noop
what_of (Some (Asked q)) = What.Message
what_of (Some (Unread e)) = What.Malformed
what_of (Some TooLong) = What.Malformed

-- what is told of an arrival, and what is kept after it
abbrev pub Receives : What → Kept → Kept → Arrival → Type 0
Receives what old new x = (what ≡ what_of (Some x)) × (new ≡ after_item old (Some x))

-- nothing more is read
abbrev pub shut : Kept → Bool
shut s = is_some s.ended || unread_among s.waiting

-- no place is left, or no ordinal
abbrev pub full : Kept → Bool
full s = nat_le max_waiting (length s.waiting) || nat_le max_ordinals (s.first + length s.waiting)

-- `take_out`: the bytes that it answers
abbrev pub taken_out : ℕ → Kept → List ℕ
taken_out max s = take max s.unsent

-- what a session keeps after `take_out`
abbrev pub take_kept : ℕ → Kept → Kept
take_kept max s = record s { unsent = drop max s.unsent }

-- `noop`: whether one is put: after a version was taken, before the end, and below 65,536 unsent bytes
abbrev pub puts_noop : Kept → Bool
puts_noop s = not (not (is_some s.version) || is_some s.ended || nat_le max_unsent (length s.unsent))

-- what a session keeps after `noop`
abbrev pub noop_kept : Kept → Kept
noop_kept s = if puts_noop s then record s { unsent = puts s Quiet } else s
