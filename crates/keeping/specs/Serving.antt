-- What a server over a file has done when it ends.
use Rattle.std.specs.Prelude.{◌≡◌, ℕ, ◌+◌, Bool, true, false, List, [], ◌∷◌, ◌++◌, codes, length, Option, Some, None}
use Rattle.std.specs.Io.KnownBytes.{Appends}
use Rattle.engine.specs.Views.{EntryView}
use Rattle.engine_sqlite.specs.Kept.{Kept, ledger_of}
use Rattle.engine_sqlite.specs.Ledger.{LeavesLedger}
use Rattle.sqlite.specs.Held.{state}
use Rattle.sqlite.specs.Store.{Ghosts}
use Rattle.server_session.specs.declared.kinds.Cause.{Cause}
use Rattle.server.specs.Serving.{Rest}
use Rattle.streams.specs.declared.fault.StreamFault.{StreamFault}
use Rattle.streams.specs.declared.fault.StreamFault.TheVariants as fault
use Rattle.cli_output.specs.Telling.{conn_line}
use Rattle.cli_output.specs.Stopping.{Gets}
use Rattle.keeping.specs.declared.reasons.Reason.{Reason}
use Rattle.keeping.specs.declared.reasons.Reason.TheVariants as reason

-- the line that tells a fault of a stream, or want of memory
abbrev pub fault_line : StreamFault → List ℕ
fault_line fault.ReadFailed = codes "fault I1" ++ 10 ∷ []
fault_line fault.WriteFailed = codes "fault I2" ++ 10 ∷ []
fault_line fault.Memory = codes "fault I3" ++ 10 ∷ []

-- The fault that broke a connection off was told, if one did.
abbrev pub TellsFault : Option StreamFault → Bool → Bool → Option (List ℕ) → Option (List ℕ) → Type 0
TellsFault None had_failed has_failed before after = (has_failed ≡ had_failed) × (after ≡ before)
TellsFault (Some f) had_failed has_failed before after = Gets had_failed has_failed before after (fault_line f)

-- why a server ends for such a fault: its output failed, or memory ran out
abbrev pub reason_of : StreamFault → Reason
reason_of fault.ReadFailed = reason.Memory
reason_of fault.WriteFailed = reason.OutputFailed
reason_of fault.Memory = reason.Memory

-- the lines of connections that have ended, numbered from here on
abbrev pub lines_from : ℕ → List Cause → List ℕ
lines_from conn [] = []
lines_from conn (cause ∷ causes) = conn_line conn cause ++ lines_from (conn + 1) causes

-- An engine shows this ledger, and has stopped or not. If it hasn't, whatever crash comes leaves that ledger.
pub record Shows {E S : Type 0} (entries : E → List EntryView) (g : Ghosts S) (ledger : List EntryView) (is_stopped : Bool) : Type 0 where
  pub engine : Kept E S
  pub shows : ledger_of entries engine ≡ ledger
  pub stands : engine.is_stopped ≡ is_stopped
  pub left : is_stopped ≡ false → LeavesLedger (state g engine.conn) ledger

module _ {G : Type 0} (r now : Rest G) where
  -- So many sessions were opened and given up, and the ledger has grown by some entries, or by none.
  pub record Grows (count : ℕ) : Type 0 where
    pub more : List EntryView
    pub stands : now ≡ record { sessions = []; next = r.next + count; ledger = r.ledger ++ more; gate = r.gate }

  -- Connections were served, one after the other, and the line of each was printed, and nothing else.
  pub record ServesAll (before after : Option (List ℕ)) : Type 0 where
    pub causes : List Cause
    pub grows : Grows (length causes)
    pub printed : Appends before after (lines_from r.next causes)

  -- Connections were served, and the engine hasn't stopped.
  abbrev pub GoesOn : (Bool → Type 0) → Option (List ℕ) → Option (List ℕ) → Type 0
  GoesOn Stops before after = Stops false × ServesAll before after

  -- How a server stands that has ended for this reason, where `Stops` says of its engine that it has stopped, or not. It ends for a disk that failed where its
  -- engine has stopped, and for standard output if that has failed; then, and if memory has run out, the line of its last connection may be missing.
  abbrev pub EndsFor : Reason → (Bool → Type 0) → Bool → Option (List ℕ) → Option (List ℕ) → Type 0
  EndsFor reason.DiskFailed Stops out_failed before after = Stops true × ServesAll before after
  EndsFor reason.NoConnection Stops out_failed before after = GoesOn Stops before after
  EndsFor reason.OutputFailed Stops out_failed before after = (out_failed ≡ true) × (count : ℕ) × Grows count
  EndsFor reason.Memory Stops out_failed before after = (count : ℕ) × Grows count
  EndsFor (reason.Unopened e) Stops out_failed before after = ⊥
  EndsFor (reason.Unread f) Stops out_failed before after = ⊥
  EndsFor (reason.Port e) Stops out_failed before after = ⊥
