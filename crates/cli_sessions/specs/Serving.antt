-- The effects of serving one connection after another.
use Rattle.std.specs.Prelude.{◌≡◌, ◌⊎◌, ◌≤◌, ℕ, ◌+◌, true, List, [], ◌++◌, length, Some, None, Result, Ok, Err, IfErr}
use Rattle.std.specs.Io.KnownBytes.{Consumes, IsAtEnd}
use Rattle.engine.specs.Views.{EntryView}
use Rattle.server_session.specs.declared.kinds.Cause.{Cause}
use Rattle.server_session.specs.Session.{Setting}
use Rattle.server.specs.declared.server.Server.{Server}
use Rattle.server.specs.Serving.{Rest, opened}
use Rattle.server.specs.Views.{Fits}
use Rattle.streams.specs.declared.fault.StreamFault.{StreamFault}
use Rattle.streams.specs.Moving.{Grows}
use Rattle.server_blocking.specs.Settling.{IsDueTo}
use Rattle.server_blocking.specs.Serving.{Serves}
use Rattle.cli_sessions.specs.declared.connections.ServedOne.{ServedOne}
use Rattle.cli_sessions.specs.ServerStreams.{Connection, source_of, sink_of}

-- no session lives
abbrev pub IsVacant : {E G : Type 0} → (E → List EntryView) → Server E G → Type 0
IsVacant {G = G} entries s = (r : Rest G) × Fits entries s r × (r.sessions ≡ [])

-- the end of a connection: its cause; or `Lost` and the fault that ended it
abbrev pub told_of : Result Cause StreamFault → ServedOne
told_of (Ok cause) = record { cause = cause; fault = None }
told_of (Err fault) = record { cause = Cause.Lost; fault = Some fault }

module _ {G : Type 0} (r : Rest G) where
  -- A session was opened with this number, the next one.
  pub record HasOpened (conn : ℕ) (Now : Rest G → Type 0) : Type 0 where
    pub number : conn ≡ r.next
    pub now : Now (opened r)

  -- One more session was opened and given up, and the ledger has grown by some entries, or by none.
  abbrev pub HasServed : (Rest G → Type 0) → Type 0
  HasServed Now = (more : List EntryView)
      × Now (record { sessions = []; next = r.next + 1; ledger = r.ledger ++ more; gate = r.gate })

  -- the same, or no session could be opened
  abbrev pub MayHaveServed : (Rest G → Type 0) → Type 0
  MayHaveServed Now = Now r ⊎ HasServed Now

  -- The connection was served as the conversation for the bytes that its source gave says, to its end or up to a fault. The fault is a stream's
  -- only if that stream has failed. This is reported of it.
  abbrev pub ServesSo : ℕ → Setting → (Rest G → Type 0) → Connection → Connection → ServedOne → Type 0
  ServesSo conn S Now before after told =
      (served : Result Cause StreamFault)
      × Serves r conn S Now (source_of before) (source_of after) (sink_of before) (sink_of after) served
      × (told ≡ told_of served)
      × IfErr served (λ e. IsDueTo e after.read_failed after.write_failed)

-- The source gave at most 65,536 bytes, which were dropped: to the end of the input, to a failure, or by 64 reads that gave some. Nothing was
-- written.
pub record Drains (before after : Connection) : Type 0 where
  pub dropped : List ℕ
  pub gave : Grows before.given after.given dropped
  pub read : Consumes before.left after.left dropped
  pub few : length dropped ≤ 65536
  pub ends : IsAtEnd after.left ⊎ (after.read_failed ≡ true) ⊎ (after.reads + 64 ≤ before.reads)
  pub put : after.put ≡ before.put
  pub written : after.written ≡ before.written
  pub write_failed : after.write_failed ≡ before.write_failed
