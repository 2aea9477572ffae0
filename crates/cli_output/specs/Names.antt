-- How outcomes, phases, refusals, states, causes and versions are printed.
use Rattle.std.specs.Prelude.{ℕ, List, codes, Option, Some, None}
use Rattle.client.specs.declared.Outcome.{Outcome}
use Rattle.client.specs.declared.Outcome.TheVariants as outcome
use Rattle.client.specs.declared.SubmitFault.{SubmitFault}
use Rattle.client.specs.declared.SubmitFault.TheVariants as refusal
use Rattle.machine.specs.declared.Phase.{Phase}
use Rattle.machine.specs.declared.Phase.TheVariants as phase
use Rattle.machine.specs.declared.State.{State}
use Rattle.wire.specs.declared.Version.{Version}
use Rattle.wire.specs.declared.Version.TheVariants.{V44, V50, V51}
use Rattle.server_session.specs.declared.kinds.Cause.{Cause}

-- the name of what became of a request
abbrev pub outcome_name : Outcome → List ℕ
outcome_name outcome.Done = codes "Done"
outcome_name outcome.Committed = codes "Committed"
outcome_name outcome.Refused = codes "Refused"
outcome_name outcome.Ignored = codes "Ignored"
outcome_name outcome.Lost = codes "Lost"
outcome_name outcome.Unknown = codes "Unknown"

-- the name of a phase
abbrev pub phase_name : Phase → List ℕ
phase_name phase.Fresh = codes "Fresh"
phase_name phase.Unauth = codes "Unauth"
phase_name phase.Ready = codes "Ready"
phase_name phase.Streaming = codes "Streaming"
phase_name phase.TxReady = codes "TxReady"
phase_name phase.TxStreaming = codes "TxStreaming"
phase_name phase.Halted = codes "Halted"
phase_name phase.Defunct = codes "Defunct"

-- the code of a refusal; want of memory is none
abbrev pub refusal_code : SubmitFault → Option (List ℕ)
refusal_code refusal.NotAllowed = Some (codes "C1")
refusal_code refusal.PipelineFull = Some (codes "C2")
refusal_code refusal.Size = Some (codes "C3")
refusal_code refusal.Closed = Some (codes "C4")
refusal_code refusal.Memory = None
refusal_code (refusal.Unwritable e) = Some (codes "C7")

-- the name of a session's state
abbrev pub state_name : State → List ℕ
state_name State.Fresh = codes "Fresh"
state_name State.Unauth = codes "Unauth"
state_name State.Ready = codes "Ready"
state_name State.Streaming = codes "Streaming"
state_name State.TxReady = codes "TxReady"
state_name State.TxStreaming = codes "TxStreaming"
state_name State.Failed = codes "Failed"
state_name State.Interrupted = codes "Interrupted"
state_name State.Defunct = codes "Defunct"

-- the code of a session's end
abbrev pub cause_code : Cause → List ℕ
cause_code Cause.BadMagic = codes "E1"
cause_code Cause.NoVersion = codes "E2"
cause_code Cause.TooBig = codes "E3"
cause_code Cause.Malformed = codes "E4"
cause_code Cause.Invalid = codes "E5"
cause_code Cause.AuthRefused = codes "E6"
cause_code Cause.Goodbye = codes "E7"
cause_code Cause.Lost = codes "E8"

-- the name of a version
abbrev pub version_name : Version → List ℕ
version_name V44 = codes "4.4"
version_name V50 = codes "5.0"
version_name V51 = codes "5.1"
