-- The states of a session, and what a client can tell apart of them.
use Rattle.std.specs.Prelude.{Bool, true, false}
use Rattle.machine.specs.declared.states.State.{State}
use Rattle.machine.specs.declared.states.Phase.{Phase}

-- the phase of a state: IGNORED doesn't tell Failed from Interrupted
abbrev pub phase_of : State → Phase
phase_of State.Fresh = Phase.Fresh
phase_of State.Unauth = Phase.Unauth
phase_of State.Ready = Phase.Ready
phase_of State.Streaming = Phase.Streaming
phase_of State.TxReady = Phase.TxReady
phase_of State.TxStreaming = Phase.TxStreaming
phase_of State.Failed = Phase.Halted
phase_of State.Interrupted = Phase.Halted
phase_of State.Defunct = Phase.Defunct

-- two names of one state
abbrev pub same_state : State → State → Bool
same_state State.Fresh State.Fresh = true
same_state State.Unauth State.Unauth = true
same_state State.Ready State.Ready = true
same_state State.Streaming State.Streaming = true
same_state State.TxReady State.TxReady = true
same_state State.TxStreaming State.TxStreaming = true
same_state State.Failed State.Failed = true
same_state State.Interrupted State.Interrupted = true
same_state State.Defunct State.Defunct = true
same_state _ _ = false

-- two names of one phase
abbrev pub same_phase : Phase → Phase → Bool
same_phase Phase.Fresh Phase.Fresh = true
same_phase Phase.Unauth Phase.Unauth = true
same_phase Phase.Ready Phase.Ready = true
same_phase Phase.Streaming Phase.Streaming = true
same_phase Phase.TxReady Phase.TxReady = true
same_phase Phase.TxStreaming Phase.TxStreaming = true
same_phase Phase.Halted Phase.Halted = true
same_phase Phase.Defunct Phase.Defunct = true
same_phase _ _ = false
