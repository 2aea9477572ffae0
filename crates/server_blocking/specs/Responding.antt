-- How a session stands after a conversation.
use Rattle.std.specs.Prelude.{ℕ, List, Option, Some, None, Result}
use Rattle.engine.specs.declared.answer.Mode.{Mode as QueryMode}
use Rattle.engine.specs.Views.{WriteView, ParameterView, EntryView, AnswerView, QueryFault}
use Rattle.engine.specs.Welcomes.{Welcome}
use Rattle.machine.specs.declared.states.State.{State}
use Rattle.server_session.specs.declared.kinds.Cause.{Cause}
use Rattle.server_session.specs.Session.{Setting}
use Rattle.server_session.specs.Rest.{Kept}
use Rattle.server_blocking.specs.declared.response.End.{End}
use Rattle.server_blocking.specs.declared.response.End.TheVariants.{Live, Over}

-- how a session stands: over by this cause, or live in this state if there is none
abbrev pub end_by : Option Cause → State → End
end_by None state = Live state
end_by (Some cause) state = Over cause

-- the cause of its end, or its state
abbrev pub end_of : Kept → End
end_of k = end_by k.ended k.state

-- what an engine answers and what a gate welcomes
abbrev pub setting_of : (List EntryView → List WriteView → List ℕ → List ParameterView → QueryMode
    → Result AnswerView QueryFault) → Welcome → Setting
setting_of run welcome = record { run = run; welcome = welcome }
