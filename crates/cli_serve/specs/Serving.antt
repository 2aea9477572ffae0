-- What serving many connections over sockets does.
use Rattle.std.specs.Prelude.{◌≡◌, ℕ, List, [], ◌∷◌, ◌++◌, codes, Result}
use Rattle.std.specs.Fmt.{decimal}
use Rattle.engine.specs.declared.answer.Mode.{Mode as QueryMode}
use Rattle.engine.specs.Views.{WriteView, ParameterView, EntryView, AnswerView, QueryFault}
use Rattle.engine.specs.Welcomes.{Welcome}
use Rattle.server.specs.Serving.{Rest}
use Rattle.server.specs.Running.{Event, after_events}
use Rattle.cli_serve.specs.declared.reasons.Reason.{Reason}
use Rattle.cli_serve.specs.declared.reasons.Reason.TheVariants.{Unbound, OutputFailed}

-- the line of a port at which connections are taken
abbrev pub listening_line : ℕ → List ℕ
listening_line port = codes "listening " ++ decimal port ++ 10 ∷ []

-- the port isn't had, or can't be printed
abbrev pub IsUnbound : Reason → Type 0
IsUnbound (Unbound e) = Unit {0}
IsUnbound OutputFailed = Unit {0}
IsUnbound _ = ⊥

-- The server stands as some calls leave it, one after the other, of any of its sessions. What holds of every list of calls holds of it.
abbrev pub Reaches : {G : Type 0}
    → (List EntryView → List WriteView → List ℕ → List ParameterView → QueryMode
    → Result AnswerView QueryFault)
    → (G → Welcome) → Rest G → Rest G → Type 0
Reaches answer welcomes r s = (calls : List Event) × (after_events answer welcomes calls r ≡ s)
