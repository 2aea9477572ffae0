-- Sayings of a session over a list of calls, and the bytes of them that were taken out.
use Rattle.std.specs.Prelude.{◌≡◌, ℕ, ◌==◌, if◌then◌else◌, List, [], ◌∷◌, ◌++◌, Option, Some, None, Result}
use Rattle.std.specs.List.{flat_map}
use Rattle.wire.specs.declared.Version.{Version}
use Rattle.messages.specs.View.{ResponseView}
use Rattle.messages.specs.Arrivals.{Heard, Chosen, Quiet, Told, heard_bytes}
use Rattle.engine.specs.declared.answer.Mode.{Mode as QueryMode}
use Rattle.engine.specs.Views.{WriteView, ParameterView, EntryView, AnswerView, QueryFault}
use Rattle.engine.specs.Welcomes.{Welcome}
use Rattle.server_session.specs.declared.kinds.What.{What}
use Rattle.server_session.specs.Rest.{Done, WroteRow, Wrote, puts_noop, taken_out, version_of, work_kept}
use Rattle.server.specs.Serving.{Live, Rest, fed_live, find, setting}
use Rattle.server.specs.Running.{Event, feeds, works, takes, noops, after_event}

-- one thing that a session says, with the version that it speaks then
abbrev pub Saying : Type 0
Saying = Version × Heard

-- its bytes
abbrev pub saying_bytes : Saying → List ℕ
saying_bytes x = heard_bytes x.0 x.1

-- the bytes of all that was said, in order
abbrev pub text_of : List Saying → List ℕ
text_of says = flat_map saying_bytes says

-- a feed says the version that it took, or that it took none
abbrev pub says_at_feed : Version → What → List Saying
says_at_feed v (What.Handshake o) = (v, Chosen o) ∷ []
says_at_feed v _ = []

-- a step says a row or a summary
abbrev pub says_at_step : Version → Done → List Saying
says_at_step v (WroteRow row) = (v, Told (ResponseView.Record row)) ∷ []
says_at_step v (Wrote x) = (v, Told x.response) ∷ []
says_at_step v _ = []

-- the sayings of a session at a feed; none if it doesn't live
abbrev pub feed_says : List ℕ → Option Live → List Saying
feed_says piece None = []
feed_says piece (Some s) = says_at_feed (version_of s.kept) (fed_live s piece).0.what

-- its sayings at a no-op
abbrev pub noop_says : Option Live → List Saying
noop_says None = []
noop_says (Some s) = if puts_noop s.kept then (version_of s.kept, Quiet) ∷ [] else []

-- the bytes that are taken out of it
abbrev pub out_of : ℕ → Option Live → List ℕ
out_of max None = []
out_of max (Some s) = taken_out max s.kept

-- the bytes that a call took out of a session
abbrev pub out_by : {G : Type 0} → ℕ → Event → Rest G → List ℕ
out_by conn (takes c max) r = if c == conn then out_of max (find c r.sessions) else []
out_by conn _ r = []

module _ {G : Type 0} (answer : List EntryView → List WriteView → List ℕ → List ParameterView
    → QueryMode → Result AnswerView QueryFault) (welcomes : G → Welcome) where
  -- its sayings at a step
  abbrev pub step_says : Option Live → Rest G → List Saying
  step_says None r = []
  step_says (Some s) r = says_at_step (version_of s.kept)
      (work_kept (setting answer welcomes r) s.conn r.ledger s.kept s.kept.ended).answer

  -- the sayings of a session at a call
  abbrev pub call_says : ℕ → Event → Rest G → List Saying
  call_says conn (feeds c piece) r = if c == conn then feed_says piece (find c r.sessions) else []
  call_says conn (works c) r = if c == conn then step_says (find c r.sessions) r else []
  call_says conn (noops c) r = if c == conn then noop_says (find c r.sessions) else []
  call_says conn _ r = []

  -- over a list of calls, in order: the bytes that were taken out of a session
  abbrev pub bytes_out : ℕ → List Event → Rest G → List ℕ
  bytes_out conn [] r = []
  bytes_out conn (e ∷ es) r =
      out_by conn e r ++ bytes_out conn es (after_event answer welcomes e r)

  -- and its sayings
  abbrev pub sayings : ℕ → List Event → Rest G → List Saying
  sayings conn [] r = []
  sayings conn (e ∷ es) r =
      call_says conn e r ++ sayings conn es (after_event answer welcomes e r)

-- The bytes taken out of a session, and then those that wait to go, are the bytes of its sayings.
abbrev pub IsSpoken : List ℕ → List Saying → Live → Type 0
IsSpoken out says s = out ++ s.kept.unsent ≡ text_of says
