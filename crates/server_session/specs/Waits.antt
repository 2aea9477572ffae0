-- What is told of what waits.
use Rattle.std.specs.Prelude.{ℕ, ◌+◌, if◌then◌else◌, Bool, true, false, List, [], ◌∷◌}
use Rattle.messages.specs.View.{request_view}
use Rattle.machine.specs.Asks.{kind_of, is_reset}
use Rattle.server_session.specs.declared.waiting.Waiting.{Waiting}
use Rattle.server_session.specs.declared.waiting.Waiting.TheVariants as waiting

-- what waits stands for no request
abbrev pub is_unread : Waiting → Bool
is_unread (waiting.Asked request) = false
is_unread (waiting.Unread e) = true
is_unread waiting.TooLong = true

-- what waits is a RESET
abbrev pub is_reset_in : Waiting → Bool
is_reset_in (waiting.Asked request) = is_reset (kind_of (request_view request))
is_reset_in (waiting.Unread e) = false
is_reset_in waiting.TooLong = false

-- how many it is of those that pass the test: one, or none
abbrev pub one_of : (Waiting → Bool) → Waiting → ℕ
one_of p w = if p w then 1 else 0

-- how many pass the test
abbrev pub count_of : (Waiting → Bool) → List Waiting → ℕ
count_of p [] = 0
count_of p (w ∷ ws) = one_of p w + count_of p ws
