-- What a world reports of its connections.
use Rattle.std.specs.Prelude.{ℕ, zero, suc, false, if◌then◌else◌, Option, Some, None, List, [], ◌∷◌, length}
use Rattle.machine.specs.declared.State.{State}
use Rattle.machine.specs.declared.Phase.{Phase}
use Rattle.machine.specs.States.{phase_of}
use Rattle.server_session.specs.declared.Cause.{Cause}
use Rattle.server_session.specs.declared.Worked.{Worked}
use Rattle.client.specs.declared.Outcome.{Outcome}
use Rattle.client.specs.Verdicts.{Told, GotRow, Got}
use Rattle.client.specs.Rest.{losses}
use Rattle.client.specs.Client.{knows_of}
use Rattle.world.specs.Connections.{Said, SaysSummary, Peer, Ours, Foreign, Connection, heard_by_bytes}

-- the summaries that the server wrote, the oldest first: ordinal and phase
abbrev pub wrote_after : List Said → List (ℕ × Phase) → List (ℕ × Phase)
wrote_after [] later = later
wrote_after (SaysSummary x ∷ xs) later = wrote_after xs ((x.ordinal, phase_of x.state) ∷ later)
wrote_after (_ ∷ xs) later = wrote_after xs later

-- all summaries that the session of a connection wrote, the oldest first
abbrev pub wrote : Connection → List (ℕ × Phase)
wrote k = wrote_after k.says []

-- the one that a work step tells of
abbrev pub wrote_by : Worked → List (ℕ × Phase)
wrote_by (Worked.Wrote ordinal kind state entry) = (ordinal, phase_of state) ∷ []
wrote_by _ = []

-- a summary that a client read
pub record ReadSummary : Type 0 where
  -- its request's ordinal
  pub ordinal : ℕ
  -- the phase that it leads to
  pub phase : Phase
  -- what became of the request
  pub outcome : Outcome

-- those that the client read, the oldest first
abbrev pub read_after : List Told → List ReadSummary → List ReadSummary
read_after [] later = later
read_after (GotRow row ∷ ts) later = read_after ts later
read_after (Got i p o a ∷ ts) later =
    read_after ts (record { ordinal = i; phase = p; outcome = o } ∷ later)

-- of a foreign peer nothing is known
abbrev pub by_peer : {A : Type 0} → Peer → List A → List A
by_peer (Ours wish) xs = xs
by_peer Foreign xs = []

-- the summaries that the client of a connection read, the oldest first
abbrev pub summaries_told : Connection → List ReadSummary
summaries_told k = by_peer k.peer (read_after (heard_by_bytes k).told [])

-- the outcomes that the client gave when it was lost
abbrev pub outcomes_at_loss : Connection → List (ℕ × Outcome)
outcomes_at_loss k = by_peer k.peer
    (if k.client_lost then losses (knows_of (heard_by_bytes k) k.sent false) else [])

-- the ordinals from one on, so many
abbrev pub ordinals : ℕ → ℕ → List ℕ
ordinals i zero = []
ordinals i (suc n) = i ∷ ordinals (suc i) n

-- the requests that still wait for a summary
abbrev pub waits : Connection → List ℕ
waits k = let knows = knows_of (heard_by_bytes k) k.sent k.client_lost in by_peer k.peer
    (ordinals knows.first (length knows.waiting))

-- the session's state, or why it has ended
pub data Standing : Type 0 where
  stands : State → Standing
  has_ended : Cause → Standing

-- a session's state, or the cause of its end if it has ended
abbrev pub standing_of : State → Option Cause → Standing
standing_of s None = stands s
standing_of s (Some cause) = has_ended cause

-- where the session of a connection stands
abbrev pub standing : Connection → Standing
standing k = standing_of k.state k.ended
