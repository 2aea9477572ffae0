use Rattle.cli_sessions.proofs.Looped.{Consumes, length, take, ◌-◌, ◌≡◌, ◌≤◌}
use Rattle.cli_sessions.proofs.passing.read_known.Given as goal

-- so many were read
abbrev pub invariant-loop-at : goal.invariant-loop-at
invariant-loop-at g l =
    (l.at ≤ length l.buffer) × (length l.buffer ≡ length l.fn.buffer)
    × Consumes (g.S.PeerSource.left l.fn.source) (g.S.PeerSource.left l.source) (take l.at l.buffer)

abbrev pub decreases-loop-at : goal.decreases-loop-at
decreases-loop-at g l = length l.buffer - l.at
