use Rattle.cli_sessions.proofs.Followed.{Hears, IsAt, None, Place}
use Rattle.cli_sessions.proofs.caller.Caller.converse.Given as goal

-- what was heard so far is printed
abbrev pub invariant-loop-self : goal.invariant-loop-self
invariant-loop-self g l = (p : Place) → IsAt l.fn.self p → Hears None p l.fn.streams.at l.streams.at l.self

-- how many more reads may give bytes
abbrev pub decreases-loop-self : goal.decreases-loop-self
decreases-loop-self g l = l.streams.at.reads
