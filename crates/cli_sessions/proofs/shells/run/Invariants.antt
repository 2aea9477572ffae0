use Rattle.cli_sessions.proofs.Followed.{List, ℕ, Consumes, Progress}
use Rattle.cli_sessions.proofs.shells.run.Given as goal

-- what was read of the input is done
abbrev pub invariant-loop-len : goal.invariant-loop-len
invariant-loop-len g l = record {
  script : List ℕ;
  read : Consumes (g.I.Source.left l.fn.input) (g.I.Source.left l.input) script;
  progress : Progress l.fn.streams.at l.streams.at script l.conversation;
}

-- how many more reads may give bytes
abbrev pub decreases-loop-len : goal.decreases-loop-len
decreases-loop-len g l = g.I.Source.reads l.input
