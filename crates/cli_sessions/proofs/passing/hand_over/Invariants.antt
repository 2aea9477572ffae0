use Rattle.cli_sessions.proofs.Looped.{HasHeard, LetsReadWaiting, List, Outset, Passes, length, ℕ, ◌++◌, ◌≡◌}
use Rattle.cli_sessions.proofs.passing.hand_over.Given as goal

-- some of it passed, was heard and is printed
abbrev pub invariant-loop-rest : goal.invariant-loop-rest
invariant-loop-rest g l = record {
  done : List ℕ;
  parts : done ++ l.rest ≡ l.fn.bytes;
  passes : Passes l.fn.way.at l.way.at done;
  lets : LetsReadWaiting g.S.PeerSource.left g.S.PeerSource.may_read l.way.at;
  heard : (o : Outset) (before : List ℕ) → HasHeard o before l.fn.way.at (g.O.Sink.taken l.fn.out) l.fn.caller
      → HasHeard o (before ++ done) l.way.at (g.O.Sink.taken l.out) l.caller;
}

abbrev pub decreases-loop-rest : goal.decreases-loop-rest
decreases-loop-rest g l = length l.rest
