use Rattle.cli_sessions.proofs.Looped.{breaks_none, inl}
use Rattle.cli_sessions.proofs.loops.run.Goals as goal

pub returns-in-Err-Memory-clause-loops : goal.returns-in-Err-Memory-clause-loops
returns-in-Err-Memory-clause-loops g c = λ r f none. (inl f, (tt, λ n. breaks_none _ _ _))

pub returns-in-Ok-run_opened-clause-loops : goal.returns-in-Ok-run_opened-clause-loops
returns-in-Ok-run_opened-clause-loops g c = λ r f none. rw (← c.in-Ok.ensures.1) (c.in-Ok-run_opened.ensures r f none)

pub returns-in-Err-clause-loops : goal.returns-in-Err-clause-loops
returns-in-Err-clause-loops g c = λ r f none.
    let k = c.in-Err.ensures r f none in (k.0, (k.1.0, λ n. rw (← c.in-Ok.ensures.1) k.1.1))
