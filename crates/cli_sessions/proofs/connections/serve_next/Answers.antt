use Rattle.std.proofs.Common.{refl, inr}
use Rattle.cli_sessions.proofs.Served.{opened_lives}
use Rattle.cli_sessions.proofs.connections.serve_next.Goals as goal

pub returns-in-Err-clause-vacant : goal.returns-in-Err-clause-vacant
returns-in-Err-clause-vacant g c = let v = c.requires in (v.0, c.in-Err.ensures.opens v.0 v.1, v.2)

pub serve_opened-told-requires : goal.serve_opened-told-requires
serve_opened-told-requires g c = let v = c.requires in opened_lives (c.in-Ok.ensures.opens v.0 v.1) v.2

pub returns-in-Ok-put_end-clause-vacant : goal.returns-in-Ok-put_end-clause-vacant
returns-in-Ok-put_end-clause-vacant g c = let v = c.requires in (_, (c.serve_opened-told.ensures.served v.0 (c.in-Ok.ensures.opens v.0 v.1) v.2).1, refl)

pub returns-in-Err-put_end-clause-vacant : goal.returns-in-Err-put_end-clause-vacant
returns-in-Err-put_end-clause-vacant g c = let v = c.requires in (_, (c.serve_opened-told.ensures.served v.0 (c.in-Ok.ensures.opens v.0 v.1) v.2).1, refl)

pub returns-in-Ok-put_end-clause-told : goal.returns-in-Ok-put_end-clause-told
returns-in-Ok-put_end-clause-told g c = λ r f. rw (← (c.in-Ok.ensures.opens r f).number) c.in-Ok-put_end.ensures.told

pub returns-in-Ok-put_end-clause-ok : goal.returns-in-Ok-put_end-clause-ok
returns-in-Ok-put_end-clause-ok g c = λ r f e. c.serve_opened-told.ensures.served r (c.in-Ok.ensures.opens r f) e

pub returns-in-Ok-put_end-clause-serves : goal.returns-in-Ok-put_end-clause-serves
returns-in-Ok-put_end-clause-serves g c = λ r f e. c.serve_opened-told.ensures.serves r (c.in-Ok.ensures.opens r f) e

pub returns-in-Err-put_end-clause-err : goal.returns-in-Err-put_end-clause-err
returns-in-Err-put_end-clause-err g c = λ r f e. inr (c.serve_opened-told.ensures.served r (c.in-Ok.ensures.opens r f) e)
