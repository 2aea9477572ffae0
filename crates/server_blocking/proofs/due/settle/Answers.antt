use Rattle.server_blocking.proofs.Stepping.{goes_first, goes_wrong, holds_part}
use Rattle.server_blocking.proofs.due.settle.Goals as goal

pub loop-init : goal.loop-init
loop-init g c = record { grows = λ r i h. h; goes = λ r u t before i s p h. goes_first t s p h }

pub loop-preserved : goal.loop-preserved
loop-preserved g c = record {
  grows = λ r i h. c.work_once.ensures.grows r i (c.loop.invariant.grows r i h);
  goes = λ r u t before i s p h. rw c.in-Ok-None.field-0-is at (c.in-Ok-None.ensures.steps r u t before i (c.loop.invariant.goes r u t before i s p h));
}

pub returns-in-Ok-Some-clause-settles : goal.returns-in-Ok-Some-clause-settles
returns-in-Ok-Some-clause-settles g c = λ r u t before i s p h. rw c.in-Ok-Some.field-0-is at (c.in-Ok-Some.ensures.steps r u t before i (c.loop.invariant.goes r u t before i s p h))

pub returns-in-Err-clause-settles : goal.returns-in-Err-clause-settles
returns-in-Err-clause-settles g c = λ r u t before i s p h. c.in-Err.ensures.steps r u t before i (c.loop.invariant.goes r u t before i s p h)

pub returns-clause-settles : goal.returns-clause-settles
returns-clause-settles g c = λ r u t before i s p h. let o = c.loop.invariant.goes r u t before i s p h in goes_wrong o (holds_part o.holds)
