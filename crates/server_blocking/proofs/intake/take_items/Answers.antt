use Rattle.std.proofs.Common.{◌++◌}
use Rattle.streams.proofs.Parts.{empty_nil}
use Rattle.server_blocking.proofs.Talks.{partly_begun, partly_broken, partly_more, partly_over, partly_whole}
use Rattle.server_blocking.proofs.intake.take_items.Goals as goal

pub loop-rest-init : goal.loop-rest-init
loop-rest-init g c = record { grows = λ r i h. h; takes = λ r before up i e s. partly_begun e s }

pub returns-in-Err-clause-takes : goal.returns-in-Err-clause-takes
returns-in-Err-clause-takes g c = λ r before up i e s.
    let p = c.loop-rest.invariant.takes r before up i e s in
    partly_broken p (c.in-Err.ensures.takes r before (up ++ p.done) i p.live p.stands)

pub returns-in-Over-clause-takes : goal.returns-in-Over-clause-takes
returns-in-Over-clause-takes g c = λ r before up i e s.
    let p = c.loop-rest.invariant.takes r before up i e s in
    partly_over p c.in-Ok.taken c.in-Over.is (c.in-Ok.ensures.takes r before (up ++ p.done) i p.live p.stands)

pub loop-rest-preserved : goal.loop-rest-preserved
loop-rest-preserved g c = record {
  grows = λ r i h. c.take_one.ensures.grows r i (c.loop-rest.invariant.grows r i h);
  takes = λ r before up i e s.
      let p = c.loop-rest.invariant.takes r before up i e s in
      partly_more p c.in-Ok.taken c.split_at.result.1.now c.split_at.ensures.back c.in-Open.is (c.in-Ok.ensures.takes r before (up ++ p.done) i p.live p.stands);
}

pub returns-clause-takes : goal.returns-clause-takes
returns-clause-takes g c = λ r before up i e s. partly_whole (empty_nil c.loop-rest.rest.now c.is_empty.result c.is_empty.ensures c.loop-rest-test.false) (c.loop-rest.invariant.takes r before up i e s)
