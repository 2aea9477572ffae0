use Rattle.std.proofs.Common.{length}
use Rattle.driver.specs.Prelude.{stand_of}
use Rattle.driver.proofs.Reading.{PartHeard}
use Rattle.driver.proofs.exchanging.feed_piece.Given as goal

abbrev pub invariant-loop-rest : goal.invariant-loop-rest
invariant-loop-rest l = PartHeard (stand_of l.fn.tracking) (stand_of l.tracking) l.fn.piece l.rest

abbrev pub decreases-loop-rest : goal.decreases-loop-rest
decreases-loop-rest l = length l.rest
