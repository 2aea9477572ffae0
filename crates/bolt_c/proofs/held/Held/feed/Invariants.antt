use Rattle.std.proofs.Common.{◌-◌, length}
use Rattle.bolt_c.specs.Feeding.{stand_of}
use Rattle.bolt_c.proofs.Feeding.{PartFed}
use Rattle.bolt_c.proofs.held.Held.feed.Given as goal

abbrev pub invariant-loop-used : goal.invariant-loop-used
invariant-loop-used l = PartFed (stand_of l.fn.self) (stand_of l.self) l.fn.piece l.used

abbrev pub decreases-loop-used : goal.decreases-loop-used
decreases-loop-used l = length l.fn.piece - l.used
