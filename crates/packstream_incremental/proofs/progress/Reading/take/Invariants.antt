use Rattle.std.proofs.Common.{◌++◌, length}
use Rattle.packstream_incremental.specs.Prelude.{holds, HasTaken, HasGrown}
use Rattle.packstream_incremental.proofs.progress.Reading.take.Given as goal

abbrev pub invariant-loop-first : goal.invariant-loop-first
invariant-loop-first l = HasTaken ((holds l.initial.self).store ++ l.initial.rest) (holds l.self) l.rest × HasGrown (holds l.initial.self) (holds l.self)

abbrev pub decreases-loop-first : goal.decreases-loop-first
decreases-loop-first l = length l.rest
