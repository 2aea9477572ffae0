use Rattle.std.proofs.Common.{◌-◌, ◌≤◌, ◌<◌, length, take}
use Rattle.packstream_incremental.specs.Prelude.{AreTiny}
use Rattle.packstream_incremental.proofs.head.tiny_front.Given as goal

abbrev pub invariant-loop-count : goal.invariant-loop-count
invariant-loop-count l = (l.count ≤ length l.bytes) × (0 < l.count → l.count < l.most) × AreTiny (take l.count l.bytes)

abbrev pub decreases-loop-count : goal.decreases-loop-count
decreases-loop-count l = length l.bytes - l.count
