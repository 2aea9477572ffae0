use Rattle.std.proofs.Common.{◌≡◌, List}
use Rattle.packstream.specs.Prelude.{Tree}
use Rattle.packstream_incremental.specs.Prelude.{Frame, AreLevels, ends}
use Rattle.packstream_incremental.proofs.open.Open.value_ends.Given as goal

abbrev pub invariant-loop-self : goal.invariant-loop-self
invariant-loop-self l =
    (l.self.is_whole ≡ l.initial.self.is_whole)
    × ((fs : List Frame) (t : Tree) → AreLevels fs l.initial.self.depth l.initial.self.around → (gs : List Frame) × (u : Tree) × AreLevels gs l.self.depth l.self.around × (ends gs u ≡ ends fs t))

abbrev pub decreases-loop-self : goal.decreases-loop-self
decreases-loop-self l = l.self.depth
