use Rattle.std.proofs.Common.{◌-◌, length}
use Rattle.packstream_incremental.proofs.Treeing.{Searched}
use Rattle.packstream_incremental.proofs.texts.find.Given as goal

abbrev pub invariant-loop-at : goal.invariant-loop-at
invariant-loop-at l = Searched l.keys l.bytes l.first l.text l.above l.at

abbrev pub decreases-loop-at : goal.decreases-loop-at
decreases-loop-at l = length l.keys - l.at
