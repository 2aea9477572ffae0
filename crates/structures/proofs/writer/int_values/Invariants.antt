use Rattle.std.proofs.Common.{◌≡◌, take, map}
use Rattle.structures.proofs.Prelude.{int, trees}
use Rattle.structures.proofs.writer.int_values.Given as goal

abbrev pub invariant-loop-n : goal.invariant-loop-n
invariant-loop-n l = trees l.values.items ≡ map int (take l.n-index l.ints)
