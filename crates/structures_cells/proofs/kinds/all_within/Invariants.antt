use Rattle.std.proofs.Common.{◌≡◌, drop}
use Rattle.packstream.specs.Prelude.{trees, trees_of}
use Rattle.structures_cells.specs.Prelude.{are_in_range}
use Rattle.structures_cells.proofs.kinds.all_within.Given as goal

abbrev pub invariant-loop-i : goal.invariant-loop-i
invariant-loop-i l = are_in_range (drop l.i l.kinds) (trees_of (trees (drop l.i l.fields))) ≡ are_in_range l.kinds (trees_of (trees l.fields))
