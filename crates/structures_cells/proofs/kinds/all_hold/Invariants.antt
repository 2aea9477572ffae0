use Rattle.std.proofs.Common.{◌≡◌, drop}
use Rattle.packstream.specs.Prelude.{trees, trees_of}
use Rattle.structures_cells.specs.Prelude.{are_kinds}
use Rattle.structures_cells.proofs.kinds.all_hold.Given as goal

abbrev pub invariant-loop-i : goal.invariant-loop-i
invariant-loop-i l = are_kinds (drop l.i l.kinds) (trees_of (trees (drop l.i l.fields))) ≡ are_kinds l.kinds (trees_of (trees l.fields))
