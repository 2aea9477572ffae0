use Rattle.std.proofs.Common.{◌≡◌, drop}
use Rattle.structures_cells.specs.Prelude.{numbers_in_range}
use Rattle.structures_cells.proofs.cell_check.are_within.Given as goal

abbrev pub invariant-loop-i : goal.invariant-loop-i
invariant-loop-i l = numbers_in_range (drop l.i l.numbers) (drop l.i l.kinds) ≡ numbers_in_range l.numbers l.kinds
