use Rattle.std.proofs.Common.{◌≡◌}
use Rattle.structures_cells.specs.Prelude.{shapes}
use Rattle.engine.specs.Prelude.{numbers}
use Rattle.engine.proofs.answers.number_cells.Given as goal

abbrev pub invariant-loop-i : goal.invariant-loop-i
invariant-loop-i l = shapes l.cells.items ≡ numbers l.i
