use Rattle.std.proofs.Common.{◌<◌, ◌+◌, ◌^◌, arith, rules, to_z, w64}
use Rattle.structures_cells.specs.declared.cell.Cell.{Int}
use Rattle.engine.proofs.Reading.{cells_more, shape-number}
use Rattle.engine.proofs.answers.number_cells.Goals as goal

pub loop-i-preserved : goal.loop-i-preserved
loop-i-preserved c =
    let small : c.loop-i.i + 1 < 2 ^ 63 = omega arith in
    cells_more c.loop-i.i c.loop-i.cells.items c.push.new.self.items (Int (to_z w64 (c.loop-i.i + 1))) c.loop-i.invariant (shape-number (c.loop-i.i + 1) small) (search rules)
