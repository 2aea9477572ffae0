use Rattle.std.proofs.Common.{◌-◌, arith}
use Rattle.structures_cells.specs.Prelude.{shapes}
use Rattle.engine.specs.Prelude.{cells_in}
use Rattle.server_session.proofs.Listed.{rows_behind}
use Rattle.server_session.proofs.remaining.Remaining.pass.Goals as goal

pub returns-then-self-gt0-clause-rows : goal.returns-then-self-gt0-clause-rows
returns-then-self-gt0-clause-rows c =
    let s = c.args.self.now in
    rows_behind (shapes (cells_in s.cells)) s.start s.width s.count (s.count - 1) (omega (arith, c.if-self-gt0.true))
