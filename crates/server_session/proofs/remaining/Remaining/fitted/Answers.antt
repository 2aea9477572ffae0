use Rattle.std.proofs.Common.{◌∙◌, ap, sym, List}
use Rattle.packstream.specs.Prelude.{Tree}
use Rattle.structures_cells.specs.Prelude.{shapes}
use Rattle.engine.specs.Prelude.{cells_in}
use Rattle.engine.specs.Views.{rows_in}
use Rattle.server_session.proofs.Listed.{rows_in_fitted}
use Rattle.server_session.proofs.remaining.Remaining.fitted.Goals as goal

pub returns-then-are_plain-clause-rows : goal.returns-then-are_plain-clause-rows
returns-then-are_plain-clause-rows c =
    let rows = c.args.rows in
    ap (λ (ts : List Tree). rows_in rows.width rows.count ts) (sym (c.are_plain.ensures c.if-are_plain.true c.args.version)) ∙ rows_in_fitted c.args.version rows.width rows.count (shapes (cells_in rows.cells))
