use Rattle.engine_sqlite.specs.Shown.{opening_text}
use Rattle.engine_sqlite.proofs.Selecting.{opening_plain, row_leaves}
use Rattle.sqlite.specs.Held.{state}
use Rattle.engine_sqlite.proofs.opening.read_opening.Goals as goal

pub returns-clause-left : goal.returns-clause-left
returns-clause-left g c has =
    row_leaves opening_text (state g.S.Store c.args.conn.now) (state g.S.Store c.query_row.new.self) has opening_plain c.query_row.ensures.survives c.query_row.result c.query_row.ensures.row
