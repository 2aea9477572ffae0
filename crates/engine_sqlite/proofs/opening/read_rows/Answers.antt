use Rattle.engine_sqlite.specs.Shown.{entries_text}
use Rattle.engine_sqlite.proofs.Selecting.{rows_leave, select_plain}
use Rattle.sqlite.specs.Held.{state}
use Rattle.engine_sqlite.proofs.opening.read_rows.Goals as goal

pub returns-clause-left : goal.returns-clause-left
returns-clause-left g c has =
    rows_leave entries_text (state g.S.Store c.args.conn.now) (state g.S.Store c.query_all.new.self) has select_plain c.query_all.ensures.survives c.query_all.result c.query_all.ensures.ok c.query_all.ensures.err
