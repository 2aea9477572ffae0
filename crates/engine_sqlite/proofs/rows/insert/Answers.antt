use Rattle.engine_sqlite.proofs.Texts.{keeps, puts, shows}
use Rattle.engine.specs.Views.{token_view}
use Rattle.engine_sqlite.specs.Table.{add_text}
use Rattle.sqlite.specs.Held.{state}
use Rattle.engine_sqlite.proofs.rows.insert.Goals as goal

pub returns-clause-puts : goal.returns-clause-puts
returns-clause-puts g c clean has =
    let key = c.args.key in
    puts (state g.S.Store c.args.tx.now.conn.now) (state g.S.Store c.execute.new.self.conn.now) key.number key.opening key.connection key.ordinal (token_view c.args.token.now) c.args.bytes.now c.execute.result has
    (rw c.values-values.ensures at (c.execute.ensures.runs clean c.requires))

pub returns-clause-shown : goal.returns-clause-shown
returns-clause-shown g c clean =
    shows add_text _ (state g.S.Store c.args.tx.now.conn.now) (state g.S.Store c.execute.new.self.conn.now) c.execute.result (c.execute.ensures.runs clean c.requires)

pub returns-clause-kept : goal.returns-clause-kept
returns-clause-kept g c clean =
    keeps add_text _ (state g.S.Store c.args.tx.now.conn.now) (state g.S.Store c.execute.new.self.conn.now) c.execute.result (c.execute.ensures.runs clean c.requires)
