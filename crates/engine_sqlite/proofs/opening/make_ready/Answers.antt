use Rattle.std.proofs.Common.{◌≡◌, false, rules}
use Rattle.engine_sqlite.specs.Table.{ledger_schema, no_schema}
use Rattle.engine_sqlite.proofs.Opened.{made_ready, was_ready}
use Rattle.engine_sqlite.proofs.opening.make_ready.Goals as goal

pub returns-then-has_ledger-clause-ready : goal.returns-then-has_ledger-clause-ready
returns-then-has_ledger-clause-ready g c clean =
    let has : c.args.conn.now.schema ≡ ledger_schema = search rules in
    was_ready g.S.Store c.args.conn.now c.schema.ensures.live (c.is_autocommit.ensures.settled (search rules)) has

pub returns-clause-ready : goal.returns-clause-ready
returns-clause-ready g c clean =
    let idle : c.args.conn.now.in_transaction ≡ false = search rules in
    let has : c.args.conn.now.schema ≡ no_schema = search rules in
    made_ready g.S.Store c.args.conn.now c.schema.ensures.live (c.is_autocommit.ensures.settled (search rules)) c.execute.new.self c.in_ok-execute.field-0 has idle (c.in_ok-execute.ensures.runs clean)
