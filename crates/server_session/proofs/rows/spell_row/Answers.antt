use Rattle.server_session.proofs.rows.spell_row.Goals as goal

pub returns-then-spell_short-clause-ok : goal.returns-then-spell_short-clause-ok
returns-then-spell_short-clause-ok c = c.spell_short.ensures c.if-spell_short.true
