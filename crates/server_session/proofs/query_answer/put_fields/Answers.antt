use Rattle.server_session.proofs.query_answer.put_fields.Goals as goal

pub returns-then-put_few-clause-ok : goal.returns-then-put_few-clause-ok
returns-then-put_few-clause-ok c = c.put_few.ensures.put c.if-put_few.true c.args.version
