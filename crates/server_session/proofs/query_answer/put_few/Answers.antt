use Rattle.engine.specs.Views.{names_view}
use Rattle.server_session.proofs.Fielded.{fields_run}
use Rattle.server_session.proofs.query_answer.put_few.Goals as goal

pub returns-in-Ok-clause-put : goal.returns-in-Ok-clause-put
returns-in-Ok-clause-put c = λ yes v. fields_run v (names_view c.args.fields.now) c.add_fields.new.out.more c.close_run.new.out.more c.in-Ok.ensures.texts (rw c.set_mark.ensures.more at c.in-Ok.ensures.spelled) (c.close_run.ensures.short yes) (c.close_run.ensures.closed yes)
