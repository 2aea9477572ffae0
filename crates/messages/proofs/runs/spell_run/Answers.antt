use Rattle.messages.proofs.Put.{request_put}
use Rattle.messages.proofs.runs.spell_run.Goals as goal

pub returns-in-Ok-clause-put : goal.returns-in-Ok-clause-put
returns-in-Ok-clause-put c = λ yes. request_put c.args.version c.args.request.now c.add_request.new.out.more _ c.in-Ok.ensures.adds (c.close_run.ensures.short yes) (c.close_run.ensures.closed yes)
