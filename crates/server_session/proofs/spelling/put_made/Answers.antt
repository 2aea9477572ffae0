use Rattle.std.proofs.Common.{ap, drop, ◌∙◌}
use Rattle.std.proofs.lemmas.Result.{on_ok_weaker}
use Rattle.wire.specs.Prelude.{written_run}
use Rattle.server_session.specs.Prelude.{summary_of}
use Rattle.server_session.proofs.Summed.{summary_run}
use Rattle.server_session.proofs.spelling.put_made.Goals as goal

pub returns-in-Ok-clause-ok : goal.returns-in-Ok-clause-ok
returns-in-Ok-clause-ok c = on_ok_weaker c.closed.result (λ e. summary_run c.args.version (summary_of c.args.summary) c.closed.new.out.more c.put.ensures.short (e ∙ ap (λ x. written_run (drop 2 x)) c.in-Ok.ensures.spelled)) c.closed.ensures.ok
