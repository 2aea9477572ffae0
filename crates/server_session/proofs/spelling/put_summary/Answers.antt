use Rattle.std.proofs.Common.{ap, ◌∙◌, ◌++◌}
use Rattle.std.proofs.lemmas.Result.{on_ok_weaker}
use Rattle.server_session.specs.Prelude.{summary_of}
use Rattle.server_session.proofs.Summed.{summary_run}
use Rattle.server_session.proofs.spelling.put_summary.Goals as goal

pub returns-in-Some-clause-ok : goal.returns-in-Some-clause-ok
returns-in-Some-clause-ok c = on_ok_weaker c.extend_from_slice.result (λ e. summary_run c.args.version (summary_of c.args.summary) c.extend_from_slice.new.self.more c.in-Some.ensures.short (e ∙ ap (λ x. x ++ c.in-Some.bytes.now) c.set_mark.ensures.more ∙ c.in-Some.ensures.run)) c.extend_from_slice.ensures.ok
