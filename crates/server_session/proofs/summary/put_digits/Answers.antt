use Rattle.std.proofs.Common.{arith}
use Rattle.std.proofs.lemmas.Result.{on_ok_weaker}
use Rattle.server_session.proofs.Summed.{marked}
use Rattle.server_session.proofs.summary.put_digits.Goals as goal

pub returns-clause-ok : goal.returns-clause-ok
returns-clause-ok c = on_ok_weaker c.extend_from_slice.result (λ e. marked c.args.digits.now c.args.out.now.more _ _ (omega arith) c.in_ok-push_and_extend.ensures.ok (rw c.as_bytes.ensures.value at e)) c.extend_from_slice.ensures.ok
