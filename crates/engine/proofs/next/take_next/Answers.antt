use Rattle.std.proofs.Common.{arith}
use Rattle.std.proofs.lemmas.Result.{on_ok_weaker}
use Rattle.engine.proofs.next.take_next.Goals as goal

pub returns-clause-ready : goal.returns-clause-ready
returns-clause-ready c =
    on_ok_weaker c.take_writes.result (λ taken. record { room = omega (arith, c.in_ok-reserve.ensures.ok); counted = omega arith; taken = taken }) c.take_writes.ensures.taken
