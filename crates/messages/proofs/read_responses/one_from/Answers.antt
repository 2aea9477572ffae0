use Rattle.messages.proofs.Words.{response_view}
use Rattle.messages.proofs.Scanned.{failure_means}
use Rattle.messages.proofs.read_responses.one_from.Goals as goal

pub returns-in_ok-failure_of-in-127 : goal.returns-in_ok-failure_of-in-127
returns-in_ok-failure_of-in-127 g c =
    rw c.in-127.is (failure_means c.args.version (response_view c.in_ok-failure_of-in-127.field-0) _ (g.S.Source.left c.args.source) c.in_ok-pairs-in-127.ensures (rw c.deref.ensures.value at c.in_ok-failure_of-in-127.ensures))
