use Rattle.messages.proofs.Words.{ignored, of_transaction}
use Rattle.messages.proofs.Scanned.{named_extra}
use Rattle.messages.proofs.scan_entries.transaction_in.Goals as goal

pub returns : goal.returns
returns g c = λ v. named_extra v ignored of_transaction _ _ (g.S.Source.left c.args.source) c.in_ok-pairs.ensures (rw c.deref.ensures.value at c.in_ok-transaction_of.ensures)
