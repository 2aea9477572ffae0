use Rattle.messages.proofs.Words.{refused, how_many}
use Rattle.messages.proofs.Scanned.{named_extra}
use Rattle.messages.proofs.scan_entries.rows_in.Goals as goal

pub returns : goal.returns
returns g c = λ v. named_extra v refused how_many _ _ (g.S.Source.left c.args.source) c.in_ok-pairs.ensures (rw c.deref.ensures.value at c.in_ok-count_in.ensures)
