use Rattle.machine.proofs.Leading.{row_follows}
use Rattle.machine.proofs.laws.rows_follow.Goals as goal

pub returns : goal.returns
returns c = row_follows
