use Rattle.machine.proofs.Leading.{interrupted_row_follows}
use Rattle.machine.proofs.laws.interrupted_rows_follow.Goals as goal

pub returns : goal.returns
returns c = interrupted_row_follows
