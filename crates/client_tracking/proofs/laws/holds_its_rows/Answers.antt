use Rattle.client_tracking.proofs.HeldRows.{holds_its_rows}
use Rattle.client_tracking.proofs.laws.holds_its_rows.Goals as goal

pub returns : goal.returns
returns c = holds_its_rows
