use Rattle.client_tracking.proofs.FewRows.{keeps_few_rows}
use Rattle.client_tracking.proofs.laws.keeps_few_rows.Goals as goal

pub returns : goal.returns
returns c = keeps_few_rows
