use Rattle.machine.proofs.RowFacts.{valid}
use Rattle.machine.proofs.rows.invalid.Goals as goal

pub returns-in-Some : goal.returns-in-Some
returns-in-Some c = valid _ _ _ _ c.in-Some.ensures.success
