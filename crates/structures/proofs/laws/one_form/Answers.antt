use Rattle.structures.proofs.Clauses.{same_form}
use Rattle.structures.proofs.laws.one_form.Goals as goal

pub returns : goal.returns
returns c = same_form
