use Rattle.structures.proofs.Formed.{form_of}
use Rattle.structures.proofs.laws.written_is_read_back.Goals as goal

pub returns-clause-form : goal.returns-clause-form
returns-clause-form c = form_of
