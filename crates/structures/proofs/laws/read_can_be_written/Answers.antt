use Rattle.structures.proofs.Clauses.{read_writable}
use Rattle.structures.proofs.laws.read_can_be_written.Goals as goal

pub returns : goal.returns
returns c = read_writable
