use Rattle.engine.proofs.Once.{answers_by_token}
use Rattle.engine.proofs.laws.answers_by_token.Goals as goal

pub returns : goal.returns
returns c = answers_by_token
