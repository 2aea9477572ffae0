use Rattle.engine.proofs.Once.{commits_once}
use Rattle.engine.proofs.laws.commits_once.Goals as goal

pub returns : goal.returns
returns c = commits_once
