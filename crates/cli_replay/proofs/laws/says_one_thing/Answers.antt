use Rattle.cli_replay.proofs.Alike.{one_said}
use Rattle.cli_replay.proofs.laws.says_one_thing.Goals as goal

pub returns : goal.returns
returns c = one_said
