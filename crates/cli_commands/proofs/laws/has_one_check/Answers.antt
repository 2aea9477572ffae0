use Rattle.cli_commands.proofs.Checkings.{one_check}
use Rattle.cli_commands.proofs.laws.has_one_check.Goals as goal

pub returns : goal.returns
returns c = one_check
