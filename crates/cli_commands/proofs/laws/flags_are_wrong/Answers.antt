use Rattle.cli_commands.proofs.Flags.{flags_wrong}
use Rattle.cli_commands.proofs.laws.flags_are_wrong.Goals as goal

pub returns : goal.returns
returns c = flags_wrong
