use Rattle.std.proofs.Common.{ap, sym, ◌∙◌}
use Rattle.cli_commands.specs.Saying.{is_replay}
use Rattle.cli_commands.proofs.Inputs.{reads_none}
use Rattle.cli_commands.proofs.commands.say.Goals as goal

pub returns-in-Ok-clause-says : goal.returns-in-Ok-clause-says
returns-in-Ok-clause-says g c = rw c.in-Ok.ensures c.say_command.ensures.says

pub returns-in-Ok-clause-input : goal.returns-in-Ok-clause-input
returns-in-Ok-clause-input g c = λ h. c.say_command.ensures.input (sym (ap is_replay c.in-Ok.ensures) ∙ h)

pub returns-in-Err-clause-says : goal.returns-in-Err-clause-says
returns-in-Err-clause-says g c = rw c.in-Err.ensures c.say_no_command.ensures.says

pub returns-in-Err-clause-read : goal.returns-in-Err-clause-read
returns-in-Err-clause-read g c = reads_none (g.S.Source.left c.args.input.now)
