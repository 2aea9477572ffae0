use Rattle.cli_commands.proofs.Inputs.{reads_none}
use Rattle.cli_commands.proofs.commands.say_command.Goals as goal

pub returns-in-Answer-clause-read : goal.returns-in-Answer-clause-read
returns-in-Answer-clause-read g c = reads_none (g.S.Source.left c.args.input.now)

pub returns-in-Check-clause-read : goal.returns-in-Check-clause-read
returns-in-Check-clause-read g c = reads_none (g.S.Source.left c.args.input.now)

pub returns-in-Vectors-clause-read : goal.returns-in-Vectors-clause-read
returns-in-Vectors-clause-read g c = reads_none (g.S.Source.left c.args.input.now)

pub returns-in-Loop-clause-read : goal.returns-in-Loop-clause-read
returns-in-Loop-clause-read g c = reads_none (g.S.Source.left c.args.input.now)

pub returns-in-Serve-clause-read : goal.returns-in-Serve-clause-read
returns-in-Serve-clause-read g c = reads_none (g.S.Source.left c.args.input.now)

pub returns-in-Shell-clause-read : goal.returns-in-Shell-clause-read
returns-in-Shell-clause-read g c = reads_none (g.S.Source.left c.args.input.now)
