use Rattle.cli_commands.proofs.refusal.guesses.Goals as goal

pub returns-in-Command : goal.returns-in-Command
returns-in-Command c = rw (c.in-Command.is) c.guesses_of.ensures
