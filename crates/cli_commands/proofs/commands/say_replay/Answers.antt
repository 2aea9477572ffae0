use Rattle.std.proofs.Common.{refl, ap}
use Rattle.cli_commands.proofs.commands.say_replay.Goals as goal

pub returns-clause-says : goal.returns-clause-says
returns-clause-says g c = (c.in_ok-said.said, c.in_ok-said.ensures.says, record { output = refl; errors = ap (λ v. v.items) c.into_bytes.ensures.value; ends = refl })
