use Rattle.std.proofs.Common.{sym, ◌∙◌}
use Rattle.cli_commands.proofs.laws.has_one_answer.Goals as goal

pub returns : goal.returns
returns c = λ b o p l m g h. (g.0 ∙ sym h.0, g.1 ∙ sym h.1)
