use Rattle.std.proofs.Common.{◌≡◌, Bool, List, length, string_bytes}
use Rattle.std.specs.List.{list_all}
use Rattle.cli_commands.specs.Saying.{vector_lines}
use Rattle.cli_commands.proofs.commands.say_vectors.Given as goal

-- so many have their lines
abbrev pub invariant-loop-at : goal.invariant-loop-at
invariant-loop-at l = (passed : List Bool) × (length passed ≡ l.at) × (string_bytes l.out ≡ vector_lines 1 passed) × (l.all_pass ≡ list_all (λ (b : Bool). b) passed)
