use Rattle.std.proofs.Common.{◌≡◌, take, map, flat_map}
use Rattle.cli_commands.specs.Refusals.{guess}
use Rattle.cli_commands.proofs.refusal.guesses_of.Given as goal

-- the guesses of the names before it
abbrev pub invariant-loop-name : goal.invariant-loop-name
invariant-loop-name l = l.text.items ≡ flat_map (guess l.word) (map (λ n. n.now) (take l.name-index l.names))
