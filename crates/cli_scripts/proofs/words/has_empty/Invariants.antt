use Rattle.std.proofs.Common.{◌≡◌, drop, map}
use Rattle.std.specs.List.{list_any}
use Rattle.cli_scripts.specs.Prelude.{is_empty}
use Rattle.cli_scripts.proofs.words.has_empty.Given as goal

-- no word before it is empty
abbrev pub invariant-loop-word : goal.invariant-loop-word
invariant-loop-word l = list_any is_empty (map (λ w. w.now) l.words) ≡ list_any is_empty (map (λ w. w.now) (drop l.word-index l.words))
