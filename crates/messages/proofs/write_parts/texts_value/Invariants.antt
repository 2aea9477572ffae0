use Rattle.messages.proofs.Words.{◌≡◌, ◌++◌, drop, map, named_text, value_entries}
use Rattle.messages.proofs.write_parts.texts_value.Given as goal

abbrev pub invariant-loop-name : goal.invariant-loop-name
invariant-loop-name l = value_entries l.pairs.items ++ map named_text (drop l.name-index l.named) ≡ map named_text l.named
