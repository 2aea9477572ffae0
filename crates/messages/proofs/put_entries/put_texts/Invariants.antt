use Rattle.messages.proofs.Words.{◌≡◌, ◌++◌, drop, map, named_text, canon_entries, entries_of}
use Rattle.messages.proofs.put_entries.put_texts.Given as goal

abbrev pub invariant-loop-name : goal.invariant-loop-name
invariant-loop-name l = (l.out.before ≡ l.fn.out.before) × (l.out.more ++ canon_entries (entries_of (map named_text (drop l.name-index l.named))) ≡ l.initial.out.more ++ canon_entries (entries_of (map named_text l.named)))
