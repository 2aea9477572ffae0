use Rattle.messages.proofs.Words.{◌≡◌, drop, lookup, entries_seen}
use Rattle.messages.proofs.entries.entry.Given as goal

abbrev pub invariant-loop-pair : goal.invariant-loop-pair
invariant-loop-pair g l = lookup l.name (entries_seen g.T.Item.seen (drop l.pair-index l.pairs)) ≡ lookup l.name (entries_seen g.T.Item.seen l.pairs)
