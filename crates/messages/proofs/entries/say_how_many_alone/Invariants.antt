use Rattle.messages.proofs.Words.{◌≡◌, drop, how_many, all_named, entries_seen}
use Rattle.messages.proofs.entries.say_how_many_alone.Given as goal

abbrev pub invariant-loop-pair : goal.invariant-loop-pair
invariant-loop-pair g l = all_named how_many (entries_seen g.T.Item.seen l.pairs) ≡ all_named how_many (entries_seen g.T.Item.seen (drop l.pair-index l.pairs))
