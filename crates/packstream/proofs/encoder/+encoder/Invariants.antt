use Rattle.packstream.proofs.Words.{◌≡◌, ◌+◌, ◌++◌, drop, length, trees, trees_of, entries, entries_of, AreSound, HaveSoundValues}
use Rattle.packstream.proofs.Putting.{flat, flats}
use Rattle.packstream.proofs.encoder.+encoder.Given as goal

abbrev pub invariant-put_members-loop-member : goal.invariant-put_members-loop-member
invariant-put_members-loop-member l = (l.out.before ≡ l.fn.out.before) × (l.out.more ++ flat (drop l.member-index l.members) ≡ l.fn.out.more ++ flat l.members) × (length l.out.more + length (flat (drop l.member-index l.members)) ≡ length l.fn.out.more + length (flat l.members)) × AreSound (trees_of (trees (drop l.member-index l.members)))

abbrev pub invariant-put_pairs-loop-pair : goal.invariant-put_pairs-loop-pair
invariant-put_pairs-loop-pair l = (l.out.before ≡ l.fn.out.before) × (l.out.more ++ flats (drop l.pair-index l.pairs) ≡ l.fn.out.more ++ flats l.pairs) × (length l.out.more + length (flats (drop l.pair-index l.pairs)) ≡ length l.fn.out.more + length (flats l.pairs)) × HaveSoundValues (entries_of (entries (drop l.pair-index l.pairs)))
