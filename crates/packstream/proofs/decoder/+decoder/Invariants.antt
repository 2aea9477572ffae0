use Rattle.packstream.proofs.Words.{◌≡◌, ◌-◌, ◌*◌, ◌+◌, [], trees, entries, layer, inner, items_at, entries_at, names, Knows}
use Rattle.packstream.proofs.decoder.+decoder.Given as goal

abbrev pub decreases-value_of : goal.decreases-value_of
decreases-value_of l = 3 * l.room + 1

abbrev pub decreases-list_of : goal.decreases-list_of
decreases-list_of l = 3 * l.room

abbrev pub decreases-dict_of : goal.decreases-dict_of
decreases-dict_of l = 3 * l.room

abbrev pub decreases-struct_of : goal.decreases-struct_of
decreases-struct_of l = 3 * l.room

abbrev pub decreases-members_of : goal.decreases-members_of
decreases-members_of l = 3 * l.room + 2

abbrev pub decreases-many_pairs_of : goal.decreases-many_pairs_of
decreases-many_pairs_of l = 3 * l.room + 2

abbrev pub decreases-pairs_of : goal.decreases-pairs_of
decreases-pairs_of l = 3 * l.room + 2

abbrev pub invariant-members_of-loop-i : goal.invariant-members_of-loop-i
invariant-members_of-loop-i l = items_at (layer (inner l.room)) (l.count - l.i) (trees l.members.items) l.rest ≡ items_at (layer (inner l.room)) l.count [] l.bytes

abbrev pub invariant-pairs_of-loop : goal.invariant-pairs_of-loop
invariant-pairs_of-loop l = entries_at (layer (inner l.room)) (l.count - l.counter) (entries l.pairs.items) l.rest ≡ entries_at (layer (inner l.room)) l.count [] l.bytes

abbrev pub invariant-many_pairs_of-loop : goal.invariant-many_pairs_of-loop
invariant-many_pairs_of-loop l = (entries_at (layer (inner l.room)) (l.count - l.counter) (entries l.pairs.items) l.rest ≡ entries_at (layer (inner l.room)) l.count [] l.bytes) × Knows l.seen (names l.pairs.items)
