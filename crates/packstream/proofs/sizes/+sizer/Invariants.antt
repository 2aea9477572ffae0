use Rattle.std.proofs.Common.{◌≡◌, ◌+◌, ◌≤◌, length, drop, min}
use Rattle.packstream.proofs.Putting.{flat, flats}
use Rattle.packstream.proofs.sizes.+sizer.Given as goal

abbrev pub invariant-members_size-loop-member : goal.invariant-members_size-loop-member
invariant-members_size-loop-member l = (l.total ≤ 65537) × (min (l.total + length (flat (drop l.member-index l.members))) 65537 ≡ min (length (flat l.members)) 65537)

abbrev pub invariant-pairs_size-loop-pair : goal.invariant-pairs_size-loop-pair
invariant-pairs_size-loop-pair l = (l.total ≤ 65537) × (min (l.total + length (flats (drop l.pair-index l.pairs))) 65537 ≡ min (length (flats l.pairs)) 65537)
