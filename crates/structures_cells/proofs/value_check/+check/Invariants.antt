use Rattle.std.proofs.Common.{◌≡◌, drop}
use Rattle.packstream.specs.Prelude.{trees, trees_of, entries, entries_of}
use Rattle.structures_cells.specs.Prelude.{fault, scan, structures_in, structures_under}
use Rattle.structures_cells.proofs.value_check.+check.Given as goal

abbrev pub invariant-check_members-loop-member : goal.invariant-check_members-loop-member
invariant-check_members-loop-member l = scan (fault l.version) l.number (structures_in (trees_of (trees (drop l.member-index l.member-items)))) ≡ scan (fault l.version) l.seen (structures_in (trees_of (trees l.member-items)))

abbrev pub invariant-check_pairs-loop-pair : goal.invariant-check_pairs-loop-pair
invariant-check_pairs-loop-pair l = scan (fault l.version) l.number (structures_under (entries_of (entries (drop l.pair-index l.pair-items)))) ≡ scan (fault l.version) l.seen (structures_under (entries_of (entries l.pair-items)))
