use Rattle.std.proofs.Common.{◌≡◌, drop}
use Rattle.structures_cells.specs.Prelude.{shape, entry, node_shape, unbound_shape}
use Rattle.structures_cells.proofs.Walking.{SameMembers, SamePairs}
use Rattle.structures_cells.proofs.comparison.+same_cell.Given as goal

abbrev pub invariant-same_members-loop-i : goal.invariant-same_members-loop-i
invariant-same_members-loop-i l = SameMembers shape (drop l.i l.member-items) (drop l.i l.others.items) ≡ SameMembers shape l.member-items l.others.items

abbrev pub invariant-same_pairs-loop-i : goal.invariant-same_pairs-loop-i
invariant-same_pairs-loop-i l = SamePairs entry (drop l.i l.pair-items) (drop l.i l.others.items) ≡ SamePairs entry l.pair-items l.others.items

abbrev pub invariant-same_nodes-loop-i : goal.invariant-same_nodes-loop-i
invariant-same_nodes-loop-i l = SameMembers node_shape (drop l.i l.node-items) (drop l.i l.others.items) ≡ SameMembers node_shape l.node-items l.others.items

abbrev pub invariant-same_unbounds-loop-i : goal.invariant-same_unbounds-loop-i
invariant-same_unbounds-loop-i l = SameMembers unbound_shape (drop l.i l.unbound-items) (drop l.i l.others.items) ≡ SameMembers unbound_shape l.unbound-items l.others.items
