use Rattle.std.proofs.Common.{◌≡◌, take, map}
use Rattle.structures_cells.specs.Prelude.{shapes, entries, node_shape, unbound_shape}
use Rattle.structures_cells.proofs.clone.+copy.Given as goal

abbrev pub invariant-copy_members-loop-member : goal.invariant-copy_members-loop-member
invariant-copy_members-loop-member l = shapes l.copies.items ≡ shapes (take l.member-index l.member-items)

abbrev pub invariant-copy_pairs-loop-key : goal.invariant-copy_pairs-loop-key
invariant-copy_pairs-loop-key l = entries l.copies.items ≡ entries (take l.key-index l.key-items)

abbrev pub invariant-copy_nodes-loop-node : goal.invariant-copy_nodes-loop-node
invariant-copy_nodes-loop-node l = map node_shape l.copies.items ≡ map node_shape (take l.node-index l.node-items)

abbrev pub invariant-copy_unbounds-loop-unbound : goal.invariant-copy_unbounds-loop-unbound
invariant-copy_unbounds-loop-unbound l = map unbound_shape l.copies.items ≡ map unbound_shape (take l.unbound-index l.unbound-items)
