use Rattle.std.proofs.Common.{◌≡◌, take, map}
use Rattle.structures.proofs.Prelude.{trees, seen_entries, shapes, entries, node_shape, unbound_shape, form, form_entry}
use Rattle.structures.proofs.writer.+write.Given as goal

abbrev pub invariant-values_of-loop-member : goal.invariant-values_of-loop-member
invariant-values_of-loop-member l = trees l.values.items ≡ map (form l.scope.version) (shapes (take l.member-index l.member-items))

abbrev pub invariant-pair_values-loop-key : goal.invariant-pair_values-loop-key
invariant-pair_values-loop-key l = seen_entries l.values.items ≡ map (form_entry l.scope.version) (entries (take l.key-index l.key-items))

abbrev pub invariant-node_values-loop-node : goal.invariant-node_values-loop-node
invariant-node_values-loop-node l = trees l.values.items ≡ map (form l.scope.version) (map node_shape (take l.node-index l.node-items))

abbrev pub invariant-unbound_values-loop-unbound : goal.invariant-unbound_values-loop-unbound
invariant-unbound_values-loop-unbound l = trees l.values.items ≡ map (form l.scope.version) (map unbound_shape (take l.unbound-index l.unbound-items))
