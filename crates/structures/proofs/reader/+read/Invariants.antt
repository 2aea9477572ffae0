use Rattle.std.proofs.Common.{◌≡◌, take, map}
use Rattle.structures.proofs.Prelude.{trees, seen_entries, shapes, entries, node_shape, unbound_shape, node_tag, unbound_tag, has_tag, typed, typed_entry}
use Rattle.structures.proofs.Got.{ReadTo}
use Rattle.structures.proofs.reader.+read.Given as goal

abbrev pub invariant-cells_of-loop-member : goal.invariant-cells_of-loop-member
invariant-cells_of-loop-member l = shapes l.cells.items ≡ map typed (trees (take l.member-index l.member-items))

abbrev pub invariant-pairs_of-loop-key : goal.invariant-pairs_of-loop-key
invariant-pairs_of-loop-key l = entries l.cells.items ≡ map typed_entry (seen_entries (take l.key-index l.key-items))

abbrev pub invariant-nodes_of-loop-member : goal.invariant-nodes_of-loop-member
invariant-nodes_of-loop-member l = ReadTo (has_tag node_tag) node_shape l.member-items l.member-index l.nodes.items

abbrev pub invariant-unbounds_of-loop-member : goal.invariant-unbounds_of-loop-member
invariant-unbounds_of-loop-member l = ReadTo (has_tag unbound_tag) unbound_shape l.member-items l.member-index l.relationships.items
