use Rattle.std.proofs.Common.{◌≡◌, drop, map}
use Rattle.packstream.specs.Prelude.{trees_of, entries_of}
use Rattle.structures_cells.specs.Prelude.{scan, structures_in, structures_under, shapes, entries, node_shape, unbound_shape, fault_of_structure}
use Rattle.structures_cells.proofs.cell_check.+judge.Given as goal

abbrev pub invariant-check_cells-loop-member : goal.invariant-check_cells-loop-member
invariant-check_cells-loop-member l = scan (fault_of_structure l.version) l.number (structures_in (trees_of (shapes (drop l.member-index l.member-items)))) ≡ scan (fault_of_structure l.version) l.seen (structures_in (trees_of (shapes l.member-items)))

abbrev pub invariant-check_entries-loop-pair : goal.invariant-check_entries-loop-pair
invariant-check_entries-loop-pair l = scan (fault_of_structure l.version) l.number (structures_under (entries_of (entries (drop l.pair-index l.pair-items)))) ≡ scan (fault_of_structure l.version) l.seen (structures_under (entries_of (entries l.pair-items)))

abbrev pub invariant-check_nodes-loop-node : goal.invariant-check_nodes-loop-node
invariant-check_nodes-loop-node l = scan (fault_of_structure l.version) l.number (structures_in (trees_of (map node_shape (drop l.node-index l.node-items)))) ≡ scan (fault_of_structure l.version) l.seen (structures_in (trees_of (map node_shape l.node-items)))

abbrev pub invariant-check_unbounds-loop-unbound : goal.invariant-check_unbounds-loop-unbound
invariant-check_unbounds-loop-unbound l = scan (fault_of_structure l.version) l.number (structures_in (trees_of (map unbound_shape (drop l.unbound-index l.unbound-items)))) ≡ scan (fault_of_structure l.version) l.seen (structures_in (trees_of (map unbound_shape l.unbound-items)))
