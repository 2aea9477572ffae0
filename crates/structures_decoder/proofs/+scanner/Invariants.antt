use Rattle.structures_decoder.proofs.Words.{◌*◌, ◌+◌, ◌-◌, map, names, shapes, entries, node_shape, unbound_shape}
use Rattle.structures_decoder.proofs.Laid.{ReadSoFar}
use Rattle.structures_decoder.proofs.Members.{MembersSoFar, EntriesSoFar}
use Rattle.structures_decoder.proofs.Twins.{NewNames}
use Rattle.structures_decoder.proofs.+scanner.Given as goal

abbrev pub decreases-scan::list_of : goal.decreases-scan::list_of
decreases-scan::list_of g l = 6 * l.room + 1

abbrev pub decreases-dictionaries::dict_of : goal.decreases-dictionaries::dict_of
decreases-dictionaries::dict_of g l = 6 * l.room + 1

abbrev pub decreases-scan::structure_of : goal.decreases-scan::structure_of
decreases-scan::structure_of g l = 6 * l.room + 1

abbrev pub decreases-scan::cell_in : goal.decreases-scan::cell_in
decreases-scan::cell_in g l = 6 * l.room + 2

abbrev pub decreases-dictionaries::dict_in : goal.decreases-dictionaries::dict_in
decreases-dictionaries::dict_in g l = 6 * l.room + 2

abbrev pub decreases-scan::push_other : goal.decreases-scan::push_other
decreases-scan::push_other g l = 6 * l.room + 3

abbrev pub decreases-dictionaries::push_named : goal.decreases-dictionaries::push_named
decreases-dictionaries::push_named g l = 6 * l.room + 3

abbrev pub decreases-graphs::node_of : goal.decreases-graphs::node_of
decreases-graphs::node_of g l = 6 * l.room + 3

abbrev pub decreases-graphs::relationship_of : goal.decreases-graphs::relationship_of
decreases-graphs::relationship_of g l = 6 * l.room + 3

abbrev pub decreases-graphs::unbound_of : goal.decreases-graphs::unbound_of
decreases-graphs::unbound_of g l = 6 * l.room + 3

abbrev pub decreases-graphs::path_of : goal.decreases-graphs::path_of
decreases-graphs::path_of g l = 6 * l.room + 3

abbrev pub decreases-scan::push_member : goal.decreases-scan::push_member
decreases-scan::push_member g l = 6 * l.room + 4

abbrev pub decreases-dictionaries::push_value : goal.decreases-dictionaries::push_value
decreases-dictionaries::push_value g l = 6 * l.room + 4

abbrev pub decreases-graphs::made_of : goal.decreases-graphs::made_of
decreases-graphs::made_of g l = 6 * l.room + 4

abbrev pub decreases-dictionaries::pairs_of : goal.decreases-dictionaries::pairs_of
decreases-dictionaries::pairs_of g l = 6 * l.room + 6

abbrev pub decreases-dictionaries::many_pairs_of : goal.decreases-dictionaries::many_pairs_of
decreases-dictionaries::many_pairs_of g l = 6 * l.room + 6

abbrev pub decreases-graphs::nodes_in : goal.decreases-graphs::nodes_in
decreases-graphs::nodes_in g l = 6 * l.room + 1

abbrev pub decreases-graphs::unbounds_in : goal.decreases-graphs::unbounds_in
decreases-graphs::unbounds_in g l = 6 * l.room + 1

abbrev pub invariant-scan::list_of-loop : goal.invariant-scan::list_of-loop
invariant-scan::list_of-loop g l = MembersSoFar l.scope (l.room - 1) l.count l.counter (shapes l.members.items) (g.S.Source.left l.rest) (g.S.Source.left l.fn.source)

abbrev pub invariant-dictionaries::pairs_of-loop : goal.invariant-dictionaries::pairs_of-loop
invariant-dictionaries::pairs_of-loop g l = EntriesSoFar l.scope l.room l.count l.counter (entries l.pairs.items) (g.S.Source.left l.rest) (g.S.Source.left l.fn.source)

abbrev pub invariant-dictionaries::many_pairs_of-loop : goal.invariant-dictionaries::many_pairs_of-loop
invariant-dictionaries::many_pairs_of-loop g l = NewNames (names l.pairs.items) → EntriesSoFar l.scope l.room l.count l.counter (entries l.pairs.items) (g.S.Source.left l.rest) (g.S.Source.left l.fn.source)

abbrev pub invariant-graphs::nodes_in-loop : goal.invariant-graphs::nodes_in-loop
invariant-graphs::nodes_in-loop g l = ReadSoFar l.scope.version (l.room - 1) l.count l.counter (map node_shape l.nodes.items) (g.S.Source.left l.rest) (g.S.Source.left l.initial.rest)

abbrev pub invariant-graphs::unbounds_in-loop : goal.invariant-graphs::unbounds_in-loop
invariant-graphs::unbounds_in-loop g l = ReadSoFar l.scope.version (l.room - 1) l.count l.counter (map unbound_shape l.unbounds.items) (g.S.Source.left l.rest) (g.S.Source.left l.initial.rest)
