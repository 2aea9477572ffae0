use Rattle.structures_encoder.proofs.Words.{◌≡◌, ◌+◌, ◌*◌, node_shape, unbound_shape, SpellsEach}
use Rattle.structures_encoder.proofs.Adding.{Left, Members, Pairs}
use Rattle.structures_encoder.proofs.+speller.Given as goal

abbrev pub decreases-spelling::put_cells : goal.decreases-spelling::put_cells
decreases-spelling::put_cells l = 4 * l.scope.room

abbrev pub decreases-spelling::put_entries : goal.decreases-spelling::put_entries
decreases-spelling::put_entries l = 4 * l.scope.room

abbrev pub decreases-graphs::put_node : goal.decreases-graphs::put_node
decreases-graphs::put_node l = 4 * l.scope.room

abbrev pub decreases-graphs::put_unbound : goal.decreases-graphs::put_unbound
decreases-graphs::put_unbound l = 4 * l.scope.room

abbrev pub decreases-graphs::put_relationship : goal.decreases-graphs::put_relationship
decreases-graphs::put_relationship l = 4 * l.scope.room

abbrev pub decreases-graphs::put_path : goal.decreases-graphs::put_path
decreases-graphs::put_path l = 4 * l.scope.room

abbrev pub decreases-graphs::put_structure : goal.decreases-graphs::put_structure
decreases-graphs::put_structure l = 4 * l.scope.room + 1

abbrev pub decreases-spelling::put_cell : goal.decreases-spelling::put_cell
decreases-spelling::put_cell l = 4 * l.scope.room + 2

abbrev pub decreases-spelling::put_member : goal.decreases-spelling::put_member
decreases-spelling::put_member l = 4 * l.scope.room + 3

abbrev pub invariant-spelling::put_cells-loop-member : goal.invariant-spelling::put_cells-loop-member
invariant-spelling::put_cells-loop-member l = (l.out.before ≡ l.fn.out.before) × Left (Members l.inner) l.members l.member-index l.initial.out l.out

abbrev pub invariant-spelling::put_entries-loop-pair : goal.invariant-spelling::put_entries-loop-pair
invariant-spelling::put_entries-loop-pair l = (l.out.before ≡ l.fn.out.before) × Left (Pairs l.inner) l.pairs l.pair-index l.initial.out l.out

abbrev pub invariant-graphs::put_path-loop-node : goal.invariant-graphs::put_path-loop-node
invariant-graphs::put_path-loop-node l = (l.out.before ≡ l.fn.out.before) × Left (SpellsEach l.among node_shape) l.node-items l.node-index l.initial.out l.out

abbrev pub invariant-graphs::put_path-loop-unbound : goal.invariant-graphs::put_path-loop-unbound
invariant-graphs::put_path-loop-unbound l = (l.out.before ≡ l.fn.out.before) × Left (SpellsEach l.between unbound_shape) l.unbound-items l.unbound-index l.initial.out l.out
