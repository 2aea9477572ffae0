use Rattle.std.proofs.Common.{◌≡◌, take, map}
use Rattle.structures.proofs.Prelude.{shapes, entries, node_shape, unbound_shape, fitted, fitted_entry}
use Rattle.structures.proofs.form.+fitting.Given as goal

abbrev pub invariant-fit_members-loop-i : goal.invariant-fit_members-loop-i
invariant-fit_members-loop-i l = record { unvisited : goal.unvisited-fit_members-loop-i l; visited : shapes (take l.i l.members.items) ≡ map (fitted l.scope.version) (shapes (take l.i l.initial.members.items)) }

abbrev pub invariant-fit_pairs-loop-i : goal.invariant-fit_pairs-loop-i
invariant-fit_pairs-loop-i l = record { unvisited : goal.unvisited-fit_pairs-loop-i l; visited : entries (take l.i l.pairs.items) ≡ map (fitted_entry l.scope.version) (entries (take l.i l.initial.pairs.items)) }

abbrev pub invariant-fit_nodes-loop-i : goal.invariant-fit_nodes-loop-i
invariant-fit_nodes-loop-i l = record { unvisited : goal.unvisited-fit_nodes-loop-i l; visited : map node_shape (take l.i l.nodes.items) ≡ map (fitted l.scope.version) (map node_shape (take l.i l.initial.nodes.items)) }

abbrev pub invariant-fit_unbounds-loop-i : goal.invariant-fit_unbounds-loop-i
invariant-fit_unbounds-loop-i l = record { unvisited : goal.unvisited-fit_unbounds-loop-i l; visited : map unbound_shape (take l.i l.unbounds.items) ≡ map (fitted l.scope.version) (map unbound_shape (take l.i l.initial.unbounds.items)) }
