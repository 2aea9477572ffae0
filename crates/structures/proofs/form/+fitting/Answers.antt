use Rattle.std.proofs.Common.{◌≡◌, to_z, of_z, w64, rules, refl}
use Rattle.std.proofs.lemmas.Result.{IfOk-weaker}
use Rattle.structures.proofs.Prelude.{the_lemmas, NodeCase, RelationshipCase, UnboundCase, PathCase, node_shape, relationship_shape, unbound_shape, path_shape}
use Rattle.structures.proofs.Fitted.{fit_boxed, fit_node_is, fit_unbound_is, fit_relationship_is, fit_path_in_turn}
use Rattle.structures.proofs.form.+fitting.Goals as goal

pub fit_cell-returns-in_ok-fit_node-in-Node : goal.fit_cell-returns-in_ok-fit_node-in-Node
fit_cell-returns-in_ok-fit_node-in-Node t c =
    search (rules, the_lemmas, fit_boxed NodeCase node_shape (λ b. search (rules, the_lemmas)) c.args.scope.version (record c.in-Node.node { value = c.fit_node.new.node }) c.in-Node.node c.deref_mut.result.now (search (rules, the_lemmas)) c.in_ok-fit_node-in-Node.ensures)

pub fit_cell-returns-in_ok-fit_relationship-in-Relationship : goal.fit_cell-returns-in_ok-fit_relationship-in-Relationship
fit_cell-returns-in_ok-fit_relationship-in-Relationship t c =
    search (rules, the_lemmas, fit_boxed RelationshipCase relationship_shape (λ b. search (rules, the_lemmas)) c.args.scope.version (record c.in-Relationship.relationship { value = c.fit_relationship.new.relationship }) c.in-Relationship.relationship c.deref_mut-in-Relationship.result.now (search (rules, the_lemmas)) c.in_ok-fit_relationship-in-Relationship.ensures)

pub fit_cell-returns-in_ok-fit_unbound-in-UnboundRelationship : goal.fit_cell-returns-in_ok-fit_unbound-in-UnboundRelationship
fit_cell-returns-in_ok-fit_unbound-in-UnboundRelationship t c =
    search (rules, the_lemmas, fit_boxed UnboundCase unbound_shape (λ b. search (rules, the_lemmas)) c.args.scope.version (record c.in-UnboundRelationship.unbound { value = c.fit_unbound.new.unbound }) c.in-UnboundRelationship.unbound c.deref_mut-in-UnboundRelationship.result.now (search (rules, the_lemmas)) c.in_ok-fit_unbound-in-UnboundRelationship.ensures)

pub fit_cell-returns-in_ok-fit_path-in-Path : goal.fit_cell-returns-in_ok-fit_path-in-Path
fit_cell-returns-in_ok-fit_path-in-Path t c =
    search (rules, the_lemmas, fit_boxed PathCase path_shape (λ b. search (rules, the_lemmas)) c.args.scope.version (record c.in-Path.path { value = c.fit_path.new.path }) c.in-Path.path c.deref_mut-in-Path.result.now (search (rules, the_lemmas)) c.in_ok-fit_path-in-Path.ensures)

pub fit_path-returns : goal.fit_path-returns
fit_path-returns t c =
    IfOk-weaker c.fit_unbounds.result _ _ (λ x h. fit_path_in_turn c.args.scope.version c.args.path.now c.fit_nodes.new.nodes c.fit_unbounds.new.unbounds c.in_ok-fit_nodes.ensures h) c.fit_unbounds.ensures

pub fit_node-returns : goal.fit_node-returns
fit_node-returns t c =
    let z : to_z w64 (of_z w64 c.args.node.now.id) ≡ c.args.node.now.id = search rules in
    IfOk-weaker c.fit_element.result _ _ (λ x h. fit_node_is c.args.scope.version _ c.args.node.now refl refl c.in_ok-fit_pairs.ensures (rw z at h)) c.fit_element.ensures

pub fit_unbound-returns : goal.fit_unbound-returns
fit_unbound-returns t c =
    let z : to_z w64 (of_z w64 c.args.unbound.now.id) ≡ c.args.unbound.now.id = search rules in
    IfOk-weaker c.fit_element.result _ _ (λ x h. fit_unbound_is c.args.scope.version _ c.args.unbound.now refl refl c.in_ok-fit_pairs.ensures (rw z at h)) c.fit_element.ensures

pub fit_relationship-returns : goal.fit_relationship-returns
fit_relationship-returns t c =
    let r = c.args.relationship.now in
    let own : to_z w64 (of_z w64 r.id) ≡ r.id = search rules in
    let start : to_z w64 (of_z w64 r.start) ≡ r.start = search rules in
    let end : to_z w64 (of_z w64 r.end) ≡ r.end = search rules in
    IfOk-weaker c.fit_ids.result _ _ (λ x h. fit_relationship_is c.args.scope.version _ r refl refl refl refl c.in_ok-fit_pairs.ensures (rw (own, start, end) at h)) c.fit_ids.ensures
