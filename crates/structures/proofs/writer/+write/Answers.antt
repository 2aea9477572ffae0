use Rattle.std.proofs.Common.{ℤ, List, None, Some, map, ap, sym, refl, ◌∙◌, rules}
use Rattle.std.proofs.lemmas.List.Elements.{same_from_all_zip}
use Rattle.std.proofs.lemmas.Simd.{map-map}
use Rattle.structures.proofs.Prelude.{Tree, text_of, texts_of, int, list, dict, trees_of, entries_of, value_lemmas, tree-List, tree-Dict, structures, all_fine, fault_of_structure, shape, shapes, entry, entries, node_shape, unbound_shape, fine_member, fine_pair, the_lemmas, out-Path, shape-List, shape-Dict, relationship_parts, node-out, unbound-out, relationship-out, path-out, form}
use Rattle.structures_cells.proofs.Judged.{node_fine, unbound_fine, relationship_fine, path_nodes_fine, path_unbounds_fine}
use Rattle.structures.proofs.Fitted.{form_list, form_pairs, named_written, relationship_written, path_written}
use Rattle.structures.proofs.writer.+write.Goals as goal

pub value_of-returns-in_ok-clone-in-Bytes : goal.value_of-returns-in_ok-clone-in-Bytes
value_of-returns-in_ok-clone-in-Bytes t c = search (rules, the_lemmas, value_lemmas, same_from_all_zip)

pub value_of-returns-in_ok-values_of-in-List : goal.value_of-returns-in_ok-values_of-in-List
value_of-returns-in_ok-values_of-in-List t c =
    tree-List c.in_ok-values_of-in-List.field-0 ∙ ap (λ (ts : List Tree). list (trees_of ts)) c.in_ok-values_of-in-List.ensures ∙ ap list (sym (form_list c.args.scope.version (shapes c.in-List.members.items))) ∙ ap (form c.args.scope.version) (sym (ap shape c.in-List.is ∙ shape-List c.in-List.members))

pub value_of-returns-in_ok-pair_values-in-Dict : goal.value_of-returns-in_ok-pair_values-in-Dict
value_of-returns-in_ok-pair_values-in-Dict t c =
    tree-Dict c.in_ok-pair_values-in-Dict.field-0 ∙ ap (λ es. dict (entries_of es)) c.in_ok-pair_values-in-Dict.ensures ∙ ap dict (sym (form_pairs c.args.scope.version (entries c.in-Dict.pairs.items))) ∙ ap (form c.args.scope.version) (sym (ap shape c.in-Dict.is ∙ shape-Dict c.in-Dict.pairs))

pub node_value-returns : goal.node_value-returns
node_value-returns t c =
    let n = c.args.node.now in
    named_written c.args.scope.version 0x4E n.id (texts_of n.labels.items) n.properties.items n.element_id _ refl (ap list (form_list _ (map text_of n.labels.items) ∙ ap trees_of (map-map _ text_of n.labels.items))) (search (rules, value_lemmas, tree-Dict, c.in_ok-of_named.ensures, c.in_ok-labels.ensures, c.in_ok-pair_values.ensures)) ∙ ap (form c.args.scope.version) (sym (node-out n))

pub unbound_value-returns : goal.unbound_value-returns
unbound_value-returns t c =
    let n = c.args.unbound.now in
    named_written c.args.scope.version 0x72 n.id (text_of n.kind) n.properties.items n.element_id _ refl refl (search (rules, value_lemmas, tree-Dict, c.in_ok-of_named.ensures, c.in_ok-pair_values.ensures)) ∙ ap (form c.args.scope.version) (sym (unbound-out n))

pub relationship_value-returns-in_ok-vec-in-None : goal.relationship_value-returns-in_ok-vec-in-None
relationship_value-returns-in_ok-vec-in-None t c =
    let n = c.args.relationship.now in
    relationship_written c.args.scope.version n.id n.start n.end n.kind n.properties.items None _ (search (rules, value_lemmas, tree-Dict, c.in_ok-pair_values.ensures)) ∙ ap (λ e. form c.args.scope.version (relationship_parts n.id n.start n.end n.kind n.properties.items e)) (sym c.in-None.is) ∙ ap (form c.args.scope.version) (sym (relationship-out n))

pub relationship_value-returns-in_ok-fields-in-Some : goal.relationship_value-returns-in_ok-fields-in-Some
relationship_value-returns-in_ok-fields-in-Some t c =
    let n = c.args.relationship.now in
    relationship_written c.args.scope.version n.id n.start n.end n.kind n.properties.items (Some c.in-Some.ids) _ (search (rules, value_lemmas, tree-Dict, c.in_ok-pair_values.ensures)) ∙ ap (λ e. form c.args.scope.version (relationship_parts n.id n.start n.end n.kind n.properties.items e)) (sym c.in-Some.is) ∙ ap (form c.args.scope.version) (sym (relationship-out n))

pub path_value-returns : goal.path_value-returns
path_value-returns t c =
    let w = out-Path c.args.path.now in
    c.in_ok-of_named.ensures ∙ path_written c.args.scope.version (map node_shape w.nodes.items) (map unbound_shape w.relationships.items) w.indices.items _ _ _ (tree-List _ ∙ ap (λ (ts : List Tree). list (trees_of ts)) c.in_ok-node_values.ensures) (tree-List _ ∙ ap (λ (ts : List Tree). list (trees_of ts)) c.in_ok-unbound_values.ensures) (tree-List _ ∙ ap (λ (ts : List Tree). list (trees_of ts)) c.in_ok-int_values.ensures ∙ ap (λ (zs : List ℤ). list (trees_of (map int zs))) c.deref.ensures.value) ∙ ap (form c.args.scope.version) (sym (path-out c.args.path.now))

pub value_of-pair_values-requires : goal.value_of-pair_values-requires
value_of-pair_values-requires t c = (search (rules, the_lemmas), sym (ap (λ (u : Tree). all_fine (fault_of_structure c.args.scope.version) (structures u)) (ap shape c.in-Dict.is ∙ shape-Dict c.in-Dict.pairs)) ∙ c.requires)

pub path_value-node_values-requires : goal.path_value-node_values-requires
path_value-node_values-requires t c =
    let w = out-Path c.args.path.now in
    (search (rules, the_lemmas), path_nodes_fine (fault_of_structure c.args.scope.version) (map node_shape w.nodes.items) (map unbound_shape w.relationships.items) w.indices.items (rw (path-out c.args.path.now) at c.requires))

pub path_value-unbound_values-requires : goal.path_value-unbound_values-requires
path_value-unbound_values-requires t c =
    let w = out-Path c.args.path.now in
    (search (rules, the_lemmas), path_unbounds_fine (fault_of_structure c.args.scope.version) (map node_shape w.nodes.items) (map unbound_shape w.relationships.items) w.indices.items (rw (path-out c.args.path.now) at c.requires))

pub values_of-value_of-requires : goal.values_of-value_of-requires
values_of-value_of-requires t c = (search (rules, the_lemmas), fine_member shape (fault_of_structure c.args.scope.version) c.args.members.now.items c.loop-member.member-index c.member-item.result (search rules) (search rules) c.requires)

pub pair_values-value_of-requires : goal.pair_values-value_of-requires
pair_values-value_of-requires t c = (search (rules, the_lemmas), fine_pair entry (fault_of_structure c.args.scope.version) c.args.pairs.now.items c.loop-key.key-index c.loop-key-item.result (search rules) (search rules) c.requires)

pub node_values-node_value-requires : goal.node_values-node_value-requires
node_values-node_value-requires t c = (search (rules, the_lemmas), fine_member node_shape (fault_of_structure c.args.scope.version) c.args.nodes.now.items c.loop-node.node-index c.node-item.result (search rules) (search rules) c.requires)

pub unbound_values-unbound_value-requires : goal.unbound_values-unbound_value-requires
unbound_values-unbound_value-requires t c = (search (rules, the_lemmas), fine_member unbound_shape (fault_of_structure c.args.scope.version) c.args.relationships.now.items c.loop-unbound.unbound-index c.unbound-item.result (search rules) (search rules) c.requires)

pub node_value-pair_values-requires : goal.node_value-pair_values-requires
node_value-pair_values-requires t c =
    let n = c.args.node.now in
    (search (rules, the_lemmas), node_fine (fault_of_structure c.args.scope.version) n.id n.labels.items n.properties.items n.element_id (sym (ap (λ (u : Tree). all_fine (fault_of_structure c.args.scope.version) (structures u)) (node-out n)) ∙ c.requires))

pub unbound_value-pair_values-requires : goal.unbound_value-pair_values-requires
unbound_value-pair_values-requires t c =
    let n = c.args.unbound.now in
    (search (rules, the_lemmas), unbound_fine (fault_of_structure c.args.scope.version) n.id n.kind n.properties.items n.element_id (sym (ap (λ (u : Tree). all_fine (fault_of_structure c.args.scope.version) (structures u)) (unbound-out n)) ∙ c.requires))

pub relationship_value-pair_values-requires : goal.relationship_value-pair_values-requires
relationship_value-pair_values-requires t c =
    let n = c.args.relationship.now in
    (search (rules, the_lemmas), relationship_fine (fault_of_structure c.args.scope.version) n.id n.start n.end n.kind n.properties.items n.element_ids (sym (ap (λ (u : Tree). all_fine (fault_of_structure c.args.scope.version) (structures u)) (relationship-out n)) ∙ c.requires))
