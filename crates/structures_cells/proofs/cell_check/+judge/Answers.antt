use Rattle.std.proofs.Common.{◌≡◌, ℤ, ◌+◌, refl, ap, sym, ◌∙◌, rules, map, Ok, Err, to_z, of_z, w64}
use Rattle.std.proofs.lemmas.Result.{err_from_is_err_and}
use Rattle.packstream.specs.Prelude.{Tree, int, structure, no_trees, tree_then, trees_of}
use Rattle.structures_cells.specs.Prelude.{scan, structures, structures_in, shape, entry, node_shape, unbound_shape, text_of, texts_of, fault_of_structure}
use Rattle.structures_cells.specs.declared.cell.Path.{out-Path}
use Rattle.structures_cells.proofs.Views.{node_parts, unbound_parts, relationship_parts, shape-Duration, node-out, unbound-out, relationship-out, path-out}
use Rattle.structures_cells.proofs.Scanning.{members_step, pairs_step, scan_append, onward, Found}
use Rattle.structures_cells.proofs.Judged.{duration_judged, texts_plain, fields_ok, relationship_ok, path_ok, path_err, mapped}
use Rattle.structures_cells.proofs.cell_check.+judge.Goals as goal

pub check_cell-returns-in-Duration : goal.check_cell-returns-in-Duration
check_cell-returns-in-Duration t c =
    let w = c.in-Duration in
    let z0 : to_z w64 (of_z w64 w.months) ≡ w.months = search rules in
    let z1 : to_z w64 (of_z w64 w.days) ≡ w.days = search rules in
    let z2 : to_z w64 (of_z w64 w.seconds) ≡ w.seconds = search rules in
    let z3 : to_z w64 (of_z w64 w.nanos) ≡ w.nanos = search rules in
    let same : structure 0x45 (tree_then (int (to_z w64 (of_z w64 w.months))) (tree_then (int (to_z w64 (of_z w64 w.days))) (tree_then (int (to_z w64 (of_z w64 w.seconds))) (tree_then (int (to_z w64 (of_z w64 w.nanos))) no_trees))))
    ≡ structure 0x45 (tree_then (int w.months) (tree_then (int w.days) (tree_then (int w.seconds) (tree_then (int w.nanos) no_trees)))) = rw (z0, z1, z2, z3) refl in
    c.judge-in-Duration.ensures ∙ duration_judged c.args.version c.args.seen (to_z w64 (of_z w64 w.months)) (to_z w64 (of_z w64 w.days)) (to_z w64 (of_z w64 w.seconds)) (to_z w64 (of_z w64 w.nanos))
    ∙ ap (λ (u : Tree). scan (fault_of_structure c.args.version) c.args.seen (structures u)) (same ∙ sym (ap shape w.is ∙ shape-Duration w.months w.days w.seconds w.nanos))

pub check_cells-returns-in_err-number : goal.check_cells-returns-in_err-number
check_cells-returns-in_err-number t c =
    let p = err_from_is_err_and c.from_residual.result c.from_residual.ensures.1 in
    rw (p.1, p.2) (members_step shape (fault_of_structure c.args.version) c.loop-member.number (Err c.in_err-number.field-0.0) c.args.members.now.items c.loop-member.member-index c.member-item.result (search rules) (search rules) c.in_err-number.ensures ∙ rw c.deref-member-items.ensures.value at c.loop-member.invariant)

pub check_cells-loop-member-preserved : goal.check_cells-loop-member-preserved
check_cells-loop-member-preserved t c =
    members_step shape (fault_of_structure c.args.version) c.loop-member.number (Ok c.in_ok-number.number) _ c.loop-member.member-index c.member-item.result c.loop-member-test.true c.member-item.is c.in_ok-number.ensures ∙ c.loop-member.invariant

pub check_entries-returns-in_err-number : goal.check_entries-returns-in_err-number
check_entries-returns-in_err-number t c =
    let p = err_from_is_err_and c.from_residual.result c.from_residual.ensures.1 in
    rw (p.1, p.2) (pairs_step entry (fault_of_structure c.args.version) c.loop-pair.number (Err c.in_err-number.field-0.0) c.args.pairs.now.items c.loop-pair.pair-index c.pair-item.result (search rules) (search rules) c.in_err-number.ensures ∙ rw c.deref-pair-items.ensures.value at c.loop-pair.invariant)

pub check_entries-loop-pair-preserved : goal.check_entries-loop-pair-preserved
check_entries-loop-pair-preserved t c =
    pairs_step entry (fault_of_structure c.args.version) c.loop-pair.number (Ok c.in_ok-number.number) _ c.loop-pair.pair-index c.pair-item.result c.loop-pair-test.true c.pair-item.is c.in_ok-number.ensures ∙ c.loop-pair.invariant

pub check_nodes-returns-in_err-number : goal.check_nodes-returns-in_err-number
check_nodes-returns-in_err-number t c =
    let p = err_from_is_err_and c.from_residual.result c.from_residual.ensures.1 in
    rw (p.1, p.2) (members_step node_shape (fault_of_structure c.args.version) c.loop-node.number (Err c.in_err-number.field-0.0) c.args.nodes.now.items c.loop-node.node-index c.node-item.result (search rules) (search rules) c.in_err-number.ensures ∙ rw c.deref-node-items.ensures.value at c.loop-node.invariant)

pub check_nodes-loop-node-preserved : goal.check_nodes-loop-node-preserved
check_nodes-loop-node-preserved t c =
    members_step node_shape (fault_of_structure c.args.version) c.loop-node.number (Ok c.in_ok-number.number) _ c.loop-node.node-index c.node-item.result c.loop-node-test.true c.node-item.is c.in_ok-number.ensures ∙ c.loop-node.invariant

pub check_unbounds-returns-in_err-number : goal.check_unbounds-returns-in_err-number
check_unbounds-returns-in_err-number t c =
    let p = err_from_is_err_and c.from_residual.result c.from_residual.ensures.1 in
    rw (p.1, p.2) (members_step unbound_shape (fault_of_structure c.args.version) c.loop-unbound.number (Err c.in_err-number.field-0.0) c.args.unbounds.now.items c.loop-unbound.unbound-index c.unbound-item.result (search rules) (search rules) c.in_err-number.ensures ∙ rw c.deref-unbound-items.ensures.value at c.loop-unbound.invariant)

pub check_unbounds-loop-unbound-preserved : goal.check_unbounds-loop-unbound-preserved
check_unbounds-loop-unbound-preserved t c =
    members_step unbound_shape (fault_of_structure c.args.version) c.loop-unbound.number (Ok c.in_ok-number.number) _ c.loop-unbound.unbound-index c.unbound-item.result c.loop-unbound-test.true c.unbound-item.is c.in_ok-number.ensures ∙ c.loop-unbound.invariant

pub check_node-returns : goal.check_node-returns
check_node-returns t c =
    let n = c.args.node.now in
    let z : to_z w64 (of_z w64 n.id) ≡ n.id = search rules in
    c.check_entries.ensures ∙ fields_ok c.args.version c.args.seen c.in_ok-number.number 0x4E (3 + c.element_count-count.result) (to_z w64 (of_z w64 n.id)) (texts_of n.labels.items) n.properties.items n.element_id refl refl (texts_plain n.labels.items) (search rules) c.in_ok-number.ensures
    ∙ ap (λ (u : Tree). scan (fault_of_structure c.args.version) c.args.seen (structures u)) (ap (λ (x : ℤ). node_parts x n.labels.items n.properties.items n.element_id) z ∙ sym (node-out n))

pub check_unbound-returns : goal.check_unbound-returns
check_unbound-returns t c =
    let n = c.args.unbound.now in
    let z : to_z w64 (of_z w64 n.id) ≡ n.id = search rules in
    c.check_entries.ensures ∙ fields_ok c.args.version c.args.seen c.in_ok-number.number 0x72 (3 + c.element_count-count.result) (to_z w64 (of_z w64 n.id)) (text_of n.kind) n.properties.items n.element_id refl refl refl (search rules) c.in_ok-number.ensures
    ∙ ap (λ (u : Tree). scan (fault_of_structure c.args.version) c.args.seen (structures u)) (ap (λ (x : ℤ). unbound_parts x n.kind n.properties.items n.element_id) z ∙ sym (unbound-out n))

pub check_relationship-returns : goal.check_relationship-returns
check_relationship-returns t c =
    let n = c.args.relationship.now in
    let z0 : to_z w64 (of_z w64 n.id) ≡ n.id = search rules in
    let z1 : to_z w64 (of_z w64 n.start) ≡ n.start = search rules in
    let z2 : to_z w64 (of_z w64 n.end) ≡ n.end = search rules in
    let same : relationship_parts (to_z w64 (of_z w64 n.id)) (to_z w64 (of_z w64 n.start)) (to_z w64 (of_z w64 n.end)) n.kind n.properties.items n.element_ids ≡ relationship_parts n.id n.start n.end n.kind n.properties.items n.element_ids = rw (z0, z1, z2) refl in
    c.check_entries.ensures ∙ relationship_ok c.args.version c.args.seen c.in_ok-number.number (5 + c.elements_count-count.result) (to_z w64 (of_z w64 n.id)) (to_z w64 (of_z w64 n.start)) (to_z w64 (of_z w64 n.end)) n.kind n.properties.items n.element_ids (search rules) c.in_ok-number.ensures
    ∙ ap (λ (u : Tree). scan (fault_of_structure c.args.version) c.args.seen (structures u)) (same ∙ sym (relationship-out n))

pub check_path-returns-in_err-number : goal.check_path-returns-in_err-number
check_path-returns-in_err-number t c =
    let w = out-Path c.args.path.now in
    let p = err_from_is_err_and c.from_residual.result c.from_residual.ensures.1 in
    let e : c.from_residual.result ≡ Err c.in_err-number.field-0.0 = search (rules, p.1, p.2) in
    e ∙ path_err c.args.version c.args.seen _ _ c.in_err-number.field-0.0 (map node_shape w.nodes.items) (map unbound_shape w.relationships.items) w.indices.items (mapped node_shape _ w.nodes.items (search rules)) (mapped unbound_shape _ w.relationships.items (search rules)) (rw c.deref.ensures.value at c.in_err-number.ensures) ∙ ap (λ (u : Tree). scan (fault_of_structure c.args.version) c.args.seen (structures u)) (sym (path-out c.args.path.now))

pub check_path-returns-in_err-number-2 : goal.check_path-returns-in_err-number-2
check_path-returns-in_err-number-2 t c =
    let w = out-Path c.args.path.now in
    let j = fault_of_structure c.args.version in
    let xs = structures_in (trees_of (map node_shape w.nodes.items)) in
    let ys = structures_in (trees_of (map unbound_shape w.relationships.items)) in
    let p = err_from_is_err_and c.from_residual-in_err-number-2.result c.from_residual-in_err-number-2.ensures.1 in
    let e : c.from_residual-in_err-number-2.result ≡ Err c.in_err-number-2.field-0.0 = search (rules, p.1, p.2) in
    e ∙ ap (λ (r : Found). onward j r ys) c.in_err-number-2.ensures ∙ sym (scan_append j c.in_ok-number.number xs ys)
    ∙ path_ok c.args.version c.args.seen c.in_ok-number.number _ _ (map node_shape w.nodes.items) (map unbound_shape w.relationships.items) w.indices.items (mapped node_shape _ w.nodes.items (search rules)) (mapped unbound_shape _ w.relationships.items (search rules)) (rw c.deref.ensures.value at c.in_ok-number.ensures) ∙ ap (λ (u : Tree). scan (fault_of_structure c.args.version) c.args.seen (structures u)) (sym (path-out c.args.path.now))

pub check_path-returns : goal.check_path-returns
check_path-returns t c =
    let w = out-Path c.args.path.now in
    let j = fault_of_structure c.args.version in
    let xs = structures_in (trees_of (map node_shape w.nodes.items)) in
    let ys = structures_in (trees_of (map unbound_shape w.relationships.items)) in
    c.check_unbounds.ensures ∙ ap (λ (r : Found). onward j r ys) c.in_ok-number-2.ensures ∙ sym (scan_append j c.in_ok-number.number xs ys)
    ∙ path_ok c.args.version c.args.seen c.in_ok-number.number _ _ (map node_shape w.nodes.items) (map unbound_shape w.relationships.items) w.indices.items (mapped node_shape _ w.nodes.items (search rules)) (mapped unbound_shape _ w.relationships.items (search rules)) (rw c.deref.ensures.value at c.in_ok-number.ensures) ∙ ap (λ (u : Tree). scan (fault_of_structure c.args.version) c.args.seen (structures u)) (sym (path-out c.args.path.now))
