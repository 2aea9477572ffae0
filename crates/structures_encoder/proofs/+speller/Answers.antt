use Rattle.structures_encoder.proofs.Words.{◌∙◌, refl, length, rules, arith, lit<, head, out-Path, shape, node_shape, unbound_shape, node-out, unbound-out, relationship-out, path-out, Opens}
use Rattle.structures_encoder.proofs.Adding.{last, none, then, as_is, one_more, one_member, one_pair, all_of, list_put, dict_put, structure_put}
use Rattle.structures_encoder.proofs.Flat.{all_new}
use Rattle.structures_encoder.proofs.+speller.Goals as goal

pub spelling::put_cells-loop-member-preserved : goal.spelling::put_cells-loop-member-preserved
spelling::put_cells-loop-member-preserved t c =
    (c.put_member.ensures.spelled.before ∙ c.loop-member.invariant.0, one_member c.loop-member.invariant.1 c.loop-member-test.true c.member-item.is c.in_ok-put_member.ensures.spelled.put c.in_ok-put_member.ensures.fine)

pub spelling::put_cells-returns : goal.spelling::put_cells-returns
spelling::put_cells-returns t c =
    let all = all_of c.loop-member.invariant.1 (omega (arith, c.loop-member-test.false)) (none, λ u. refl) in
    record { spelled = record { before = search rules; put = list_put shape c.args.members.now c.in_ok-inner.ensures.opens all.0 }; fine = rw c.in_ok-inner.ensures.opens.inner.is at all.1 }

pub spelling::put_entries-loop-pair-preserved : goal.spelling::put_entries-loop-pair-preserved
spelling::put_entries-loop-pair-preserved t c =
    (c.put_cell.ensures.spelled.before ∙ c.put_string.ensures.before ∙ c.loop-pair.invariant.0, one_pair c.loop-pair.invariant.1 c.loop-pair-test.true c.pair-item.is c.in_ok-put_string.ensures.put c.in_ok-put_cell.ensures.spelled.put c.in_ok-put_cell.ensures.fine)

pub spelling::put_entries-returns : goal.spelling::put_entries-returns
spelling::put_entries-returns t c =
    let h : Opens c.args.scope (head 0xA0 0xD8 (length c.args.pairs.now)) c.args.out.now c.put_head.new.out c.in_ok-inner.inner = record { inner = c.in_ok-inner.ensures; added = c.in_ok-put_head.ensures.ok } in
    let all = all_of c.loop-pair.invariant.1 (omega (arith, c.loop-pair-test.false)) (none, λ u. refl) in
    record { spelled = record { before = search rules; put = dict_put c.args.pairs.now h (all_new c.args.pairs.now c.first_twin.result c.first_twin.ensures (omega arith)) all.0 }; fine = rw c.in_ok-inner.ensures.is at all.1 }

pub graphs::put_path-loop-node-preserved : goal.graphs::put_path-loop-node-preserved
graphs::put_path-loop-node-preserved t c =
    (c.put_node.ensures.before ∙ c.loop-node.invariant.0, one_more c.loop-node.invariant.1 c.loop-node-test.true c.node-item.is (λ ys e q. then c.in_ok-put_node.ensures.put q))

pub graphs::put_path-loop-unbound-preserved : goal.graphs::put_path-loop-unbound-preserved
graphs::put_path-loop-unbound-preserved t c =
    (c.put_unbound.ensures.before ∙ c.loop-unbound.invariant.0, one_more c.loop-unbound.invariant.1 c.loop-unbound-test.true c.unbound-item.is (λ ys e q. then c.in_ok-put_unbound.ensures.put q))

pub graphs::put_node-returns : goal.graphs::put_node-returns
graphs::put_node-returns t c =
    last c.put_element.ensures (search rules) (λ p. structure_put _ c.in_ok-inner.ensures.opens (node-out c.args.node.now) refl (lit< tt) (omega arith) (omega arith)
    (then (as_is c.in_ok-put_number.ensures.put (search rules)) (then (rw c.deref.ensures.value at c.in_ok-put_texts.ensures.put) (then (rw c.deref-2.ensures.value at c.in_ok-put_entries.ensures.spelled.put) (p c.in_ok-inner.inner)))))

pub graphs::put_unbound-returns : goal.graphs::put_unbound-returns
graphs::put_unbound-returns t c =
    last c.put_element.ensures (search rules) (λ p. structure_put _ c.in_ok-inner.ensures.opens (unbound-out c.args.unbound.now) refl (lit< tt) (omega arith) (omega arith)
    (then (as_is c.in_ok-put_number.ensures.put (search rules)) (then c.in_ok-put_string.ensures.put (then (rw c.deref.ensures.value at c.in_ok-put_entries.ensures.spelled.put) (p c.in_ok-inner.inner)))))

pub graphs::put_relationship-returns : goal.graphs::put_relationship-returns
graphs::put_relationship-returns t c =
    last c.put_elements.ensures (search rules) (λ p. structure_put _ c.in_ok-inner.ensures.opens (relationship-out c.args.relationship.now) refl (lit< tt) (omega arith) (omega arith)
    (then (as_is c.in_ok-put_number.ensures.put (search rules)) (then (as_is c.in_ok-put_number-2.ensures.put (search rules)) (then (as_is c.in_ok-put_number-3.ensures.put (search rules))
    (then c.in_ok-put_string.ensures.put (then (rw c.deref.ensures.value at c.in_ok-put_entries.ensures.spelled.put) (p c.in_ok-inner.inner)))))))

pub graphs::put_path-returns : goal.graphs::put_path-returns
graphs::put_path-returns t c =
    let path = out-Path c.args.path.now in
    let nodes = list_put node_shape path.nodes.items (rw (c.len.ensures, path.nodes.ok.0) at c.in_ok-among.ensures.opens) (rw c.deref-node-items.ensures.value at (all_of c.loop-node.invariant.1 (omega (arith, c.loop-node-test.false)) none)) in
    let unbounds = list_put unbound_shape path.relationships.items (rw (c.len-2.ensures, path.relationships.ok.0) at c.in_ok-between.ensures.opens) (rw c.deref-unbound-items.ensures.value at (all_of c.loop-unbound.invariant.1 (omega (arith, c.loop-unbound-test.false)) none)) in
    last c.put_number_list.ensures (search rules) (λ p. structure_put _ c.in_ok-inner.ensures.opens (path-out c.args.path.now) refl (lit< tt) (omega arith) refl (then nodes (then unbounds (then (rw c.deref.ensures.value at p) none))))
