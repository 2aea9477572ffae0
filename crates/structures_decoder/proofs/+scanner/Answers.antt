use Rattle.structures_decoder.proofs.Words.{◌≡◌, ◌-◌, ◌++◌, ◌∷◌, [], ap, ◌∙◌, List, ℕ, refl, rules, to_z, of_z, w64, map, arith, map_push, Tree, names, int, text, dict_at, list_at, size_at, layer, inner, entries_at, inner_more, items_done, entries_done, shape, shapes, entry, entries, node_shape, unbound_shape, node-roll, unbound-roll, relationship-roll, path-roll, form, form_entry, form_list}
use Rattle.structures_decoder.proofs.Laid.{has_fields, list_on}
use Rattle.structures_decoder.proofs.Twins.{last_new, all_new, key_known}
use Rattle.structures_decoder.proofs.Members.{shape_of_int, members_on, entries_on, names_on}
use Rattle.structures_decoder.proofs.+scanner.Goals as goal

pub dictionaries::dict_of-returns-in-0 : goal.dictionaries::dict_of-returns-in-0
unfolding dict_at size_at entries_at
dictionaries::dict_of-returns-in-0 g t c =
    let z : c.args.count ≡ 0 = search rules in
    λ left. (rw (inner_more c.args.room c.if-room-eq0.false, z) (search rules), search rules)

pub scan::push_member-returns-in-Ok : goal.scan::push_member-returns-in-Ok
scan::push_member-returns-in-Ok g t c =
    let z : to_z w64 (of_z w64 c.in-Ok.n) ≡ c.in-Ok.n = search rules in
    (int c.in-Ok.n, rw c.push_reserved.ensures.items (map_push shape c.args.members.now.items _ ∙ ap (λ (u : Tree). shapes c.args.members.now.items ++ u ∷ []) (shape_of_int _ ∙ ap int z)), (let h = c.in-Ok.ensures c.args.room in search rules, refl))

pub scan::push_other-returns : goal.scan::push_other-returns
scan::push_other-returns g t c =
    (shape c.in_ok-member.member, rw c.in_ok-push.ensures.items (map_push shape c.args.members.now.items c.in_ok-member.member), c.in_ok-member.ensures)

pub dictionaries::push_named-returns : goal.dictionaries::push_named-returns
dictionaries::push_named-returns g t c =
    (shape c.in_ok-cell.cell, rw c.in_ok-push.ensures.items (map_push entry c.args.pairs.now.items (c.args.name, c.in_ok-cell.cell)), c.in_ok-cell.ensures)

pub dictionaries::push_value-returns-in-Ok : goal.dictionaries::push_value-returns-in-Ok
dictionaries::push_value-returns-in-Ok g t c =
    let x = text c.in-Ok.told.now in
    (x, c.in_ok-push_text.ensures ∙ ap (λ (k : List ℕ). entries c.args.pairs.now.items ++ (k, x) ∷ []) c.in_ok-name.ensures.ok, (let h = c.in-Ok.ensures c.args.room in search rules, refl))

pub dictionaries::push_value-returns-in-Ok-int_in : goal.dictionaries::push_value-returns-in-Ok-int_in
dictionaries::push_value-returns-in-Ok-int_in g t c =
    let z : to_z w64 (of_z w64 c.in-Ok-int_in.n) ≡ c.in-Ok-int_in.n = search rules in
    let x = int c.in-Ok-int_in.n in
    (x, (rw z at c.in_ok-push_int.ensures) ∙ ap (λ (k : List ℕ). entries c.args.pairs.now.items ++ (k, x) ∷ []) c.in_ok-name.ensures.ok, (let h = c.in-Ok-int_in.ensures c.args.room in search rules, refl))

pub dictionaries::push_value-returns : goal.dictionaries::push_value-returns
dictionaries::push_value-returns g t c = rw c.in_ok-name.ensures.ok at c.push_named.ensures

pub dictionaries::pairs_of-loop-preserved : goal.dictionaries::pairs_of-loop-preserved
dictionaries::pairs_of-loop-preserved g t c =
    entries_on c.args.scope c.args.room c.args.count c.loop.counter c.loop.pairs.items _ c.in_ok-key.key.now (g.S.Source.left c.loop.rest) (g.S.Source.left c.in_ok-key.value) _ (g.S.Source.left c.args.source) c.loop-test.true (rw c.deref.ensures.value at c.in_ok-key.ensures) c.in_ok-rest.ensures c.loop.invariant

pub dictionaries::many_pairs_of-loop-preserved : goal.dictionaries::many_pairs_of-loop-preserved
dictionaries::many_pairs_of-loop-preserved g t c =
    λ new.
    let last = last_new (names c.loop.pairs.items) c.in_ok-key.key.now (rw (names_on c.args.scope c.args.room c.loop.pairs.items _ c.in_ok-key.key.now (g.S.Source.left c.in_ok-key.value) _ c.in_ok-rest.ensures) at new) in
    let key = key_known (names c.loop.pairs.items) (g.S.Source.left c.loop.rest) c.in_ok-key.key.now (g.S.Source.left c.in_ok-key.value) last.1 c.in_ok-key.ensures in
    entries_on c.args.scope c.args.room c.args.count c.loop.counter c.loop.pairs.items _ c.in_ok-key.key.now (g.S.Source.left c.loop.rest) (g.S.Source.left c.in_ok-key.value) _ (g.S.Source.left c.args.source) c.loop-test.true key c.in_ok-rest.ensures (c.loop.invariant last.0)

pub dictionaries::pairs_of-returns : goal.dictionaries::pairs_of-returns
dictionaries::pairs_of-returns g t c = (entries_done (layer (inner c.args.room)) c.args.count c.loop.counter (map (form_entry c.args.scope.version) (entries c.loop.pairs.items)) (g.S.Source.left c.loop.rest) (entries_at (layer (inner c.args.room)) c.args.count [] (g.S.Source.left c.args.source)) c.loop-test.false c.loop.invariant.0, c.loop.invariant.1)

pub dictionaries::many_pairs_of-returns : goal.dictionaries::many_pairs_of-returns
dictionaries::many_pairs_of-returns g t c =
    let so_far = c.loop.invariant (all_new c.loop.pairs.items _ (rw c.deref.ensures.value at c.in_ok-twin_in_set.ensures) (omega arith)) in
    (entries_done (layer (inner c.args.room)) c.args.count c.loop.counter (map (form_entry c.args.scope.version) (entries c.loop.pairs.items)) (g.S.Source.left c.loop.rest) (entries_at (layer (inner c.args.room)) c.args.count [] (g.S.Source.left c.args.source)) c.loop-test.false so_far.0, so_far.1)

pub scan::list_of-loop-preserved : goal.scan::list_of-loop-preserved
scan::list_of-loop-preserved g t c = members_on c.args.scope (c.args.room - 1) c.args.count c.loop.counter _ _ (g.S.Source.left c.loop.rest) _ (g.S.Source.left c.args.source) c.loop-test.true c.in_ok-rest.ensures c.loop.invariant

pub scan::list_of-returns : goal.scan::list_of-returns
unfolding list_at size_at
scan::list_of-returns g t c =
    let all = items_done (layer (inner (c.args.room - 1))) c.args.count c.loop.counter (map (form c.args.scope.version) (shapes c.loop.members.items)) (g.S.Source.left c.loop.rest) _ c.loop-test.false c.loop.invariant.0 in
    λ left. (rw (inner_more c.args.room c.if-room-eq0.false, all, form_list c.args.scope.version (shapes c.loop.members.items)) refl, c.loop.invariant.1)

pub graphs::node_of-returns : goal.graphs::node_of-returns
graphs::node_of-returns g t c =
    let id : to_z w64 (of_z w64 c.in_ok-id.id) ≡ c.in_ok-id.id = search rules in
    has_fields _ _ _ _ _ _ _ _ (node-roll _) refl (omega (arith, (c.in_ok-element_id.ensures c.args.room).0))
    ((g.S.Source.left c.in_ok-id.rest), rw id (c.in_ok-id.ensures c.args.room), ((g.S.Source.left c.in_ok-labels.rest), c.in_ok-labels.ensures, ((g.S.Source.left c.in_ok-properties.rest), c.in_ok-properties.ensures.0, (c.in_ok-element_id.ensures c.args.room).1)))

pub graphs::unbound_of-returns : goal.graphs::unbound_of-returns
graphs::unbound_of-returns g t c =
    let id : to_z w64 (of_z w64 c.in_ok-id.id) ≡ c.in_ok-id.id = search rules in
    has_fields _ _ _ _ _ _ _ _ (unbound-roll _) refl (omega (arith, (c.in_ok-element_id.ensures c.args.room).0))
    ((g.S.Source.left c.in_ok-id.rest), rw id (c.in_ok-id.ensures c.args.room), ((g.S.Source.left c.in_ok-kind.rest), c.in_ok-kind.ensures c.args.room, ((g.S.Source.left c.in_ok-properties.rest), c.in_ok-properties.ensures.0, (c.in_ok-element_id.ensures c.args.room).1)))

pub graphs::relationship_of-returns : goal.graphs::relationship_of-returns
graphs::relationship_of-returns g t c =
    let id : to_z w64 (of_z w64 c.in_ok-id.id) ≡ c.in_ok-id.id = search rules in
    let start : to_z w64 (of_z w64 c.in_ok-start.start) ≡ c.in_ok-start.start = search rules in
    let end : to_z w64 (of_z w64 c.in_ok-end.end) ≡ c.in_ok-end.end = search rules in
    has_fields _ _ _ _ _ _ _ _ (relationship-roll _) refl (omega (arith, (c.in_ok-element_ids.ensures c.args.room).0))
    ((g.S.Source.left c.in_ok-id.rest), rw id (c.in_ok-id.ensures c.args.room), ((g.S.Source.left c.in_ok-start.rest), rw start (c.in_ok-start.ensures c.args.room), ((g.S.Source.left c.in_ok-end.rest), rw end (c.in_ok-end.ensures c.args.room), ((g.S.Source.left c.in_ok-kind.rest), c.in_ok-kind.ensures c.args.room, ((g.S.Source.left c.in_ok-properties.rest), c.in_ok-properties.ensures.0, (c.in_ok-element_ids.ensures c.args.room).1)))))

pub graphs::path_of-returns : goal.graphs::path_of-returns
graphs::path_of-returns g t c =
    has_fields _ _ _ _ _ _ _ _ (path-roll _) refl (search rules)
    ((g.S.Source.left c.in_ok-nodes.rest), c.in_ok-nodes.ensures, ((g.S.Source.left c.in_ok-relationships.rest), c.in_ok-relationships.ensures, ((g.S.Source.left c.in_ok-indices.rest), c.in_ok-indices.ensures, refl)))

pub graphs::nodes_in-loop-preserved : goal.graphs::nodes_in-loop-preserved
graphs::nodes_in-loop-preserved g t c =
    let two : c.args.room - 2 ≡ c.args.room - 1 - 1 = omega arith in
    list_on node_shape c.args.scope.version (c.args.room - 1) _ _ _ _ _ _ _ _ c.in_ok-push.ensures.items c.loop-test.true (c.in_ok-fields.ensures.1 c.args.scope (node_shape c.in_ok-node.node) (g.S.Source.left c.in_ok-node.after) (rw two at c.in_ok-node.ensures)) c.loop.invariant

pub graphs::unbounds_in-loop-preserved : goal.graphs::unbounds_in-loop-preserved
graphs::unbounds_in-loop-preserved g t c =
    let two : c.args.room - 2 ≡ c.args.room - 1 - 1 = omega arith in
    list_on unbound_shape c.args.scope.version (c.args.room - 1) _ _ _ _ _ _ _ _ c.in_ok-push.ensures.items c.loop-test.true (c.in_ok-fields.ensures.1 c.args.scope (unbound_shape c.in_ok-unbound.unbound) (g.S.Source.left c.in_ok-unbound.after) (rw two at c.in_ok-unbound.ensures)) c.loop.invariant
