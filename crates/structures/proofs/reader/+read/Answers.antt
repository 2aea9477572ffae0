use Rattle.std.proofs.Common.{◌≡◌, map, List, ◌∷◌, [], subst, ap, sym, refl, ◌∙◌, rules, arith, to_z, of_z, w64}
use Rattle.std.proofs.lemmas.List.Elements.{same_from_all_zip}
use Rattle.std.proofs.lemmas.Result.{IfOk-weaker}
use Rattle.structures.proofs.Prelude.{Tree, Trees, int, list, dict, structure, no_trees, tree_then, tree, trees, trees_of, entries_of, seen_entry, value_lemmas, the_lemmas, tree-List, tree-Dict, tree-Struct, every_version, Integer, Text, Labels, Properties, Nodes, Relationships, Indices, fault, entries, text_of, texts_of, numbers_of, element_of, elements_of, node_shape, unbound_shape, shape-List, shape-Dict, path-roll, node-roll, unbound-roll, relationship-roll, relationship_parts, fine_pair, typed, has_tag, is_kind, IsSound, with_fields}
use Rattle.structures.proofs.Got.{dict_read, at_some, typed_list, sound_itself, sound_member, sound_within, added_is, read_by, at_row, tag_at, tagged_at, read_next, list_read, path_length, path_kinds}
use Rattle.structures.proofs.reader.+read.Goals as goal

pub cell_of-cells_of-requires : goal.cell_of-cells_of-requires
cell_of-cells_of-requires t c = (search (rules, value_lemmas), subst IsSound (ap tree c.in-List.is ∙ tree-List c.in-List.members) c.requires)

pub cell_of-pairs_of-requires : goal.cell_of-pairs_of-requires
cell_of-pairs_of-requires t c = (search (rules, value_lemmas), subst IsSound (ap tree c.in-Dict.is ∙ tree-Dict c.in-Dict.pairs) c.requires)

pub cell_of-structure_of-requires : goal.cell_of-structure_of-requires
cell_of-structure_of-requires t c = (search (rules, value_lemmas), subst IsSound (ap tree c.in-Struct.is ∙ tree-Struct c.in-Struct.tag c.in-Struct.fields) c.requires)

pub cells_of-cell_of-requires : goal.cells_of-cell_of-requires
cells_of-cell_of-requires t c =
    (search (rules, value_lemmas), sound_member c.args.members.now.items c.loop-member.member-index c.member-item.result (search rules) (search rules) c.requires)

pub pairs_of-cell_of-requires : goal.pairs_of-cell_of-requires
pairs_of-cell_of-requires t c =
    (search (rules, value_lemmas), record { version = c.requires.version; fine = fine_pair seen_entry (fault c.requires.version) c.args.pairs.now.items c.loop-key.key-index c.loop-key-item.result (search rules) (search rules) c.requires.fine })

pub cell_of-returns-in_ok-clone-in-Bytes : goal.cell_of-returns-in_ok-clone-in-Bytes
cell_of-returns-in_ok-clone-in-Bytes t c = search (rules, the_lemmas, value_lemmas, same_from_all_zip)

pub cell_of-returns-in_ok-cells_of-in-List : goal.cell_of-returns-in_ok-cells_of-in-List
cell_of-returns-in_ok-cells_of-in-List t c =
    shape-List c.in_ok-cells_of-in-List.field-0 ∙ ap (λ (ts : List Tree). list (trees_of ts)) c.in_ok-cells_of-in-List.ensures ∙ ap list (sym (typed_list (trees c.in-List.members.items))) ∙ ap typed (sym (ap tree c.in-List.is ∙ tree-List c.in-List.members))

pub cell_of-returns-in_ok-pairs_of-in-Dict : goal.cell_of-returns-in_ok-pairs_of-in-Dict
cell_of-returns-in_ok-pairs_of-in-Dict t c = shape-Dict _ ∙ dict_read _ _ _ c.in-Dict.is c.in_ok-pairs_of-in-Dict.ensures

pub structure_of-node_of-requires : goal.structure_of-node_of-requires
structure_of-node_of-requires t c = (search (rules, value_lemmas), subst (λ m. IsSound (with_fields m c.args.fields.now.items)) c.in-78.is c.requires)

pub structure_of-unbound_of-requires : goal.structure_of-unbound_of-requires
structure_of-unbound_of-requires t c = (search (rules, value_lemmas), subst (λ m. IsSound (with_fields m c.args.fields.now.items)) c.in-114.is c.requires)

pub structure_of-relationship_of-requires : goal.structure_of-relationship_of-requires
structure_of-relationship_of-requires t c = (search (rules, value_lemmas), subst (λ m. IsSound (with_fields m c.args.fields.now.items)) c.in-82.is c.requires)

pub structure_of-path_of-requires : goal.structure_of-path_of-requires
structure_of-path_of-requires t c = (search (rules, value_lemmas), subst (λ m. IsSound (with_fields m c.args.fields.now.items)) c.in-80.is c.requires)

pub properties_of-pairs_of-requires : goal.properties_of-pairs_of-requires
properties_of-pairs_of-requires t c =
    (search (rules, value_lemmas), subst IsSound (ap tree c.in-Dict.is ∙ tree-Dict c.in-Dict.pairs) (sound_member c.args.fields.now.items c.args.i c.in-Some.value.now (search rules) (search rules) c.requires))

pub properties_of-returns-in-Dict : goal.properties_of-returns-in-Dict
properties_of-returns-in-Dict t c =
    let at = at_some c.args.fields.now.items c.args.i c.in-Some.value.now (search rules) (search rules) in
    IfOk-weaker c.pairs_of.result _ _ (λ v p h. dict_read _ _ _ c.in-Dict.is p ∙ ap typed (sym at)) c.pairs_of.ensures

pub node_of-properties_of-requires : goal.node_of-properties_of-requires
node_of-properties_of-requires t c = (search (rules, value_lemmas), sound_within _ _ c.requires)

pub unbound_of-properties_of-requires : goal.unbound_of-properties_of-requires
unbound_of-properties_of-requires t c = (search (rules, value_lemmas), sound_within _ _ c.requires)

pub relationship_of-properties_of-requires : goal.relationship_of-properties_of-requires
relationship_of-properties_of-requires t c = (search (rules, value_lemmas), sound_within _ _ c.requires)

pub node_of-returns : goal.node_of-returns
node_of-returns t c =
    let z : to_z w64 (of_z w64 c.int_at.result) ≡ c.int_at.result = search rules in
    node-roll _ ∙ added_is 0x4E (Integer ∷ Labels ∷ Properties ∷ []) Text [] (tree_then (int (to_z w64 (of_z w64 c.int_at.result))) (tree_then (texts_of c.in_ok-texts_at.field-0.items) (tree_then (dict (entries_of (entries c.in_ok-properties_of.field-0.items))) no_trees))) (element_of c.in_ok-element_at.field-0) c.args.fields.now.items refl refl refl
    (rw z (rw c.deref.ensures.value at c.int_at.ensures), (rw c.deref-2.ensures.value at c.in_ok-texts_at.ensures, (c.in_ok-properties_of.ensures, tt))) (rw c.deref-3.ensures.value at c.in_ok-element_at.ensures) c.requires

pub unbound_of-returns : goal.unbound_of-returns
unbound_of-returns t c =
    let z : to_z w64 (of_z w64 c.int_at.result) ≡ c.int_at.result = search rules in
    unbound-roll _ ∙ added_is 0x72 (Integer ∷ Text ∷ Properties ∷ []) Text [] (tree_then (int (to_z w64 (of_z w64 c.int_at.result))) (tree_then (text_of c.in_ok-text_at.field-0) (tree_then (dict (entries_of (entries c.in_ok-properties_of.field-0.items))) no_trees))) (element_of c.in_ok-element_at.field-0) c.args.fields.now.items refl refl refl
    (rw z (rw c.deref.ensures.value at c.int_at.ensures), (rw c.deref-2.ensures.value at c.in_ok-text_at.ensures, (c.in_ok-properties_of.ensures, tt))) (rw c.deref-3.ensures.value at c.in_ok-element_at.ensures) c.requires

pub relationship_of-returns : goal.relationship_of-returns
relationship_of-returns t c =
    let z0 : to_z w64 (of_z w64 c.int_at.result) ≡ c.int_at.result = search rules in
    let z1 : to_z w64 (of_z w64 c.int_at-2.result) ≡ c.int_at-2.result = search rules in
    let z2 : to_z w64 (of_z w64 c.int_at-3.result) ≡ c.int_at-3.result = search rules in
    let e = added_is 0x52 (Integer ∷ Integer ∷ Integer ∷ Text ∷ Properties ∷ []) Text (Text ∷ Text ∷ []) (tree_then (int c.int_at.result) (tree_then (int c.int_at-2.result) (tree_then (int c.int_at-3.result) (tree_then (text_of c.in_ok-text_at.field-0) (tree_then (dict (entries_of (entries c.in_ok-properties_of.field-0.items))) no_trees))))) (elements_of c.in_ok-elements_at.field-0) c.args.fields.now.items refl refl refl
    (rw c.deref.ensures.value at c.int_at.ensures, (rw c.deref-2.ensures.value at c.int_at-2.ensures, (rw c.deref-3.ensures.value at c.int_at-3.ensures, (rw c.deref-4.ensures.value at c.in_ok-text_at.ensures, (c.in_ok-properties_of.ensures, tt))))) (rw c.deref-5.ensures.value at c.in_ok-elements_at.ensures) c.requires in
    let m : relationship_parts (to_z w64 (of_z w64 c.int_at.result)) (to_z w64 (of_z w64 c.int_at-2.result)) (to_z w64 (of_z w64 c.int_at-3.result)) c.in_ok-text_at.field-0 c.in_ok-properties_of.field-0.items c.in_ok-elements_at.field-0 ≡ relationship_parts c.int_at.result c.int_at-2.result c.int_at-3.result c.in_ok-text_at.field-0 c.in_ok-properties_of.field-0.items c.in_ok-elements_at.field-0 = rw (z0, z1, z2) refl in
    relationship-roll _ ∙ m ∙ e

pub nodes_of-node_of-requires : goal.nodes_of-node_of-requires
nodes_of-node_of-requires t c =
    let m = tagged_at 0x4E _ _ _ _ _ _ _ c.in-List.is c.deref-member-items.ensures.value c.in-Struct.is c.loop-member-test.true c.member-item.is c.requires.sound c.requires.kind in
    (search (rules, value_lemmas), m.0)

pub nodes_of-loop-member-preserved : goal.nodes_of-loop-member-preserved
nodes_of-loop-member-preserved t c =
    let m = tagged_at 0x4E _ _ _ _ _ _ _ c.in-List.is c.deref-member-items.ensures.value c.in-Struct.is c.loop-member-test.true c.member-item.is c.requires.sound c.requires.kind in
    read_next (has_tag 0x4E) node_shape _ _ _ _ c.loop-member.member-index c.loop-member-test.true c.in_ok-push.ensures.items (λ h. c.in_ok-node_of.ensures ∙ ap typed (sym m.1)) c.loop-member.invariant

pub nodes_of-unreachable-requires-in_default-member : goal.nodes_of-unreachable-requires-in_default-member
nodes_of-unreachable-requires-in_default-member t c =
    let h = tag_at 0x4E _ _ _ _ _ c.in-List.is c.deref-member-items.ensures.value c.loop-member-test.true c.member-item.is c.requires.kind in
    search (rules, value_lemmas)

pub nodes_of-returns : goal.nodes_of-returns
nodes_of-returns t c =
    list_read (has_tag 0x4E) node_shape _ _ _ _ _ c.in-List.is c.deref-member-items.ensures.value (omega (arith, c.loop-member-test.false)) c.loop-member.invariant c.requires.kind

pub unbounds_of-unbound_of-requires : goal.unbounds_of-unbound_of-requires
unbounds_of-unbound_of-requires t c =
    let m = tagged_at 0x72 _ _ _ _ _ _ _ c.in-List.is c.deref-member-items.ensures.value c.in-Struct.is c.loop-member-test.true c.member-item.is c.requires.sound c.requires.kind in
    (search (rules, value_lemmas), m.0)

pub unbounds_of-loop-member-preserved : goal.unbounds_of-loop-member-preserved
unbounds_of-loop-member-preserved t c =
    let m = tagged_at 0x72 _ _ _ _ _ _ _ c.in-List.is c.deref-member-items.ensures.value c.in-Struct.is c.loop-member-test.true c.member-item.is c.requires.sound c.requires.kind in
    read_next (has_tag 0x72) unbound_shape _ _ _ _ c.loop-member.member-index c.loop-member-test.true c.in_ok-push.ensures.items (λ h. c.in_ok-unbound_of.ensures ∙ ap typed (sym m.1)) c.loop-member.invariant

pub unbounds_of-unreachable-requires-in_default-member : goal.unbounds_of-unreachable-requires-in_default-member
unbounds_of-unreachable-requires-in_default-member t c =
    let h = tag_at 0x72 _ _ _ _ _ c.in-List.is c.deref-member-items.ensures.value c.loop-member-test.true c.member-item.is c.requires.kind in
    search (rules, value_lemmas)

pub unbounds_of-returns : goal.unbounds_of-returns
unbounds_of-returns t c =
    list_read (has_tag 0x72) unbound_shape _ _ _ _ _ c.in-List.is c.deref-member-items.ensures.value (omega (arith, c.loop-member-test.false)) c.loop-member.invariant c.requires.kind

pub path_of-nodes_of-requires : goal.path_of-nodes_of-requires
path_of-nodes_of-requires t c =
    let xs = c.args.fields.now.items in
    let n = path_length xs c.requires in
    (search (rules, value_lemmas), (sound_member xs 0 c.index.result.now (omega (arith, n)) c.index.ensures (sound_within _ _ c.requires), sym (ap (is_kind Nodes) (at_some xs 0 c.index.result.now (omega (arith, n)) c.index.ensures)) ∙ (path_kinds xs c.requires).0))

pub path_of-unbounds_of-requires : goal.path_of-unbounds_of-requires
path_of-unbounds_of-requires t c =
    let xs = c.args.fields.now.items in
    let n = path_length xs c.requires in
    (search (rules, value_lemmas), (sound_member xs 1 c.index-2.result.now (omega (arith, n)) c.index-2.ensures (sound_within _ _ c.requires), sym (ap (is_kind Relationships) (at_some xs 1 c.index-2.result.now (omega (arith, n)) c.index-2.ensures)) ∙ (path_kinds xs c.requires).1))

pub path_of-returns : goal.path_of-returns
path_of-returns t c =
    let xs = c.args.fields.now.items in
    let n = path_length xs c.requires in
    let s0 = at_some xs 0 c.index.result.now (omega (arith, n)) c.index.ensures in
    let s1 = at_some xs 1 c.index-2.result.now (omega (arith, n)) c.index-2.ensures in
    let s2 = at_some xs 2 c.index-3.result.now (omega (arith, n)) c.index-3.ensures in
    let k2 = sym (ap (is_kind Indices) s2) ∙ (path_kinds xs c.requires).2 in
    let e = read_by c.requires.version 0x50 (trees_of (trees xs)) (tree_then (list (trees_of (map node_shape c.in_ok-nodes_of.field-0.items))) (tree_then (list (trees_of (map unbound_shape c.in_ok-unbounds_of.field-0.items))) (tree_then (numbers_of c.in_ok-ints_of.field-0.items) no_trees))) (Nodes ∷ Relationships ∷ Indices ∷ []) (at_row c.requires.version 0x50 every_version _ refl refl) (sound_itself 0x50 _ c.requires) refl
    ((λ h. c.in_ok-nodes_of.ensures ∙ ap typed (sym s0)), ((λ h. c.in_ok-unbounds_of.ensures ∙ ap typed (sym s1)), ((λ h. c.in_ok-ints_of.ensures k2 ∙ ap typed (sym s2)), tt))) in
    path-roll _ ∙ ap (λ (x : Trees). structure 0x50 x) e
