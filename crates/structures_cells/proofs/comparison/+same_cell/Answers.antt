use Rattle.std.proofs.Common.{◌≡◌, not, [], ◌∷◌, int_eq, refl, sym, ◌∙◌, to_z, of_z, w64, arith, rules}
use Rattle.std.specs.Cmp.Lexicographic.{pointwise}
use Rattle.std.proofs.lemmas.Bool.{not-true, not-false, and_left}
use Rattle.structures_cells.specs.Prelude.{shape}
use Rattle.structures_cells.specs.declared.cell.Cell.{the_lemmas}
use Rattle.structures_cells.proofs.Alike.{node_alike, unbound_alike, relationship_alike, second_differs, third_differs, last_left, ints_same, relationship_is_alone}
use Rattle.structures_cells.proofs.comparison.+same_cell.Goals as goal

pub same_cell-returns-in_default-10 : goal.same_cell-returns-in_default-10
same_cell-returns-in_default-10 t c = relationship_is_alone (shape c.args.one.now) c.args.other.now (search (rules, the_lemmas)) (omega arith) (λ e. omega arith)

pub same_node-returns : goal.same_node-returns
same_node-returns t c =
    let ids : c.args.one.now.id ≡ c.args.other.now.id = search rules in
    c.eq.ensures ∙ sym (node_alike c.args.one.now c.args.other.now ∙ last_left _ _ _ _ (ints_same _ _ ids) (not-false _ (sym c.ne.ensures ∙ c.if-ne.false)) (sym c.same_pairs.ensures ∙ c.if-not-same_pairs.false))

pub same_unbound-returns : goal.same_unbound-returns
same_unbound-returns t c =
    let ids : c.args.one.now.id ≡ c.args.other.now.id = search rules in
    c.eq.ensures ∙ sym (unbound_alike c.args.one.now c.args.other.now ∙ last_left _ _ _ _ (ints_same _ _ ids) (not-false _ (sym c.ne.ensures ∙ c.if-ne.false)) (sym c.same_pairs.ensures ∙ c.if-not-same_pairs.false))

pub same_relationship-returns-then-ne : goal.same_relationship-returns-then-ne
same_relationship-returns-then-ne t c =
    let a = c.args.one.now in
    let b = c.args.other.now in
    let ids : c.ne.result ≡ not (pointwise int_eq (a.id ∷ a.start ∷ a.end ∷ []) (b.id ∷ b.start ∷ b.end ∷ [])) = search rules in
    sym (relationship_alike a b ∙ and_left _ _ (not-true _ (sym ids ∙ c.if-ne.true)))

pub same_relationship-returns-then-ne-2 : goal.same_relationship-returns-then-ne-2
same_relationship-returns-then-ne-2 t c = sym (relationship_alike c.args.one.now c.args.other.now ∙ second_differs _ _ _ (not-true _ (sym c.ne-2.ensures ∙ c.if-ne-2.true)))

pub same_relationship-returns-then-not-same_pairs : goal.same_relationship-returns-then-not-same_pairs
same_relationship-returns-then-not-same_pairs t c = sym (relationship_alike c.args.one.now c.args.other.now ∙ third_differs _ _ _ _ (sym c.same_pairs.ensures ∙ c.if-not-same_pairs.true))

pub same_relationship-returns : goal.same_relationship-returns
same_relationship-returns t c =
    let a = c.args.one.now in
    let b = c.args.other.now in
    let z0 : to_z w64 (of_z w64 a.id) ≡ a.id = search rules in
    let z1 : to_z w64 (of_z w64 a.start) ≡ a.start = search rules in
    let z2 : to_z w64 (of_z w64 a.end) ≡ a.end = search rules in
    let z3 : to_z w64 (of_z w64 b.id) ≡ b.id = search rules in
    let z4 : to_z w64 (of_z w64 b.start) ≡ b.start = search rules in
    let z5 : to_z w64 (of_z w64 b.end) ≡ b.end = search rules in
    let ids : c.ne.result ≡ not (pointwise int_eq (a.id ∷ a.start ∷ a.end ∷ []) (b.id ∷ b.start ∷ b.end ∷ [])) = c.ne.ensures ∙ rw (z0, z1, z2, z3, z4, z5) refl in
    c.eq.ensures ∙ sym (relationship_alike a b ∙ last_left _ _ _ _ (not-false _ (sym ids ∙ c.if-ne.false)) (not-false _ (sym c.ne-2.ensures ∙ c.if-ne-2.false)) (sym c.same_pairs.ensures ∙ c.if-not-same_pairs.false))
