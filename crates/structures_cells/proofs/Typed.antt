-- The trees of cells are typed.
use Rattle.std.proofs.Common.{◌≡◌, ℕ, List, [], ◌∷◌, map, true, ◌||◌, ◌==◌, Option, Some, None, String, Global, string_bytes, refl, ap, ◌∙◌, subst, Bool}
use Rattle.packstream.specs.Prelude.{count, Tree, tree_then, int, dict, trees_of, entries_of}
use Rattle.structures_cells.specs.declared.cell.Cell.{Cell}
use Rattle.structures_cells.specs.declared.cell.Node.{Node}
use Rattle.structures_cells.specs.declared.cell.Path.{Path}
use Rattle.structures_cells.specs.declared.cell.Relationship.{Relationship}
use Rattle.structures_cells.specs.declared.cell.UnboundRelationship.{UnboundRelationship}
use Rattle.structures_cells.specs.declared.cell.ElementIds.{ElementIds}
use Rattle.structures_cells.specs.declared.cell.Cell.TheOpen.{Cell-F, Node-F, Path-F, Relationship-F, UnboundRelationship-F}
use Rattle.structures_cells.specs.declared.cell.Cell.TheFolds.{ind-Cell, map-Cell, map-Node, map-Path, map-Relationship, map-UnboundRelationship, fold-roll-Cell, fold-roll-Node, fold-roll-Path, fold-roll-Relationship, fold-roll-UnboundRelationship}
use Rattle.structures_cells.specs.declared.table.Field.TheVariants.{Text as TextField}
use Rattle.structures_cells.specs.Prelude.{is_text, is_int, has_tag, each, are_kinds, shape, shapes, entries, node_shape, unbound_shape, relationship_shape, path_shape, cell_step, node_step, path_step, relationship_step, unbound_step, text_of, texts_of, element_of, elements_of, is_typed, are_typed, have_typed}
use Rattle.structures_cells.proofs.Both.{both_true}
use Rattle.structures_cells.proofs.Views.{node-out, unbound-out}

-- one that is typed, as f sees it
abbrev Typed : {A : Type 0} → (A → Tree) → Type 0
Typed {A} f = (a : A) × (is_typed (f a) ≡ true)

-- members that are typed, each with its proof ..
seen_typed : {A : Type 0} (f : A → Tree) (xs : List (Typed f)) → are_typed (trees_of (map f (map (λ x. x.0) xs))) ≡ true
seen_typed f [] = refl
seen_typed f (x ∷ xs) = both_true _ _ x.1 (seen_typed f xs)

-- .. or by what holds of each
each_typed : {A : Type 0} (f : A → Tree) → ((a : A) → is_typed (f a) ≡ true) → (xs : List A) → are_typed (trees_of (map f xs)) ≡ true
each_typed f h [] = refl
each_typed f h (x ∷ xs) = both_true _ _ (h x) (each_typed f h xs)

-- members that pass a test
each_of : {A : Type 0} (p : Tree → Bool) (f : A → Tree) → ((a : A) → p (f a) ≡ true) → (xs : List A) → each p (trees_of (map f xs)) ≡ true
each_of p f h [] = refl
each_of p f h (x ∷ xs) = both_true _ _ (h x) (each_of p f h xs)

abbrev first_of : String Global × Typed shape → String Global × Cell
first_of e = (e.0, e.1.0)

abbrev shape_of : String Global × Cell → String Global × Tree
shape_of e = (e.0, shape e.1)

abbrev named : String Global × Tree → List ℕ × Tree
named e = (string_bytes e.0, e.1)

abbrev properties_of : List (String Global × Typed shape) → Tree
properties_of xs = dict (entries_of (map named (map shape_of (map first_of xs))))

entries_typed : (xs : List (String Global × Typed shape)) → have_typed (entries_of (map named (map shape_of (map first_of xs)))) ≡ true
entries_typed [] = refl
entries_typed (x ∷ xs) = both_true _ _ x.1.1 (entries_typed xs)

-- with and without what version 5.1 adds: the number of fields, the kinds of what is added, and its types
element_added : (a b d : Tree) (e : Option (String Global)) → (((count (tree_then a (tree_then b (tree_then d (element_of e)))) == 3) || (count (tree_then a (tree_then b (tree_then d (element_of e)))) == 4)) ≡ true)
    × (are_kinds (TextField ∷ []) (element_of e) ≡ true) × (are_typed (element_of e) ≡ true)
element_added a b d None = (refl, refl, refl)
element_added a b d (Some s) = (refl, refl, refl)

elements_added : (a b d f g : Tree) (e : Option ElementIds) → (((count (tree_then a (tree_then b (tree_then d (tree_then f (tree_then g (elements_of e)))))) == 5) || (count (tree_then a (tree_then b (tree_then d (tree_then f (tree_then g (elements_of e)))))) == 8)) ≡ true)
    × (are_kinds (TextField ∷ TextField ∷ TextField ∷ []) (elements_of e) ≡ true) × (are_typed (elements_of e) ≡ true)
elements_added a b d f g None = (refl, refl, refl)
elements_added a b d f g (Some s) = (refl, refl, refl)

abbrev cell_of : Cell-F (Typed shape) (Typed node_shape) (Typed path_shape) (Typed relationship_shape) (Typed unbound_shape) → Cell-F Cell Node Path Relationship UnboundRelationship
cell_of y = map-Cell (Typed shape) (Typed node_shape) (Typed path_shape) (Typed relationship_shape) (Typed unbound_shape) Cell Node Path Relationship UnboundRelationship (λ x. x.0) (λ x. x.0) (λ x. x.0) (λ x. x.0) (λ x. x.0) y

abbrev seen : Cell-F Cell Node Path Relationship UnboundRelationship → Tree
seen x = cell_step (map-Cell Cell Node Path Relationship UnboundRelationship Tree Tree Tree Tree Tree shape node_shape path_shape relationship_shape unbound_shape x)

cell_typed : (y : Cell-F (Typed shape) (Typed node_shape) (Typed path_shape) (Typed relationship_shape) (Typed unbound_shape)) → is_typed (seen (cell_of y)) ≡ true
cell_typed (Cell-F.List v) = seen_typed shape v.items
cell_typed (Cell-F.Dict v) = entries_typed v.items
cell_typed (Cell-F.Node n) = n.value.1
cell_typed (Cell-F.Relationship r) = r.value.1
cell_typed (Cell-F.UnboundRelationship r) = r.value.1
cell_typed (Cell-F.Path p) = p.value.1
cell_typed y = refl

node_typed : (y : Node-F (Typed shape) (Typed node_shape) (Typed path_shape) (Typed relationship_shape) (Typed unbound_shape))
    → is_typed (node_step (map-Node Cell Node Path Relationship UnboundRelationship Tree Tree Tree Tree Tree shape node_shape path_shape relationship_shape unbound_shape (map-Node (Typed shape) (Typed node_shape) (Typed path_shape) (Typed relationship_shape) (Typed unbound_shape) Cell Node Path Relationship UnboundRelationship (λ x. x.0) (λ x. x.0) (λ x. x.0) (λ x. x.0) (λ x. x.0) y))) ≡ true
node_typed y =
    let added = element_added (int y.id) (texts_of y.labels.items) (properties_of y.properties.items) y.element_id in
    rw (added.0, each_of is_text text_of (λ s. refl) y.labels.items, each_typed text_of (λ s. refl) y.labels.items, entries_typed y.properties.items, added.1, added.2) refl

path_typed : (y : Path-F (Typed shape) (Typed node_shape) (Typed path_shape) (Typed relationship_shape) (Typed unbound_shape))
    → is_typed (path_step (map-Path Cell Node Path Relationship UnboundRelationship Tree Tree Tree Tree Tree shape node_shape path_shape relationship_shape unbound_shape (map-Path (Typed shape) (Typed node_shape) (Typed path_shape) (Typed relationship_shape) (Typed unbound_shape) Cell Node Path Relationship UnboundRelationship (λ x. x.0) (λ x. x.0) (λ x. x.0) (λ x. x.0) (λ x. x.0) y))) ≡ true
path_typed y = rw (
  each_of (has_tag 0x4E) node_shape (λ n. ap (has_tag 0x4E) (node-out n)) (map (λ x. x.0) y.nodes.items),
  each_of (has_tag 0x72) unbound_shape (λ n. ap (has_tag 0x72) (unbound-out n)) (map (λ x. x.0) y.relationships.items),
  each_of is_int int (λ z. refl) y.indices.items,
  seen_typed node_shape y.nodes.items,
  seen_typed unbound_shape y.relationships.items,
  each_typed int (λ z. refl) y.indices.items,
) refl

unbound_typed : (y : UnboundRelationship-F (Typed shape) (Typed node_shape) (Typed path_shape) (Typed relationship_shape) (Typed unbound_shape))
    → is_typed (unbound_step (map-UnboundRelationship Cell Node Path Relationship UnboundRelationship Tree Tree Tree Tree Tree shape node_shape path_shape relationship_shape unbound_shape (map-UnboundRelationship (Typed shape) (Typed node_shape) (Typed path_shape) (Typed relationship_shape) (Typed unbound_shape) Cell Node Path Relationship UnboundRelationship (λ x. x.0) (λ x. x.0) (λ x. x.0) (λ x. x.0) (λ x. x.0) y))) ≡ true
unbound_typed y =
    let added = element_added (int y.id) (text_of y.kind) (properties_of y.properties.items) y.element_id in
    rw (added.0, entries_typed y.properties.items, added.1, added.2) refl

relationship_typed : (y : Relationship-F (Typed shape) (Typed node_shape) (Typed path_shape) (Typed relationship_shape) (Typed unbound_shape))
    → is_typed (relationship_step (map-Relationship Cell Node Path Relationship UnboundRelationship Tree Tree Tree Tree Tree shape node_shape path_shape relationship_shape unbound_shape (map-Relationship (Typed shape) (Typed node_shape) (Typed path_shape) (Typed relationship_shape) (Typed unbound_shape) Cell Node Path Relationship UnboundRelationship (λ x. x.0) (λ x. x.0) (λ x. x.0) (λ x. x.0) (λ x. x.0) y))) ≡ true
relationship_typed y =
    let added = elements_added (int y.id) (int y.start) (int y.end) (text_of y.kind) (properties_of y.properties.items) y.element_ids in
    rw (added.0, entries_typed y.properties.items, added.1, added.2) refl

pub typed_shape : (c : Cell) → is_typed (shape c) ≡ true
typed_shape = ind-Cell (λ c. is_typed (shape c) ≡ true) (λ n. is_typed (node_shape n) ≡ true) (λ p. is_typed (path_shape p) ≡ true) (λ r. is_typed (relationship_shape r) ≡ true) (λ r. is_typed (unbound_shape r) ≡ true)
    (λ x y e. ap is_typed (fold-roll-Cell Tree Tree Tree Tree Tree cell_step node_step path_step relationship_step unbound_step x) ∙ subst (λ z. is_typed (seen z) ≡ true) e (cell_typed y))
    (λ x y e. ap is_typed (fold-roll-Node Tree Tree Tree Tree Tree cell_step node_step path_step relationship_step unbound_step x) ∙ subst (λ z. is_typed (node_step (map-Node Cell Node Path Relationship UnboundRelationship Tree Tree Tree Tree Tree shape node_shape path_shape relationship_shape unbound_shape z)) ≡ true) e (node_typed y))
    (λ x y e. ap is_typed (fold-roll-Path Tree Tree Tree Tree Tree cell_step node_step path_step relationship_step unbound_step x) ∙ subst (λ z. is_typed (path_step (map-Path Cell Node Path Relationship UnboundRelationship Tree Tree Tree Tree Tree shape node_shape path_shape relationship_shape unbound_shape z)) ≡ true) e (path_typed y))
    (λ x y e. ap is_typed (fold-roll-Relationship Tree Tree Tree Tree Tree cell_step node_step path_step relationship_step unbound_step x) ∙ subst (λ z. is_typed (relationship_step (map-Relationship Cell Node Path Relationship UnboundRelationship Tree Tree Tree Tree Tree shape node_shape path_shape relationship_shape unbound_shape z)) ≡ true) e (relationship_typed y))
    (λ x y e. ap is_typed (fold-roll-UnboundRelationship Tree Tree Tree Tree Tree cell_step node_step path_step relationship_step unbound_step x) ∙ subst (λ z. is_typed (unbound_step (map-UnboundRelationship Cell Node Path Relationship UnboundRelationship Tree Tree Tree Tree Tree shape node_shape path_shape relationship_shape unbound_shape z)) ≡ true) e (unbound_typed y))

-- so are cells on their own, and entries
pub shapes_typed : (cs : List Cell) → are_typed (trees_of (shapes cs)) ≡ true
shapes_typed cs = each_typed shape typed_shape cs

pub pairs_typed : (es : List (String Global × Cell)) → have_typed (entries_of (entries es)) ≡ true
pairs_typed [] = refl
pairs_typed (e ∷ es) = both_true _ _ (typed_shape e.1) (pairs_typed es)
