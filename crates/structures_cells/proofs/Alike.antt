-- The tests of a cell's parts, as those of its tree.
use Rattle.std.proofs.Common.{◌≡◌, ◌<◌, arith, rules, refl, sym, ap, ap₂, ◌∙◌, ℕ, ℤ, Bool, true, false, ◌&&◌, List, [], ◌∷◌, String, Global, Option, Some, None, string_eq, int_eq}
use Rattle.std.specs.Cmp.Lexicographic.{pointwise}
use Rattle.std.specs.Option.{option_eq}
use Rattle.std.proofs.Math.Bool.{and-true}
use Rattle.std.proofs.lemmas.Bool.{and_left, and_right}
use Rattle.std.proofs.lemmas.Bool.Decides.{Decides-int_eq}
use Rattle.packstream.specs.Prelude.{Tree, int, structure, Trees}
use denote.Enum.Declared.{tag_of}
use Rattle.structures_cells.specs.contracts.cell.Cell.{the_type}
use Rattle.structures_cells.specs.declared.cell.Cell.{Cell, the_lemmas}
use Rattle.structures_cells.specs.Prelude.{relationship_tag, same_tree, same_trees, shape, node_shape, unbound_shape, relationship_shape, path_shape, entry, text_of, element_of, elements_of}
use Rattle.structures_cells.specs.declared.cell.ElementIds.{ElementIds}
use Rattle.structures_cells.specs.declared.cell.Node.{Node}
use Rattle.structures_cells.specs.declared.cell.Path.{Path, out-Path}
use Rattle.structures_cells.specs.declared.cell.Relationship.{Relationship}
use Rattle.structures_cells.specs.declared.cell.UnboundRelationship.{UnboundRelationship}
use Rattle.structures_cells.proofs.Views.{node-out, unbound-out, relationship-out, path-out}
use Rattle.structures_cells.proofs.Walking.{SameMembers, SamePairs}

pub texts_same : (xs ys : List (String Global)) → SameMembers text_of xs ys ≡ pointwise string_eq xs ys
texts_same (x ∷ xs) (y ∷ ys) = ap (λ b. string_eq x y && b) (texts_same xs ys)
texts_same [] [] = refl
texts_same xs ys = refl

pub numbers_same : (xs ys : List ℤ) → SameMembers int xs ys ≡ pointwise int_eq xs ys
numbers_same (x ∷ xs) (y ∷ ys) = ap (λ b. int_eq x y && b) (numbers_same xs ys)
numbers_same [] [] = refl
numbers_same xs ys = refl

element_same : (a b : Option (String Global)) → same_trees (element_of a) (element_of b) ≡ option_eq string_eq a b
element_same (Some x) (Some y) = and-true (string_eq x y)
element_same None None = refl
element_same a b = refl

-- the three ids of a relationship
abbrev pub same_ids : ElementIds → ElementIds → Bool
same_ids x y = string_eq x.own y.own && (string_eq x.start y.start && string_eq x.end y.end)

elements_same : (a b : Option ElementIds) → same_trees (elements_of a) (elements_of b) ≡ option_eq same_ids a b
elements_same (Some x) (Some y) = ap (λ b. string_eq x.own y.own && (string_eq x.start y.start && b)) (and-true (string_eq x.end y.end))
elements_same None None = refl
elements_same a b = refl

pub node_alike : (a b : Node) → same_tree (node_shape a) (node_shape b)
    ≡ (int_eq a.id b.id && (pointwise string_eq a.labels.items b.labels.items && (SamePairs entry a.properties.items b.properties.items && option_eq string_eq a.element_id b.element_id)))
node_alike a b =
    ap₂ same_tree (node-out a) (node-out b)
    ∙ ap₂ (λ l e. int_eq a.id b.id && (l && (SamePairs entry a.properties.items b.properties.items && e))) (texts_same a.labels.items b.labels.items) (element_same a.element_id b.element_id)

pub unbound_alike : (a b : UnboundRelationship) → same_tree (unbound_shape a) (unbound_shape b)
    ≡ (int_eq a.id b.id && (string_eq a.kind b.kind && (SamePairs entry a.properties.items b.properties.items && option_eq string_eq a.element_id b.element_id)))
unbound_alike a b =
    ap₂ same_tree (unbound-out a) (unbound-out b)
    ∙ ap (λ e. int_eq a.id b.id && (string_eq a.kind b.kind && (SamePairs entry a.properties.items b.properties.items && e))) (element_same a.element_id b.element_id)

first_three : (i s e r : Bool) → (i && (s && (e && r))) ≡ ((i && (s && (e && true))) && r)
first_three i s e r = grind arith

pub relationship_alike : (a b : Relationship) → same_tree (relationship_shape a) (relationship_shape b)
    ≡ (pointwise int_eq (a.id ∷ a.start ∷ a.end ∷ []) (b.id ∷ b.start ∷ b.end ∷ []) && (string_eq a.kind b.kind && (SamePairs entry a.properties.items b.properties.items && option_eq same_ids a.element_ids b.element_ids)))
relationship_alike a b =
    ap₂ same_tree (relationship-out a) (relationship-out b)
    ∙ ap (λ e. int_eq a.id b.id && (int_eq a.start b.start && (int_eq a.end b.end && (string_eq a.kind b.kind && (SamePairs entry a.properties.items b.properties.items && e))))) (elements_same a.element_ids b.element_ids)
    ∙ first_three (int_eq a.id b.id) (int_eq a.start b.start) (int_eq a.end b.end) _

-- what the first parts that differ tell, and what is left where they don't
pub second_differs : (i l r : Bool) → l ≡ false → (i && (l && r)) ≡ false
second_differs i l r h = and_right i (l && r) (and_left l r h)

pub third_differs : (i l p r : Bool) → p ≡ false → (i && (l && (p && r))) ≡ false
third_differs i l p r h = and_right i (l && (p && r)) (second_differs l p r h)

pub last_left : (i l p r : Bool) → i ≡ true → l ≡ true → p ≡ true → (i && (l && (p && r))) ≡ r
last_left i l p r x y z = ap (λ b. b && (l && (p && r))) x ∙ ap (λ b. b && (p && r)) y ∙ ap (λ b. b && r) z

pub ints_same : (x y : ℤ) → x ≡ y → int_eq x y ≡ true
ints_same x y h = (Decides-int_eq x y).1 h

pub path_alike : (a b : Path) → same_tree (path_shape a) (path_shape b)
    ≡ (SameMembers node_shape (out-Path a).nodes.items (out-Path b).nodes.items && (SameMembers unbound_shape (out-Path a).relationships.items (out-Path b).relationships.items && pointwise int_eq (out-Path a).indices.items (out-Path b).indices.items))
path_alike a b =
    ap₂ same_tree (path-out a) (path-out b)
    ∙ ap (λ e. SameMembers node_shape (out-Path a).nodes.items (out-Path b).nodes.items && (SameMembers unbound_shape (out-Path a).relationships.items (out-Path b).relationships.items && e)) (and-true (SameMembers int (out-Path a).indices.items (out-Path b).indices.items) ∙ numbers_same (out-Path a).indices.items (out-Path b).indices.items)

-- the tag of a structure
abbrev pub tag_in : Tree → Option ℕ
tag_in (structure tag ts) = Some tag
tag_in _ = None

relationship_alone : (ts : Trees) (c : Cell) → tag_of the_type c < 22 → (tag_of the_type c ≡ 9 → ⊥) → false ≡ same_tree (structure relationship_tag ts) (shape c)
relationship_alone ts c h k = first_of (grind (arith, the_lemmas), search (rules, the_lemmas))

-- a relationship's tree is no other cell's; 9 is its place among the cases of a cell
pub relationship_is_alone : (t : Tree) (c : Cell) → tag_in t ≡ Some relationship_tag → tag_of the_type c < 22 → (tag_of the_type c ≡ 9 → ⊥) → false ≡ same_tree t (shape c)
relationship_is_alone (structure tag ts) c e h k = let is : tag ≡ relationship_tag = cc in relationship_alone ts c h k ∙ ap (λ n. same_tree (structure n ts) (shape c)) (sym is)
relationship_is_alone _ c e h k = absurd cc
