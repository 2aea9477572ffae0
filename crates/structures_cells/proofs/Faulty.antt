-- The fault of one structure, test by test.
use Rattle.std.proofs.Common.{◌≡◌, ℕ, List, [], ◌∷◌, length, Bool, true, false, cond, ◌==◌, Ok, refl, sym, ap, ◌∙◌, ne_eqb, eq-eqb, Vec, Global, nat_lt, ◌&&◌}
use Rattle.packstream.specs.Prelude.{Tree, list, Trees, no_trees, tree_then, count, tree, trees, trees_of}
use Rattle.packstream.specs.declared.value.Value.{Value, List as ListCase}
use Rattle.packstream.proofs.Putting.{len_trees}
use Rattle.packstream.proofs.Views.{tree-List}
use Rattle.wire.specs.declared.Version.{Version}
use Rattle.structures_cells.specs.declared.table.Field.{Field}
use Rattle.structures_cells.specs.declared.fault.Reason.TheVariants.{FieldCount, FieldKind, Range, PathShape}
use Rattle.structures_cells.specs.Prelude.{kinds, is_path, is_walk, first_failed, are_kinds, are_in_range, utc_fields, wrong, fault, fault_by}

pub other_path : (ts : Trees) → (count ts ≡ 3 → ⊥) → true ≡ is_path ts
other_path (tree_then (list a) (tree_then (list b) (tree_then (list c) no_trees))) h = absurd (h refl)
other_path ts h = refl

pub path_of : (a b c : Tree) (x y z : Vec Value Global) (n m : ℕ) (steps : List Value) (r : Bool) → a ≡ tree (ListCase x) → b ≡ tree (ListCase y) → c ≡ tree (ListCase z) → n ≡ length x.items → m ≡ length y.items → steps ≡ z.items → r ≡ (nat_lt 0 n && is_walk n m true (trees_of (trees steps))) → r ≡ is_path (tree_then a (tree_then b (tree_then c no_trees)))
path_of a b c x y z n m steps r ea eb ec en em es er =
    let whole : is_path (tree_then a (tree_then b (tree_then c no_trees))) ≡ is_path (tree_then (list (trees_of (trees x.items))) (tree_then (list (trees_of (trees y.items))) (tree_then (list (trees_of (trees z.items))) no_trees))) =
    rw (ea ∙ tree-List x, eb ∙ tree-List y, ec ∙ tree-List z) refl in
    let nn = en ∙ sym (len_trees x.items) in
    let mm = em ∙ sym (len_trees y.items) in
    er ∙ rw (nn, mm, es) (sym whole)

pub fault_is : (v : Version) (tag : ℕ) (ts : Trees) (ks : List Field) → kinds v tag ≡ Ok ks → fault v tag ts ≡ wrong ks tag ts
fault_is v tag ts ks e = ap (λ r. fault_by r tag ts) e

pub wrong_is : (ks : List Field) (tag : ℕ) (ts : Trees) (a b d e : Bool) → (count ts == length ks) ≡ a → are_kinds ks ts ≡ b → are_in_range ks (utc_fields tag ts) ≡ d → cond (tag == 0x50) (is_path ts) true ≡ e
    → wrong ks tag ts ≡ first_failed ((a, FieldCount) ∷ (b, FieldKind) ∷ (d, Range) ∷ (e, PathShape) ∷ [])
wrong_is ks tag ts a b d e ea eb ed ee = rw (ea, eb, ed, ee) refl

pub counts_agree : (xs : List Value) (ks : List Field) → length xs ≡ length ks → (count (trees_of (trees xs)) == length ks) ≡ true
counts_agree xs ks h = eq-eqb _ _ (len_trees xs ∙ h)

pub counts_differ : (xs : List Value) (ks : List Field) → (length xs ≡ length ks → ⊥) → (count (trees_of (trees xs)) == length ks) ≡ false
counts_differ xs ks h = ne_eqb _ _ (λ e. h (sym (len_trees xs) ∙ e))
