-- Two trees are the same exactly where they are equal.
use Rattle.std.proofs.Common.{◌≡◌, refl, ap, ap₂, ℕ, ◌==◌, Bool, true, false, ◌&&◌, List, Decides, subst, bytes_eq}
use Rattle.std.proofs.lemmas.Bool.{and_parts, and_from, eqb-true, eq-eqb}
use Rattle.std.proofs.lemmas.Bool.Decides.{Decides-int_eq}
use Rattle.std.proofs.lemmas.Slice.Eq.{bytes_eq-Decides}
use Rattle.packstream.specs.Prelude.{Tree, null, boolean, int, float, byte_string, text, list, dict, structure, Trees, no_trees, tree_then, Entries, no_entries, entry_then}
use Rattle.structures_cells.specs.Prelude.{same_bool, same_tree, same_trees, same_entries}

bools_are : (a b : Bool) → same_bool a b ≡ true → a ≡ b
bools_are true true h = refl
bools_are false false h = refl
bools_are a b h = cc

bool_is : (a : Bool) → same_bool a a ≡ true
bool_is true = refl
bool_is false = refl

pub bytes_are : (a b : List ℕ) → bytes_eq a b ≡ true → a ≡ b
bytes_are a b h = (bytes_eq-Decides a b).0 h

pub bytes_is : (a : List ℕ) → bytes_eq a a ≡ true
bytes_is a = (bytes_eq-Decides a a).1 refl

-- what passes the test is one
mutual
  pub trees_are : (t u : Tree) → same_tree t u ≡ true → t ≡ u
  trees_are null null h = refl
  trees_are (boolean a) (boolean b) h = ap (λ x. boolean x) (bools_are a b h)
  trees_are (int a) (int b) h = ap (λ x. int x) ((Decides-int_eq a b).0 h)
  trees_are (float a) (float b) h = ap (λ x. float x) (eqb-true a b h)
  trees_are (byte_string a) (byte_string b) h = ap (λ x. byte_string x) (bytes_are a b h)
  trees_are (text a) (text b) h = ap (λ x. text x) (bytes_are a b h)
  trees_are (list a) (list b) h = ap (λ x. list x) (members_are a b h)
  trees_are (dict a) (dict b) h = ap (λ x. dict x) (entries_are a b h)
  trees_are (structure s a) (structure t b) h = let r = and_parts (s == t) (same_trees a b) h in ap₂ (λ x y. structure x y) (eqb-true s t r.0) (members_are a b r.1)
  trees_are _ _ h = cc

  pub members_are : (ts us : Trees) → same_trees ts us ≡ true → ts ≡ us
  members_are no_trees no_trees h = refl
  members_are (tree_then t ts) (tree_then u us) h = let r = and_parts (same_tree t u) (same_trees ts us) h in ap₂ (λ x y. tree_then x y) (trees_are t u r.0) (members_are ts us r.1)
  members_are _ _ h = cc

  pub entries_are : (es fs : Entries) → same_entries es fs ≡ true → es ≡ fs
  entries_are no_entries no_entries h = refl
  entries_are (entry_then k t es) (entry_then l u fs) h =
      let r = and_parts (bytes_eq k l) (same_tree t u && same_entries es fs) h in
      let p = and_parts (same_tree t u) (same_entries es fs) r.1 in
      ap₂ (λ x (y : Tree × Entries). entry_then x y.0 y.1) (bytes_are k l r.0) (ap₂ (λ (x : Tree) (y : Entries). (x, y)) (trees_are t u p.0) (entries_are es fs p.1))
  entries_are _ _ h = cc

-- each passes the test with itself
mutual
  pub tree_is : (t : Tree) → same_tree t t ≡ true
  tree_is null = refl
  tree_is (boolean a) = bool_is a
  tree_is (int a) = (Decides-int_eq a a).1 refl
  tree_is (float a) = eq-eqb a a refl
  tree_is (byte_string a) = bytes_is a
  tree_is (text a) = bytes_is a
  tree_is (list a) = members_is a
  tree_is (dict a) = entries_is a
  tree_is (structure s a) = and_from _ _ (eq-eqb s s refl) (members_is a)

  pub members_is : (ts : Trees) → same_trees ts ts ≡ true
  members_is no_trees = refl
  members_is (tree_then t ts) = and_from _ _ (tree_is t) (members_is ts)

  pub entries_is : (es : Entries) → same_entries es es ≡ true
  entries_is no_entries = refl
  entries_is (entry_then k t es) = and_from _ _ (bytes_is k) (and_from _ _ (tree_is t) (entries_is es))

pub same_tree-Decides : (t u : Tree) → Decides (same_tree t u) (t ≡ u)
same_tree-Decides t u = (trees_are t u, λ e. subst (λ v. same_tree t v ≡ true) e (tree_is t))
