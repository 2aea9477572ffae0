-- Lists of cells that differ in their length.
use Rattle.std.proofs.Common.{◌≡◌, refl, ap, ℕ, suc, Bool, false, ◌&&◌, List, [], ◌∷◌, map, length, bytes_eq}
use Rattle.std.proofs.lemmas.Bool.{and_right}
use Rattle.packstream.specs.Prelude.{Tree, trees_of, entries_of}
use Rattle.structures_cells.specs.Prelude.{same_tree, same_trees, same_entries}

-- Members, of which each is seen as a tree.
module _ {A : Type 0} (f : A → Tree) where
  abbrev pub SameMembers : List A → List A → Bool
  SameMembers xs ys = same_trees (trees_of (map f xs)) (trees_of (map f ys))

  pub members_apart : (xs ys : List A) → (length xs ≡ length ys → ⊥) → SameMembers xs ys ≡ false
  members_apart [] [] h = absurd (h refl)
  members_apart (x ∷ xs) (y ∷ ys) h = and_right (same_tree (f x) (f y)) (SameMembers xs ys) (members_apart xs ys (λ e. h (ap suc e)))
  members_apart xs ys h = refl

-- Entries, of which each is seen as a key's bytes and a tree.
module _ {A : Type 0} (g : A → List ℕ × Tree) where
  abbrev pub SamePairs : List A → List A → Bool
  SamePairs xs ys = same_entries (entries_of (map g xs)) (entries_of (map g ys))

  pub pairs_apart : (xs ys : List A) → (length xs ≡ length ys → ⊥) → SamePairs xs ys ≡ false
  pairs_apart [] [] h = absurd (h refl)
  pairs_apart (x ∷ xs) (y ∷ ys) h =
      and_right (bytes_eq (g x).0 (g y).0) (same_tree (g x).1 (g y).1 && SamePairs xs ys)
      (and_right (same_tree (g x).1 (g y).1) (SamePairs xs ys) (pairs_apart xs ys (λ e. h (ap suc e))))
  pairs_apart xs ys h = refl
