-- Rows in the order of their numbers: there is one such order.
use Rattle.std.proofs.Common.{◌≡◌, ◌⊎◌, inl, inr, ◌<◌, ◌≤◌, ℕ, suc, pos, List, [], ◌∷◌, length, refl, sym, ap, ◌∙◌, arith}
use Rattle.std.proofs.lemmas.List.Elements.{All-from_recursion, recursion_from_All}
use Rattle.std.proofs.lemmas.List.Sorted.{All-permutation, length_permutation}
use Rattle.std.specs.List.{AllByRecursion}
use Rattle.std.specs.List.Sorted.{IsPermutation}
use Rattle.sqlite.specs.Order.{Row, column}
use Rattle.sqlite.specs.declared.types.Value.{Value}
use Rattle.sqlite.specs.declared.types.Value.TheVariants.{Int}

-- each row's first value is its number, from n on
abbrev pub AreNumbered : ℕ → List Row → Type 0
AreNumbered n [] = Unit {0}
AreNumbered n (r ∷ rs) = (column r 0 ≡ Int (pos n)) × AreNumbered (suc n) rs

-- the row is one of these
abbrev IsIn : List Row → Row → Type 0
IsIn [] r = ⊥
IsIn (x ∷ xs) r = (r ≡ x) ⊎ IsIn xs r

all_in_more : (x : Row) (xs rs : List Row) → AllByRecursion (IsIn xs) rs → AllByRecursion (IsIn (x ∷ xs)) rs
all_in_more x xs [] h = tt
all_in_more x xs (r ∷ rs) h = (inr h.0, all_in_more x xs rs h.1)

all_in : (xs : List Row) → AllByRecursion (IsIn xs) xs
all_in [] = tt
all_in (x ∷ xs) = (inl refl, all_in_more x xs xs (all_in xs))

pub one_number : (m n : ℕ) → ◌≡◌ {A = Value} (Int (pos m)) (Int (pos n)) → m ≡ n
one_number m n e = cc

-- a row that stands among numbered ones has a number of theirs
above : (n m : ℕ) (xs : List Row) (r : Row) → AreNumbered n xs → IsIn xs r → column r 0 ≡ Int (pos m) → n ≤ m
above n m [] r h none is = absurd none
above n m (x ∷ xs) r h (inl e) is = omega (arith, one_number m n (sym is ∙ ap (λ y. column y 0) e ∙ h.0))
above n m (x ∷ xs) r h (inr more) is = let later = above (suc n) m xs r h.1 more is in omega arith

others : (n : ℕ) (x : Row) (xs rs : List Row) → column x 0 ≡ Int (pos n) → AreNumbered (suc n) rs → AllByRecursion (IsIn (x ∷ xs)) rs → AllByRecursion (IsIn xs) rs
others n x xs rs is numbered all = go n n rs (omega arith) is numbered all
  where
    later : (k m : ℕ) (r : Row) → n < k → column r 0 ≡ Int (pos k) → IsIn (x ∷ xs) r → IsIn xs r
    later k m r less at (inl e) = absurd (omega (arith, one_number k n (sym at ∙ ap (λ y. column y 0) e ∙ is)))
    later k m r less at (inr more) = more

    go : (k m : ℕ) (ys : List Row) → n ≤ k → column x 0 ≡ Int (pos n) → AreNumbered (suc k) ys → AllByRecursion (IsIn (x ∷ xs)) ys → AllByRecursion (IsIn xs) ys
    go k m [] less at h all = tt
    go k m (y ∷ ys) less at h all = (later (suc k) m y (omega arith) h.0 all.0, go (suc k) m ys (omega arith) at h.1 all.1)

same_rows : (n : ℕ) (xs rs : List Row) → length xs ≡ length rs → AreNumbered n xs → AreNumbered n rs → AllByRecursion (IsIn xs) rs → xs ≡ rs
same_rows n [] [] len h k all = refl
same_rows n [] (r ∷ rs) len h k all = absurd (omega (arith, len))
same_rows n (x ∷ xs) [] len h k all = absurd (omega (arith, len))
same_rows n (x ∷ xs) (r ∷ rs) len h k all =
    ap (λ y. y ∷ xs) (sym (first all.0)) ∙ ap (λ ys. r ∷ ys) (same_rows (suc n) xs rs (omega (arith, len)) h.1 k.1 (others n x xs rs h.0 k.1 all.1))
  where
    first : IsIn (x ∷ xs) r → r ≡ x
    first (inl e) = e
    first (inr more) = let late = above (suc n) n xs r h.1 more k.0 in absurd (omega arith)

-- two numbered lists of the same rows are one
pub one_order : (n : ℕ) (xs rs : List Row) → IsPermutation xs rs → AreNumbered n xs → AreNumbered n rs → xs ≡ rs
one_order n xs rs p h k =
    same_rows n xs rs (sym (length_permutation xs rs p)) h k (recursion_from_All (IsIn xs) rs (All-permutation (IsIn xs) xs rs p (All-from_recursion (IsIn xs) xs (all_in xs))))
