-- Scanning structures piece by piece.
use Rattle.std.proofs.Common.{◌≡◌, ℕ, suc, ◌+◌, ◌<◌, List, [], ◌∷◌, ◌++◌, map, length, drop, get_or, Option, Some, None, Result, Ok, Err, refl, sym, ap, ◌∙◌, add-one, drop-cons}
use Rattle.packstream.specs.Prelude.{Tree, Trees, trees_of, entries_of}
pub use Rattle.packstream.proofs.Views.{tree-Dict}
use Rattle.structures_cells.specs.declared.fault.Reason.{Reason}
use Rattle.structures_cells.specs.Prelude.{FaultOf, scan, fault_or_rest, next, structures, structures_in, structures_under}

abbrev pub Found : Type 0
Found = Result ℕ (Reason × ℕ)

abbrev pub onward : FaultOf → Found → List (ℕ × Trees) → Found
onward j (Ok n) ys = scan j n ys
onward j (Err e) ys = Err e

scanned_onward : (j : FaultOf) (f : Option Reason) (k : ℕ) (ys : List (ℕ × Trees)) (a b : Found) → a ≡ onward j b ys → fault_or_rest f k a ≡ onward j (fault_or_rest f k b) ys
scanned_onward j None k ys a b h = h
scanned_onward j (Some r) k ys a b h = refl

pub scan_append : (j : FaultOf) (k : ℕ) (xs ys : List (ℕ × Trees)) → scan j k (xs ++ ys) ≡ onward j (scan j k xs) ys
scan_append j k [] ys = refl
scan_append j k (x ∷ xs) ys = scanned_onward j (j x.0 x.1) k ys _ _ (scan_append j (next k) xs ys)

pub members_step : {A : Type 0} (f : A → Tree) (j : FaultOf) (k : ℕ) (r : Found) (xs : List A) (i : ℕ) (d : A) → i < length xs → d ≡ get_or xs i d → r ≡ scan j k (structures (f d))
    → onward j r (structures_in (trees_of (map f (drop (i + 1) xs)))) ≡ scan j k (structures_in (trees_of (map f (drop i xs))))
members_step f j k r xs i d h is s =
    let e : drop i xs ≡ d ∷ drop (suc i) xs = drop-cons xs i d h ∙ ap (λ x. x ∷ drop (suc i) xs) (sym is) in
    rw (add-one, e) (sym (scan_append j k (structures (f d)) (structures_in (trees_of (map f (drop (suc i) xs)))) ∙ ap (λ (r : Found). onward j r (structures_in (trees_of (map f (drop (suc i) xs))))) (sym s)))

pub pairs_step : {A : Type 0} (g : A → List ℕ × Tree) (j : FaultOf) (k : ℕ) (r : Found) (xs : List A) (i : ℕ) (d : A) → i < length xs → d ≡ get_or xs i d → r ≡ scan j k (structures (g d).1)
    → onward j r (structures_under (entries_of (map g (drop (i + 1) xs)))) ≡ scan j k (structures_under (entries_of (map g (drop i xs))))
pairs_step g j k r xs i d h is s =
    let e : drop i xs ≡ d ∷ drop (suc i) xs = drop-cons xs i d h ∙ ap (λ x. x ∷ drop (suc i) xs) (sym is) in
    rw (add-one, e) (sym (scan_append j k (structures (g d).1) (structures_under (entries_of (map g (drop (suc i) xs)))) ∙ ap (λ (r : Found). onward j r (structures_under (entries_of (map g (drop (suc i) xs))))) (sym s)))
