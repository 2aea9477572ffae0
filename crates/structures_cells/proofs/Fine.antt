-- Structures without a fault, piece by piece.
use Rattle.std.proofs.Common.{◌≡◌, ℕ, zero, suc, ◌<◌, List, [], ◌∷◌, ◌++◌, map, length, get_or, true, ◌&&◌, Option, Some, None, is_none, Ok, refl, sym, ap, ◌∙◌, rules, arith, Vec, Global}
use Rattle.std.proofs.Math.Bool.{and_assoc}
use Rattle.packstream.specs.Prelude.{Tree, structure, Trees, tree, trees, trees_of, entries_of}
use Rattle.packstream.specs.declared.value.Value.{Value, Struct as StructCase, the_lemmas}
use Rattle.structures_cells.specs.declared.fault.Reason.{Reason}
use Rattle.structures_cells.specs.Prelude.{FaultOf, scan, fault_or_rest, next, structures, structures_in, structures_under, all_fine}
use Rattle.structures_cells.proofs.Both.{and_left, and_right, both_true}
use Rattle.structures_cells.proofs.Scanning.{Found}

pub tree-Struct : (tag : ℕ) (v : Vec Value Global) → tree (StructCase tag v) ≡ structure tag (trees_of (trees v.items))
tree-Struct tag v = search (rules, the_lemmas)

pub fine_append : (j : FaultOf) (xs ys : List (ℕ × Trees)) → all_fine j (xs ++ ys) ≡ (all_fine j xs && all_fine j ys)
fine_append j [] ys = refl
fine_append j (x ∷ xs) ys = ap (λ b. is_none (j x.0 x.1) && b) (fine_append j xs ys) ∙ sym (and_assoc (is_none (j x.0 x.1)) (all_fine j xs) (all_fine j ys))

none_of : (o : Option Reason) → is_none o ≡ true → o ≡ None
none_of None h = refl
none_of (Some r) h = absurd cc

pub fine_itself : (j : FaultOf) (tag : ℕ) (ts : Trees) → all_fine j (structures (structure tag ts)) ≡ true → j tag ts ≡ None
fine_itself j tag ts h = none_of _ (and_left (is_none (j tag ts)) _ h)

pub fine_within : (j : FaultOf) (tag : ℕ) (ts : Trees) → all_fine j (structures (structure tag ts)) ≡ true → all_fine j (structures_in ts) ≡ true
fine_within j tag ts h = and_right (is_none (j tag ts)) _ h

pub fine_left : (j : FaultOf) (xs ys : List (ℕ × Trees)) → all_fine j (xs ++ ys) ≡ true → all_fine j xs ≡ true
fine_left j xs ys h = and_left _ _ (sym (fine_append j xs ys) ∙ h)

pub fine_right : (j : FaultOf) (xs ys : List (ℕ × Trees)) → all_fine j (xs ++ ys) ≡ true → all_fine j ys ≡ true
fine_right j xs ys h = and_right (all_fine j xs) _ (sym (fine_append j xs ys) ∙ h)

pub fine_member : {A : Type 0} (f : A → Tree) (j : FaultOf) (xs : List A) (i : ℕ) (d : A) → i < length xs → d ≡ get_or xs i d → all_fine j (structures_in (trees_of (map f xs))) ≡ true → all_fine j (structures (f d)) ≡ true
fine_member f j [] i d h e a = absurd (omega arith)
fine_member f j (x ∷ xs) zero d h e a = ap (λ y. all_fine j (structures (f y))) e ∙ fine_left j (structures (f x)) (structures_in (trees_of (map f xs))) a
fine_member f j (x ∷ xs) (suc i) d h e a = fine_member f j xs i d (omega arith) e (fine_right j (structures (f x)) (structures_in (trees_of (map f xs))) a)

pub fine_pair : {A : Type 0} (g : A → List ℕ × Tree) (j : FaultOf) (xs : List A) (i : ℕ) (d : A) → i < length xs → d ≡ get_or xs i d → all_fine j (structures_under (entries_of (map g xs))) ≡ true → all_fine j (structures (g d).1) ≡ true
fine_pair g j [] i d h e a = absurd (omega arith)
fine_pair g j (x ∷ xs) zero d h e a = ap (λ y. all_fine j (structures (g y).1)) e ∙ fine_left j (structures (g x).1) (structures_under (entries_of (map g xs))) a
fine_pair g j (x ∷ xs) (suc i) d h e a = fine_pair g j xs i d (omega arith) e (fine_right j (structures (g x).1) (structures_under (entries_of (map g xs))) a)

scanned_ok : (f : Option Reason) (k n : ℕ) (rest : Found) → fault_or_rest f k rest ≡ Ok n → (is_none f ≡ true) × (rest ≡ Ok n)
scanned_ok None k n rest h = (refl, h)
scanned_ok (Some r) k n rest h = absurd cc

pub fine_scan : (j : FaultOf) (k n : ℕ) (ss : List (ℕ × Trees)) → scan j k ss ≡ Ok n → all_fine j ss ≡ true
fine_scan j k n [] h = refl
fine_scan j k n (s ∷ ss) h =
    let p = scanned_ok (j s.0 s.1) k n (scan j (next k) ss) h in
    both_true _ _ p.0 (fine_scan j (next k) n ss p.1)

pub scan_fine : (j : FaultOf) (k : ℕ) (ss : List (ℕ × Trees)) → all_fine j ss ≡ true → (n : ℕ) × (scan j k ss ≡ Ok n)
scan_fine j k [] h = (k, refl)
scan_fine j k (s ∷ ss) h =
    let r = scan_fine j (next k) ss (and_right (is_none (j s.0 s.1)) _ h) in
    (r.0, ap (λ o. fault_or_rest o k (scan j (next k) ss)) (none_of _ (and_left (is_none (j s.0 s.1)) _ h)) ∙ r.1)
