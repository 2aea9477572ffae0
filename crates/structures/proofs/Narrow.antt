-- No structure of a form has more fields than PackStream allows, so packing it is refused for a key or its depth alone.
use Rattle.std.proofs.Common.{◌≡◌, ◌≤◌, ◌+◌, ℕ, min, List, [], ◌∷◌, ◌++◌, Bool, true, false, Option, None, Some, IfSome, Result, Err, ap, subst, arith}
use Rattle.structures.proofs.Prelude.{PackReason, Tree, list, dict, structure, Trees, no_trees, tree_then, Entries, no_entries, entry_then, count, is_among, own_fault, faults_in, faults_in_all, faults_in_entries, Version, fault, structures, structures_in, structures_under, all_fine, fine_scan, fine_itself, fine_within, fine_left, fine_right, Form, IsUnpacked, IsOfPacking}
use Rattle.packstream.specs.Prelude.{first_fault}
use Rattle.structures.proofs.Laid.{few_fields}

-- What is wrong with each value of a form is a key or the depth.
abbrev AreNarrow : List (Option PackReason) → Type 0
AreNarrow [] = Unit {0}
AreNarrow (o ∷ os) = IfSome o IsOfPacking × AreNarrow os

narrow_append : (xs ys : List (Option PackReason)) → AreNarrow xs → AreNarrow ys → AreNarrow (xs ++ ys)
narrow_append [] ys h k = k
narrow_append (x ∷ xs) ys h k = (h.0, narrow_append xs ys h.1 k)

own_narrow : (heads : ℕ) (again nests : Bool) (n : ℕ) → n ≤ 15 → IfSome (own_fault heads again nests n) IsOfPacking
own_narrow heads again nests n h = grind arith

mutual
  narrow : (v : Version) (h : ℕ) (a : Bool) (t : Tree) → all_fine (fault v) (structures t) ≡ true → AreNarrow (faults_in h a t)
  narrow v h a (list ts) f = (own_narrow h a true 0 (omega arith), narrow_all v (h + 1) ts f)
  narrow v h a (dict es) f = (own_narrow h a true 0 (omega arith), narrow_under v (h + 1) [] es f)
  narrow v h a (structure tag ts) f = (own_narrow h a true (count ts) (few_fields v tag ts (fine_itself (fault v) tag ts f)), narrow_all v (h + 1) ts (fine_within (fault v) tag ts f))
  narrow v h a t f = (own_narrow h a false 0 (omega arith), tt)

  narrow_all : (v : Version) (h : ℕ) (ts : Trees) → all_fine (fault v) (structures_in ts) ≡ true → AreNarrow (faults_in_all h ts)
  narrow_all v h no_trees f = tt
  narrow_all v h (tree_then t ts) f = narrow_append (faults_in h false t) (faults_in_all h ts) (narrow v h false t (fine_left (fault v) (structures t) (structures_in ts) f)) (narrow_all v h ts (fine_right (fault v) (structures t) (structures_in ts) f))

  narrow_under : (v : Version) (h : ℕ) (before : List (List ℕ)) (es : Entries) → all_fine (fault v) (structures_under es) ≡ true → AreNarrow (faults_in_entries h before es)
  narrow_under v h before no_entries f = tt
  narrow_under v h before (entry_then k t es) f =
      narrow_append (faults_in h (is_among k before) t) (faults_in_entries h (before ++ k ∷ []) es) (narrow v h (is_among k before) t (fine_left (fault v) (structures t) (structures_under es) f)) (narrow_under v h (before ++ k ∷ []) es (fine_right (fault v) (structures t) (structures_under es) f))

first_narrow : (fs : List (Option PackReason)) (at : ℕ) (r : PackReason) (o : ℕ) → AreNarrow fs → first_fault fs at ≡ Err (r, o) → IsOfPacking r
unfolding first_fault
first_narrow [] at r o h e = absurd cc
first_narrow (None ∷ fs) at r o h e = first_narrow fs (min (at + 1) 18446744073709551615) r o h.1 e
first_narrow (Some q ∷ fs) at r o h e =
    let both : ◌≡◌ {A = Result ℕ (PackReason × ℕ)} (Err (q, at)) (Err (r, o)) = e in
    let same : (q, at) ≡ (r, o) = cc in
    subst IsOfPacking (ap (λ (x : PackReason × ℕ). x.0) same) h.0

pub of_packing : (v : Version) (s t : Tree) (r : PackReason) (o : ℕ) → Form v s t → IsUnpacked t r o → IsOfPacking r
of_packing v s t r o f u = first_narrow (faults_in 0 false t) 0 r o (narrow v 0 false t (fine_scan (fault v) 0 f.0.0 (structures t) f.0.1)) u
