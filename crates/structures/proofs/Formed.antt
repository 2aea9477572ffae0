-- What is written is read back, and what is read is written back. The form of a cell that can be written has no fault, and is what is written of it.
use Rattle.std.proofs.Common.{◌≡◌, ℕ, ℤ, ◌+ℤ◌, ◌-ℤ◌, Bool, true, false, not, cond, ◌==◌, None, refl, sym, ap, ◌∙◌, arith, eqb-true, eq-eqb, subst, suc, pos, neg_ℤ, ◌≤ℤ◌, List, [], ◌∷◌, ◌++◌, length, ◌&&◌, ◌||◌, Option, Some, is_none, Result, Ok, Err}
use Rattle.std.proofs.lemmas.Int.{ints}
use Rattle.std.proofs.lemmas.Bool.{not-true}
use Rattle.std.proofs.lemmas.Bool.Decides.{nat_tests}
use Rattle.structures.proofs.Prelude.{Tree, int, list, dict, structure, Trees, no_trees, tree_then, Entries, no_entries, entry_then, IsGood, count, Version, V44, row_in, table, Row, fields_of, kinds, scan, to_utc, fault, structures, structures_in, structures_under, first_failed, moment_fields, is_int, is_text, has_tag, each, is_kind, are_kinds, in_range, are_in_range, is_relationship, is_walk, is_path, all_fine, is_typed, are_typed, have_typed, is_row, has_count, shape, moment_tag, fault_of_structure, fault_of_structure_by, IsWritable, is_place, and_left, and_right, both_true, fine_itself, fine_within, fine_left, fine_right, scan_fine, fine_scan, fine_append, typed, typed_all, typed_under, form, form_all, form_under, moment, Form, three, Writes, Packs, Field, Nanosecond, Labels, Nodes, Relationships, Indices, Reason, NotInVersion, FieldCount, FieldKind, Range, PathShape, Cell, typed_shape, fault_is, wrong_is, has_element_ids, CellFault}
use Rattle.structures.proofs.Got.{of_local, stood, all_pass, of_three, passed, fine_at, row_of}
use Rattle.structures.specs.declared.fault.CellFault.TheVariants as told

pub there_and_back : (u o : ℤ) → (u +ℤ o) -ℤ o ≡ u
there_and_back u o = omega (arith, ints)

pub back_and_there : (u o : ℤ) → (u -ℤ o) +ℤ o ≡ u
back_and_there u o = omega (arith, ints)

moment_back : (v : Version) (us : Trees) → typed (moment v us) ≡ structure 0x49 (typed_all us)
moment_back V44 (tree_then (int u) (tree_then t (tree_then (int o) no_trees))) = ap (λ z. structure 0x49 (tree_then (int z) (tree_then (typed t) (tree_then (int o) no_trees)))) (there_and_back u o)
moment_back v us = refl

written_back : (v : Version) (tag : ℕ) (us : Trees) (b : Bool) → (tag == 0x49) ≡ b → not (tag == 0x46) ≡ true → typed (cond b (moment v us) (structure tag us)) ≡ structure tag (typed_all us)
written_back v tag us true e h = moment_back v us ∙ ap (λ n. structure n (typed_all us)) (sym (eqb-true _ _ e))
written_back v tag us false e h = let n : (tag == 0x46) ≡ false = not-true _ h in rw n refl

-- Reading keeps the number of fields, what passes as each kind and its range, and what passes as a path.
tag_typed : (k tag : ℕ) → (0x49 == k) ≡ false → (0x46 == k) ≡ false → (cond (tag == 0x46) 0x49 tag == k) ≡ (tag == k)
tag_typed k tag m n = grind (arith, nat_tests)

each_typed : (p : Tree → Bool) → ((t : Tree) → p (typed t) ≡ p t) → (ts : Trees) → each p (typed_all ts) ≡ each p ts
each_typed p f no_trees = refl
each_typed p f (tree_then t ts) = ap (λ b. b && each p (typed_all ts)) (f t) ∙ ap (λ b. p t && b) (each_typed p f ts)

kind_typed : (k : Field) (t : Tree) → is_kind k (typed t) ≡ is_kind k t
kind_typed Labels (list ts) = each_typed is_text (elim [ int z ↦ refl | t ↦ refl ]) ts
kind_typed Nodes (list ts) = each_typed (has_tag 0x4E) (elim [ structure tag us ↦ tag_typed 0x4E tag refl refl | t ↦ refl ]) ts
kind_typed Relationships (list ts) = each_typed (has_tag 0x72) (elim [ structure tag us ↦ tag_typed 0x72 tag refl refl | t ↦ refl ]) ts
kind_typed Indices (list ts) = each_typed is_int (elim [ int z ↦ refl | t ↦ refl ]) ts
kind_typed k (structure tag ts) = refl
kind_typed k t = refl

kinds_typed : (ks : List Field) (ts : Trees) → are_kinds ks (typed_all ts) ≡ are_kinds ks ts
kinds_typed (k ∷ ks) (tree_then t ts) = ap (λ b. b && are_kinds ks (typed_all ts)) (kind_typed k t) ∙ ap (λ b. is_kind k t && b) (kinds_typed ks ts)
kinds_typed ks ts = refl

range_typed : (t : Tree) (k : Field) → in_range k (typed t) ≡ in_range k t
range_typed (int z) k = refl
range_typed t Nanosecond = refl
range_typed t k = refl

pub ranges_typed : (ks : List Field) (ts : Trees) → are_in_range ks (typed_all ts) ≡ are_in_range ks ts
ranges_typed (k ∷ ks) (tree_then t ts) = ap (λ b. b && are_in_range ks (typed_all ts)) (range_typed t k) ∙ ap (λ b. in_range k t && b) (ranges_typed ks ts)
ranges_typed ks ts = refl

pub count_typed : (ts : Trees) → count (typed_all ts) ≡ count ts
count_typed no_trees = refl
count_typed (tree_then t ts) = ap suc (count_typed ts)

walk_typed : (n m : ℕ) (even : Bool) (ts : Trees) → is_walk n m even (typed_all ts) ≡ is_walk n m even ts
walk_typed n m even no_trees = refl
walk_typed n m even (tree_then (int z) ts) = ap (λ b. cond even (is_relationship m (int z)) (is_place n (int z)) && b) (walk_typed n m (not even) ts)
walk_typed n m even (tree_then t ts) = ap (λ b. cond even true false && b) (walk_typed n m (not even) ts)

pub path_typed : (ts : Trees) → is_path (typed_all ts) ≡ is_path ts
path_typed (tree_then (list a) (tree_then (list b) (tree_then (list d) no_trees))) =
    rw (count_typed a, count_typed b, walk_typed (count a) (count b) true d) refl
path_typed ts = refl

prefix : (fs more : List Field) (ts : Trees) → are_kinds (fs ++ more) ts ≡ true → are_kinds fs ts ≡ true
prefix [] more ts h = refl
prefix (f ∷ fs) more no_trees h = refl
prefix (f ∷ fs) more (tree_then t ts) h = both_true _ _ (and_left _ _ h) (prefix fs more ts (and_right (is_kind f t) _ h))

table_kinds : (v : Version) (o : Option Row) (ks : List Field) (ts : Trees) → fields_of v o ≡ Ok ks → is_row o ts ≡ true → are_kinds ks ts ≡ true
table_kinds v None ks ts e h = absurd cc
table_kinds v (Some r) ks ts e h =
    let q = and_right (has_count r ts) _ h in
    let k = elim (has_element_ids v) as (λ b. are_kinds (cond b (r.fields ++ r.added) r.fields) ts ≡ true) [ true ↦ q | false ↦ prefix r.fields r.added ts q ] in
    subst (λ x. are_kinds x ts ≡ true) (sym (stood v r.stands r.fields r.added ks e).1) k

pub passes : (ks : List Field) (tag : ℕ) (ts : Trees) → fault_of_structure_by (Ok ks) tag ts ≡ None → ((count ts == length ks) ≡ true) × (are_in_range ks ts ≡ true) × (cond (tag == 0x50) (is_path ts) true ≡ true)
passes ks tag ts h = let p = all_pass true (count ts == length ks) (are_in_range ks ts) (cond (tag == 0x50) (is_path ts) true) FieldCount NotInVersion Range PathShape h in (p.1, p.2, p.3)

moment_three : (v : Version) (a b d : ℤ) → are_in_range moment_fields (three a b d) ≡ true → all_fine (fault v) (structures (moment v (three a b d))) ≡ true
moment_three V44 a b d h =
    let e = ap (λ z. are_in_range moment_fields (three z b d)) (there_and_back a d) ∙ h in
    ap (λ x. is_none (first_failed ((true, FieldCount) ∷ (true, FieldKind) ∷ (x, Range) ∷ (true, PathShape) ∷ [])) && true) e
moment_three v a b d h = ap (λ x. is_none (first_failed ((true, FieldCount) ∷ (true, FieldKind) ∷ (x, Range) ∷ (true, PathShape) ∷ [])) && true) h

moment_unwritten : (v : Version) (ts : Trees) → fault_of_structure v 0x49 ts ≡ None → fault_of_structure_by (Ok moment_fields) 0x49 ts ≡ None
moment_unwritten V44 ts h = h
moment_unwritten v ts h = h

-- what is read as fields that can be written has no fault
moment_fine : (v : Version) (us : Trees) → are_kinds moment_fields (typed_all us) ≡ true
    → fault_of_structure v 0x49 (typed_all us) ≡ None → all_fine (fault v) (structures (moment v us)) ≡ true
moment_fine v us k u =
    let p = passes moment_fields 0x49 (typed_all us) (moment_unwritten v (typed_all us) u) in
    of_three (λ xs. are_in_range moment_fields xs ≡ true → all_fine (fault v) (structures (moment v xs)) ≡ true) (moment_three v) us
    (sym (count_typed us) ∙ eqb-true _ _ p.0) (sym (kinds_typed moment_fields us) ∙ k) (sym (ranges_typed moment_fields us) ∙ p.1)

plain_fine : (v : Version) (tag : ℕ) (us : Trees) (r : Result (List Field) Reason) → kinds v tag ≡ r
    → fault_of_structure_by r tag (typed_all us) ≡ None → (tag == 0x46) ≡ false
    → is_row (row_in tag table) (typed_all us) ≡ true → is_none (fault v tag us) ≡ true
plain_fine v tag us (Err x) e u n r = absurd cc
plain_fine v tag us (Ok ks) e u n r =
    let p = passes ks tag (typed_all us) u in
    let a = ap (λ m. m == length ks) (sym (count_typed us)) ∙ p.0 in
    let b = sym (kinds_typed ks us) ∙ table_kinds v (row_in tag table) ks (typed_all us) e r in
    let d = ap (λ c. are_in_range ks (cond c (to_utc us) us)) n ∙ sym (ranges_typed ks us) ∙ p.1 in
    let s = ap (λ x. cond (tag == 0x50) x true) (sym (path_typed us)) ∙ p.2 in
    ap is_none (fault_is v tag us ks e ∙ wrong_is ks tag us true true true true a b d s)

structure_fine : (v : Version) (tag : ℕ) (us : Trees) (b : Bool) → (tag == 0x49) ≡ b → not (tag == 0x46) ≡ true
    → is_row (row_in tag table) (typed_all us) ≡ true → fault_of_structure v tag (typed_all us) ≡ None → all_fine (fault v) (structures_in us) ≡ true
    → all_fine (fault v) (structures (cond b (moment v us) (structure tag us))) ≡ true
structure_fine v tag us true e n r u i =
    let k = subst (λ m. is_row (row_in m table) (typed_all us) ≡ true) (eqb-true _ _ e) r in
    moment_fine v us (and_right ((count (typed_all us) == 3) || (count (typed_all us) == 3)) _ k)
    (subst (λ m. fault_of_structure v m (typed_all us) ≡ None) (eqb-true _ _ e) u)
structure_fine v tag us false e n r u i =
    let w = subst (λ c. fault_of_structure_by (kinds v (cond c (moment_tag v) tag)) tag (typed_all us) ≡ None) e u in
    both_true _ _ (plain_fine v tag us (kinds v tag) refl w (not-true _ n) r) i

-- what is typed is read back from its form, which has no fault where it can be written
mutual
  formed : (v : Version) (t : Tree) → is_typed t ≡ true → (typed (form v t) ≡ t) × (all_fine (fault_of_structure v) (structures t) ≡ true → all_fine (fault v) (structures (form v t)) ≡ true)
  formed v (list ts) k = let p = formed_all v ts k in (ap list p.0, p.1)
  formed v (dict es) k = let p = formed_under v es k in (ap dict p.0, p.1)
  formed v (structure tag ts) k =
      let n = and_left (not (tag == 0x46)) _ k in
      let m = and_right (not (tag == 0x46)) _ k in
      let p = formed_all v ts (and_right (is_row (row_in tag table) ts) _ m) in
      let row = subst (λ x. is_row (row_in tag table) x ≡ true) (sym p.0) (and_left (is_row (row_in tag table) ts) _ m) in (
        written_back v tag (form_all v ts) (tag == 0x49) refl n ∙ ap (λ us. structure tag us) p.0,
        λ h. structure_fine v tag (form_all v ts) (tag == 0x49) refl n row
            (subst (λ x. fault_of_structure v tag x ≡ None) (sym p.0) (fine_itself (fault_of_structure v) tag ts h)) (p.1 (fine_within (fault_of_structure v) tag ts h)),
      )
  formed v t k = (refl, λ h. refl)

  formed_all : (v : Version) (ts : Trees) → are_typed ts ≡ true → (typed_all (form_all v ts) ≡ ts) × (all_fine (fault_of_structure v) (structures_in ts) ≡ true → all_fine (fault v) (structures_in (form_all v ts)) ≡ true)
  formed_all v no_trees k = (refl, λ h. refl)
  formed_all v (tree_then t ts) k =
      let p = formed v t (and_left (is_typed t) _ k) in
      let q = formed_all v ts (and_right (is_typed t) _ k) in
      (cc (p.0, q.0), λ h. fine_append (fault v) (structures (form v t)) _ ∙ both_true _ _ (p.1 (fine_left (fault_of_structure v) (structures t) (structures_in ts) h)) (q.1 (fine_right (fault_of_structure v) (structures t) (structures_in ts) h)))

  formed_under : (v : Version) (es : Entries) → have_typed es ≡ true → (typed_under (form_under v es) ≡ es) × (all_fine (fault_of_structure v) (structures_under es) ≡ true → all_fine (fault v) (structures_under (form_under v es)) ≡ true)
  formed_under v no_entries k = (refl, λ h. refl)
  formed_under v (entry_then x t es) k =
      let p = formed v t (and_left (is_typed t) _ k) in
      let q = formed_under v es (and_right (is_typed t) _ k) in
      (cc (p.0, q.0), λ h. fine_append (fault v) (structures (form v t)) _ ∙ both_true _ _ (p.1 (fine_left (fault_of_structure v) (structures t) (structures_under es) h)) (q.1 (fine_right (fault_of_structure v) (structures t) (structures_under es) h)))

-- what was read is written as it was, and can be written: its tag ..
tag_back : (v : Version) (tag : ℕ) (ts us : Trees) (b : Bool) → (tag == 0x49) ≡ b → fault v tag ts ≡ None → (cond b (moment_tag v) tag ≡ tag) × (cond b (moment v us) (structure tag us) ≡ structure tag us)
tag_back V44 tag ts us true e h = absurd (let g : fault V44 0x49 ts ≡ None = fine_at V44 tag 0x49 ts (eqb-true _ _ e) h in cc)
tag_back v tag ts us false e h = (refl, refl)
tag_back v tag ts us b e h = let is = sym (eqb-true tag 0x49 e) in (is, ap (λ n. structure n us) is)

plain_writable : (v : Version) (tag : ℕ) (ts : Trees) → (tag == 0x46) ≡ false → fault v tag ts ≡ None → fault_of_structure v tag (typed_all ts) ≡ None
plain_writable v tag ts n h =
    let k = row_of v tag ts h in
    let p = passed v tag ts k.0 k.1 h in
    let ranged = ranges_typed k.0 ts ∙ ap (λ c. are_in_range k.0 (cond c (to_utc ts) ts)) (sym n) ∙ p.ranged in
    ap (λ m. fault_of_structure_by (kinds v m) tag (typed_all ts)) (tag_back v tag ts ts (tag == 0x49) refl h).0 ∙ ap (λ r. fault_of_structure_by r tag (typed_all ts)) k.1
    ∙ rw (eq-eqb _ _ (count_typed ts ∙ p.counted), ranged, ap (λ x. cond (tag == 0x50) x true) (path_typed ts) ∙ p.shaped) refl

-- .. its local seconds, which were brought to UTC ..
local_again : (v : Version) (ts : Trees) → fault v 0x46 ts ≡ None → (form v (typed (structure 0x46 ts)) ≡ structure 0x46 ts) × (all_fine (fault_of_structure v) (structures (structure 0x49 (to_utc (typed_all ts)))) ≡ true)
local_again = of_local (λ w us. (form w (typed (structure 0x46 us)) ≡ structure 0x46 us) × (all_fine (fault_of_structure w) (structures (structure 0x49 (to_utc (typed_all us)))) ≡ true)) (λ a b d r.
    (ap (λ z. structure 0x46 (three z b d)) (back_and_there a d), ap (λ x. is_none (first_failed ((true, NotInVersion) ∷ (x, Range) ∷ (true, PathShape) ∷ [])) && true) r))

structure_again : (v : Version) (tag : ℕ) (ts : Trees) (b : Bool) → (tag == 0x46) ≡ b → fault v tag ts ≡ None → (form_all v (typed_all ts) ≡ ts) × (all_fine (fault_of_structure v) (structures_in (typed_all ts)) ≡ true)
    → (form v (structure (cond b 0x49 tag) (cond b (to_utc (typed_all ts)) (typed_all ts))) ≡ structure tag ts) × (all_fine (fault_of_structure v) (structures (structure (cond b 0x49 tag) (cond b (to_utc (typed_all ts)) (typed_all ts)))) ≡ true)
structure_again v tag ts true e h i = let is = eqb-true tag 0x46 e in let p = local_again v ts (fine_at v tag 0x46 ts is h) in (p.0 ∙ ap (λ n. structure n ts) (sym is), p.1)
structure_again v tag ts false e h i = ((tag_back v tag ts _ (tag == 0x49) refl h).1 ∙ ap (λ us. structure tag us) i.0, both_true _ _ (ap is_none (plain_writable v tag ts e h)) i.1)

-- .. and each value inside
mutual
  pub read_again : (v : Version) (t : Tree) → all_fine (fault v) (structures t) ≡ true → (form v (typed t) ≡ t) × (all_fine (fault_of_structure v) (structures (typed t)) ≡ true)
  read_again v (list ts) h = let p = all_again v ts h in (ap list p.0, p.1)
  read_again v (dict es) h = let p = under_again v es h in (ap dict p.0, p.1)
  read_again v (structure tag ts) h = structure_again v tag ts (tag == 0x46) refl (fine_itself (fault v) tag ts h) (all_again v ts (fine_within (fault v) tag ts h))
  read_again v t h = (refl, refl)

  all_again : (v : Version) (ts : Trees) → all_fine (fault v) (structures_in ts) ≡ true → (form_all v (typed_all ts) ≡ ts) × (all_fine (fault_of_structure v) (structures_in (typed_all ts)) ≡ true)
  all_again v no_trees h = (refl, refl)
  all_again v (tree_then t ts) h =
      let p = read_again v t (fine_left (fault v) (structures t) (structures_in ts) h) in
      let q = all_again v ts (fine_right (fault v) (structures t) (structures_in ts) h) in
      (cc (p.0, q.0), fine_append (fault_of_structure v) (structures (typed t)) _ ∙ both_true _ _ p.1 q.1)

  under_again : (v : Version) (es : Entries) → all_fine (fault v) (structures_under es) ≡ true → (form_under v (typed_under es) ≡ es) × (all_fine (fault_of_structure v) (structures_under (typed_under es)) ≡ true)
  under_again v no_entries h = (refl, refl)
  under_again v (entry_then k t es) h =
      let p = read_again v t (fine_left (fault v) (structures t) (structures_under es) h) in
      let q = under_again v es (fine_right (fault v) (structures t) (structures_under es) h) in
      (cc (p.0, q.0), fine_append (fault_of_structure v) (structures (typed t)) _ ∙ both_true _ _ p.1 q.1)

pub again : (v : Version) (t : Tree) → all_fine (fault v) (structures t) ≡ true → form v (typed t) ≡ t
again v t h = (read_again v t h).0

-- the form of what can be written
pub form_typed : (v : Version) (s : Tree) → is_typed s ≡ true → all_fine (fault_of_structure v) (structures s) ≡ true → Form v s (form v s)
form_typed v s k h = let p = formed v s k in (scan_fine (fault v) 0 (structures (form v s)) (p.1 h), sym p.0)

pub form_is : (v : Version) (c : Cell) → all_fine (fault_of_structure v) (structures (shape c)) ≡ true → Form v (shape c) (form v (shape c))
form_is v c h = form_typed v (shape c) (typed_shape c) h

-- what is written is read back, and is the form of its cell
pub back_is : (v : Version) (c : Cell) → typed (form v (shape c)) ≡ shape c
back_is v c = (formed v (shape c) (typed_shape c)).0

pub form_of : (v : Version) (c : Cell) → IsWritable v (shape c) → Form v (shape c) (form v (shape c))
form_of v c w = form_is v c (fine_scan (fault_of_structure v) 0 w.0 (structures (shape c)) w.1)

-- what was looked through without a fault
pub writable_when : (v : Version) (s : Tree) (n : ℕ) → Ok n ≡ scan (fault_of_structure v) 0 (structures s) → IsWritable v s
writable_when v s n e = (n, sym e)

-- the sum of a DateTime that can be written
pub local_sum : (v : Version) (u n o : ℤ) → fault_of_structure v 0x49 (three u n o) ≡ None
    → (neg_ℤ (pos 100000000000064800) ≤ℤ (u +ℤ o)) × ((u +ℤ o) ≤ℤ pos 100000000000064800)
local_sum v u n o h =
    let r = (passes moment_fields 0x49 (three u n o) (moment_unwritten v (three u n o) h)).1 in
    grind (arith, ints)

its_form : (v : Version) (s t : Tree) → is_typed s ≡ true → IsWritable v s → t ≡ form v s → Form v s t
its_form v s t k w e = subst (λ x. Form v s x) (sym e) (form_typed v s k (fine_scan (fault_of_structure v) 0 w.0 (structures s) w.1))

-- what is written of a cell
pub packed_is : (v : Version) (s t : Tree) (r : Result Tree CellFault) → is_typed s ≡ true → IsWritable v s → t ≡ form v s → Packs t r → Writes v s r
packed_is v s t (Ok u) k w e p = record { writable = w; formed = its_form v s u k w (p.0 ∙ e); good = subst IsGood (sym p.0) p.1 }
packed_is v s t (Err (told.Refused r n)) k w e p = absurd p
packed_is v s t (Err told.Memory) k w e p = absurd p
packed_is v s t (Err (told.Pack r o)) k w e p = record { value = t; writable = w; formed = its_form v s t k w e; unpacked = p }
