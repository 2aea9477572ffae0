-- The fields of a structure, and the row that it has where it has no fault.
use Rattle.std.proofs.Common.{◌≡◌, ◌++◌, take, ℤ, pos, neg_ℤ, ◌-ℤ◌, ◌≤ℤ◌, int_le, ℕ, suc, zero, ◌+◌, ◌<◌, ◌≤◌, List, [], ◌∷◌, map, length, get_or, append-nil, length-append, add-one, Bool, true, false, ◌&&◌, ◌==◌, cond, Some, None, Ok, Err, refl, sym, ap, ◌∙◌, arith, eqb-true, subst, Vec, Global, String}
use Rattle.std.proofs.lemmas.Int.{ints}
use Rattle.std.proofs.lemmas.List.{map_push, take_all}
use Rattle.structures.proofs.Prelude.{Nodes, Relationships, Indices, Tree, null, int, list, dict, structure, Trees, no_trees, tree_then, entry_then, count, tree, trees, trees_of, entries_of, seen_entries, Value, ListValue, DictValue, StructValue, len_trees, tree-List, tree-Dict, tree-Struct, Version, V44, has_element_ids, every_version, Field, Reason, NotInVersion, row, row_in, table, fields_in, fields_at, fields_of, kinds, moment_fields, to_utc, each, is_kind, are_kinds, are_in_range, utc_fields, is_path, first_failed, fault_is, fault, fault_by, has_tag, is_list_of, and_left, and_right, shape-Date, shape-Time, shape-LocalTime, shape-LocalDateTime, shape-DateTime, Pair, entries, fine_itself, fine_within, fine_member, typed, typed_all, typed_under, three, tree_at, Got, Follows, typed_entry, IsSound, AreSound, with_fields}
use Rattle.structures.specs.Fitting.{trees_in_order}

pub at_some : (xs : List Value) (i : ℕ) (d : Value) → i < length xs → d ≡ get_or xs i d → tree_at i (trees_of (trees xs)) ≡ tree d
at_some [] i d h e = absurd (omega arith)
at_some (x ∷ xs) zero d h e = ap tree (sym e)
at_some (x ∷ xs) (suc i) d h e = at_some xs i d (omega arith) e

pub at_none : (xs : List Value) (i : ℕ) → length xs ≤ i → tree_at i (trees_of (trees xs)) ≡ null
at_none [] i h = refl
at_none (x ∷ xs) zero h = absurd (omega arith)
at_none (x ∷ xs) (suc i) h = at_none xs i (omega arith)

got_tail : (i : ℕ) (ks : List Field) (us : Trees) (t : Tree) (ts : Trees) → Got (suc i) ks us (tree_then t ts) → Got i ks us ts
got_tail i [] us t ts h = h
got_tail i (k ∷ ks) no_trees t ts h = h
got_tail i (k ∷ ks) (tree_then u us) t ts h = (h.0, got_tail (suc i) ks us t ts h.1)

-- fields read by a list of kinds are the structure's fields
pub fields_are : (ks : List Field) (us ts : Trees) → count ts ≡ length ks → count us ≡ length ks → are_kinds ks ts ≡ true → Got 0 ks us ts → us ≡ typed_all ts
fields_are [] no_trees no_trees n m h g = refl
fields_are (k ∷ ks) (tree_then u us) (tree_then t ts) n m h g =
    let e : u ≡ typed t = g.0 (and_left _ _ h) in
    let r = fields_are ks us ts (omega arith) (omega arith) (and_right _ _ h) (got_tail 0 ks us t ts g.1) in
    ap (λ x. tree_then x us) e ∙ ap (λ x. tree_then (typed t) x) r
fields_are ks us ts n m h g = absurd cc

-- tests that all pass
pub all_pass : (a b d e : Bool) (q r s u : Reason) → first_failed ((a, q) ∷ (b, r) ∷ (d, s) ∷ (e, u) ∷ []) ≡ None → (a ≡ true) × (b ≡ true) × (d ≡ true) × (e ≡ true)
all_pass a b d e q r s u h = grind arith

pub record Passed (ks : List Field) (tag : ℕ) (ts : Trees) : Type 0 where
  pub counted : count ts ≡ length ks
  pub kinded : are_kinds ks ts ≡ true
  pub ranged : are_in_range ks (utc_fields tag ts) ≡ true
  pub shaped : cond (tag == 0x50) (is_path ts) true ≡ true

pub passed : (v : Version) (tag : ℕ) (ts : Trees) (ks : List Field) → kinds v tag ≡ Ok ks → fault v tag ts ≡ None → Passed ks tag ts
passed v tag ts ks e h =
    let p = all_pass (count ts == length ks) (are_kinds ks ts) (are_in_range ks (utc_fields tag ts)) (cond (tag == 0x50) (is_path ts) true) _ _ _ _ (sym (fault_is v tag ts ks e) ∙ h) in
    record { counted = eqb-true _ _ p.0; kinded = p.1; ranged = p.2; shaped = p.3 }

-- a row that has fields at a version stands there
pub stood : (v : Version) (s : Version → Bool) (fs more ks : List Field) → fields_at v s fs more ≡ Ok ks → (s v ≡ true) × (ks ≡ fields_in v fs more)
stood v s fs more ks e = grind arith

-- a row that stands at a version has its fields there
pub stands_is : (v : Version) (s : Version → Bool) (fs more : List Field) → s v ≡ true → fields_at v s fs more ≡ Ok (fields_in v fs more)
stands_is v s fs more h = ap (λ b. cond b (Ok (fields_in v fs more)) (Err NotInVersion)) h

-- a structure without a fault has a row
pub row_of : (v : Version) (tag : ℕ) (ts : Trees) → fault v tag ts ≡ None → (ks : List Field) × (kinds v tag ≡ Ok ks)
row_of v tag ts = elim (kinds v tag) as (λ r. fault_by r tag ts ≡ None → (ks : List Field) × (r ≡ Ok ks)) [ Ok ks ↦ λ h. (ks, refl) | Err x ↦ λ h. absurd cc ]

-- the fields of a row that adds none, at a version where it stands
pub at_row : (v : Version) (tag : ℕ) (stands : Version → Bool) (fs : List Field) → row_in tag table ≡ Some (row tag stands fs []) → stands v ≡ true → kinds v tag ≡ Ok fs
at_row v tag stands fs e s = ap (fields_of v) e ∙ stands_is v stands fs [] s ∙ ap Ok (elim (has_element_ids v) as (λ b. cond b (fs ++ []) fs ≡ fs) [ true ↦ append-nil fs | false ↦ refl ])

-- no fault, at the tag by another name
pub fine_at : (v : Version) (tag k : ℕ) (ts : Trees) → tag ≡ k → fault v tag ts ≡ None → fault v k ts ≡ None
fine_at v tag k ts is h = subst (λ m. fault v m ts ≡ None) is h

-- a structure without a fault, and each value inside it
pub sound_itself : (tag : ℕ) (ts : Trees) (s : IsSound (structure tag ts)) → fault s.version tag ts ≡ None
sound_itself tag ts s = fine_itself (fault s.version) tag ts s.fine

pub sound_within : (tag : ℕ) (ts : Trees) → IsSound (structure tag ts) → IsSound (list ts)
sound_within tag ts s = record { version = s.version; fine = fine_within (fault s.version) tag ts s.fine }

pub sound_member : (xs : List Value) (i : ℕ) (d : Value) → i < length xs → d ≡ get_or xs i d → AreSound xs → IsSound (tree d)
sound_member xs i d h e s = record { version = s.version; fine = fine_member tree (fault s.version) xs i d h e s.fine }

-- a row stands where a structure of its tag has no fault
pub at_fine : (v : Version) (tag : ℕ) (stands : Version → Bool) (fs : List Field) (ts : Trees) → row_in tag table ≡ Some (row tag stands fs []) → fault v tag ts ≡ None → kinds v tag ≡ Ok fs
at_fine v tag stands fs ts e h = let k = row_of v tag ts h in at_row v tag stands fs e (stood v stands fs [] k.0 (sym (ap (fields_of v) e) ∙ k.1)).0

pub read_by : (v : Version) (tag : ℕ) (ts us : Trees) (ks : List Field) → kinds v tag ≡ Ok ks → fault v tag ts ≡ None → count us ≡ length ks → Got 0 ks us ts → us ≡ typed_all ts
read_by v tag ts us ks e h n g = let p = passed v tag ts ks e h in fields_are ks us ts p.counted n p.kinded g

pub between : (low high z : ℤ) → (int_le low z && int_le z high) ≡ true → (low ≤ℤ z) × (z ≤ℤ high)
between low high z h = grind (arith, ints)

-- what holds of any three numbers holds of what passes as the fields of a DateTime
pub of_three : (P : Trees → Type 0) → ((a b d : ℤ) → P (three a b d)) → (ts : Trees) → count ts ≡ 3 → are_kinds moment_fields ts ≡ true → P ts
of_three P all (tree_then (int a) (tree_then (int b) (tree_then (int d) no_trees))) n h = all a b d
of_three P all (tree_then (int a) (tree_then (int b) (tree_then (int d) (tree_then e ts)))) n h = absurd (omega arith)
of_three P all ts n h = absurd cc

-- local seconds without a fault are of version 4.4, and in range at UTC
pub of_local : (P : Version → Trees → Type 0) → ((a b d : ℤ) → are_in_range moment_fields (to_utc (three a b d)) ≡ true → P V44 (three a b d)) → (v : Version) (ts : Trees) → fault v 0x46 ts ≡ None → P v ts
of_local P all V44 ts h = let p = passed V44 0x46 ts moment_fields refl h in of_three (λ us. are_in_range moment_fields (to_utc us) ≡ true → P V44 us) all ts p.counted p.kinded p.ranged
of_local P all v ts h = absurd cc

-- seconds at UTC are in range
abbrev pub IsUtc : ℤ → ℤ → Type 0
IsUtc s o = (neg_ℤ (pos 100000000000000000) ≤ℤ (s -ℤ o)) × ((s -ℤ o) ≤ℤ pos 100000000000000000)

-- a structure without local seconds, by its fields
pub plain_is : (tag k : ℕ) (ks : List Field) (stands : Version → Bool) (ts us : Trees) → tag ≡ k → row_in k table ≡ Some (row k stands ks []) → (k == 0x46) ≡ false → IsSound (structure tag ts) → count us ≡ length ks → Got 0 ks us ts → structure k us ≡ typed (structure tag ts)
plain_is tag k ks stands ts us is e other s n g =
    let f = fine_at s.version tag k ts is (sound_itself tag ts s) in
    let same : structure k (typed_all ts) ≡ typed (structure k ts) = rw other refl in
    ap (λ (x : Trees). structure k x) (read_by s.version k ts us ks (at_fine s.version k stands ks ts e f) f n g) ∙ same ∙ ap (λ (m : ℕ). typed (structure m ts)) (sym is)

pub ruleset shapes = (shape-Date, shape-Time, shape-LocalTime, shape-LocalDateTime, shape-DateTime)

-- local seconds, nanoseconds and offset, by the fields
pub local_is : (tag : ℕ) (ts : Trees) (s n o : ℤ) → tag ≡ 0x46 → IsSound (structure tag ts) → Got 0 moment_fields (three s n o) ts → (structure 0x49 (three (s -ℤ o) n o) ≡ typed (structure tag ts)) × IsUtc s o
local_is tag ts s n o is h g =
    let e = of_local (λ w us. Got 0 moment_fields (three s n o) us → (structure 0x49 (three (s -ℤ o) n o) ≡ typed (structure 0x46 us)) × IsUtc s o) (λ a b d r k.
    let same : three s n o ≡ three a b d = rw (k.0 refl, k.1.0 refl, k.1.1.0 refl) refl in
    (ap (λ (us : Trees). structure 0x49 (to_utc us)) same, between (neg_ℤ (pos 100000000000000000)) (pos 100000000000000000) (s -ℤ o) (and_left _ _ (ap (λ (us : Trees). are_in_range moment_fields (to_utc us)) same ∙ r)))) h.version ts (fine_at h.version tag 0x46 ts is (sound_itself tag ts h)) g in
    (e.0 ∙ ap (λ (m : ℕ). typed (structure m ts)) (sym is), e.1)

pub typed_list : (ts : List Tree) → typed_all (trees_of ts) ≡ trees_of (map typed ts)
typed_list [] = refl
typed_list (t ∷ ts) = ap (λ x. tree_then (typed t) x) (typed_list ts)

typed_pairs : (es : List (List ℕ × Tree)) → typed_under (entries_of es) ≡ entries_of (map typed_entry es)
typed_pairs [] = refl
typed_pairs (e ∷ es) = ap (λ r. entry_then e.0 (typed e.1) r) (typed_pairs es)

-- a dictionary whose entries were read
pub dict_read : (d : Value) (xs : Vec (String Global × Value) Global) (ps : List Pair) → d ≡ DictValue xs → entries ps ≡ map typed_entry (seen_entries xs.items) → dict (entries_of (entries ps)) ≡ typed (tree d)
dict_read d xs ps is e = ap (λ es. dict (entries_of es)) e ∙ ap dict (sym (typed_pairs (seen_entries xs.items))) ∙ ap typed (sym (ap tree is ∙ tree-Dict xs))

-- a test of each member, at one of them
pub each_at : (p : Tree → Bool) (xs : List Value) (i : ℕ) → i < length xs → each p (trees_of (trees xs)) ≡ true → p (tree_at i (trees_of (trees xs))) ≡ true
each_at p [] i h a = absurd (omega arith)
each_at p (x ∷ xs) zero h a = and_left _ _ a
each_at p (x ∷ xs) (suc i) h a = each_at p xs i (omega arith) (and_right _ _ a)

-- the members of a list that pass the test are read one by one, up to a place
abbrev pub ReadTo : {A : Type 0} → (Tree → Bool) → (A → Tree) → List Value → ℕ → List A → Type 0
ReadTo p see xs i ys = each p (trees_of (trees xs)) ≡ true → map see ys ≡ map typed (trees (take i xs))

read_more : (xs : List Value) (i : ℕ) → i < length xs → map typed (trees (take (suc i) xs)) ≡ map typed (trees (take i xs)) ++ typed (tree_at i (trees_of (trees xs))) ∷ []
read_more [] i h = absurd (omega arith)
read_more (x ∷ xs) zero h = refl
read_more (x ∷ xs) (suc i) h = ap (λ ts. typed (tree x) ∷ ts) (read_more xs i (omega arith))

-- one more member read
pub read_next : {A : Type 0} (p : Tree → Bool) (see : A → Tree) (old new : List A) (x : A) (xs : List Value) (i : ℕ) → i < length xs → new ≡ old ++ x ∷ [] → (p (tree_at i (trees_of (trees xs))) ≡ true → see x ≡ typed (tree_at i (trees_of (trees xs)))) → ReadTo p see xs i old → ReadTo p see xs (i + 1) new
read_next p see old new x xs i h n is o all =
    ap (map see) n ∙ map_push see old x ∙ rw (o all, is (each_at p xs i h all)) (sym (ap (λ m. map typed (trees (take m xs))) (add-one i) ∙ read_more xs i h))

-- the members of a list, when all are read
pub list_read : {A : Type 0} (p : Tree → Bool) (see : A → Tree) (v : Value) (xs : Vec Value Global) (zs : List Value) (ys : List A) (n : ℕ) → v ≡ ListValue xs → zs ≡ xs.items → length zs ≤ n
    → ReadTo p see zs n ys → is_list_of p (tree v) ≡ true → list (trees_of (map see ys)) ≡ typed (tree v)
list_read p see v xs zs ys n is same all r h =
    let e = ap tree is ∙ tree-List xs ∙ ap (λ us. list (trees_of (trees us))) (sym same) in
    let m = r (sym (ap (is_list_of p) e) ∙ h) ∙ ap (λ us. map typed (trees us)) (take_all n zs all) in
    ap (λ ts. list (trees_of ts)) m ∙ ap list (sym (typed_list (trees zs))) ∙ ap typed (sym e)

-- a member of a list of structures with one tag has that tag
pub tag_at : (k : ℕ) (v d : Value) (xs : Vec Value Global) (zs : List Value) (i : ℕ) → v ≡ ListValue xs → zs ≡ xs.items → i < length zs → d ≡ get_or zs i d
    → is_list_of (has_tag k) (tree v) ≡ true → has_tag k (tree d) ≡ true
tag_at k v d xs zs i is same lt at g =
    let e = ap tree is ∙ tree-List xs ∙ ap (λ us. list (trees_of (trees us))) (sym same) in
    sym (ap (has_tag k) (at_some zs i d lt at)) ∙ each_at (has_tag k) zs i lt (sym (ap (is_list_of (has_tag k)) e) ∙ g)

-- and its fields, and no fault
pub tagged_at : (k tag : ℕ) (v d : Value) (xs ys : Vec Value Global) (zs : List Value) (i : ℕ) → v ≡ ListValue xs → zs ≡ xs.items → d ≡ StructValue tag ys → i < length zs → d ≡ get_or zs i d → IsSound (tree v)
    → is_list_of (has_tag k) (tree v) ≡ true → IsSound (with_fields k ys.items) × (tree_at i (trees_of (trees zs)) ≡ with_fields k ys.items)
tagged_at k tag v d xs ys zs i is same di lt at s g =
    let e = ap tree di ∙ tree-Struct tag ys in
    let n : tag ≡ k = eqb-true _ _ (sym (ap (has_tag k) e) ∙ tag_at k v d xs zs i is same lt at g) in
    let m = subst IsSound (ap tree di ∙ tree-Struct tag ys) (sound_member zs i d lt at (subst AreSound (sym same) (subst IsSound (ap tree is ∙ tree-List xs) s))) in
    (subst (λ q. IsSound (with_fields q ys.items)) n m, at_some zs i d lt at ∙ e ∙ ap (λ q. with_fields q ys.items) n)

-- what passes as the three fields of a path
path_passed : (xs : List Value) (s : IsSound (with_fields 0x50 xs)) → Passed (Nodes ∷ Relationships ∷ Indices ∷ []) 0x50 (trees_of (trees xs))
path_passed xs s = passed s.version 0x50 (trees_of (trees xs)) _ (at_row s.version 0x50 every_version _ refl refl) (sound_itself 0x50 _ s)

pub path_length : (xs : List Value) → IsSound (with_fields 0x50 xs) → length xs ≡ 3
path_length xs s = sym (len_trees xs) ∙ (path_passed xs s).counted

-- the fields of a path, by their kinds
pub kinds_at : (ts : Trees) → count ts ≡ 3 → are_kinds (Nodes ∷ Relationships ∷ Indices ∷ []) ts ≡ true → (is_kind Nodes (tree_at 0 ts) ≡ true) × (is_kind Relationships (tree_at 1 ts) ≡ true) × (is_kind Indices (tree_at 2 ts) ≡ true)
kinds_at (tree_then a (tree_then b (tree_then d ts))) n h = (and_left _ _ h, and_left _ _ (and_right _ _ h), and_left _ _ (and_right _ _ (and_right _ _ h)))
kinds_at ts n h = absurd cc

pub path_kinds : (xs : List Value) → IsSound (with_fields 0x50 xs) → (is_kind Nodes (tree_at 0 (trees_of (trees xs))) ≡ true) × (is_kind Relationships (tree_at 1 (trees_of (trees xs))) ≡ true) × (is_kind Indices (tree_at 2 (trees_of (trees xs))) ≡ true)
path_kinds xs s = kinds_at (trees_of (trees xs)) (path_passed xs s).counted (path_passed xs s).kinded

got_append : (i n : ℕ) (fs more : List Field) (us es ts : Trees) → n ≡ i + length fs → count us ≡ length fs → Got i fs us ts → Got n more es ts → Got i (fs ++ more) (trees_in_order us es) ts
got_append i n [] more no_trees es ts e c g h = subst (λ m. Got m more es ts) (let same : n ≡ i = omega (arith, e) in same) h
got_append i n (f ∷ fs) more (tree_then u us) es ts e c g h = (g.0, got_append (suc i) n fs more us es ts (omega (arith, e)) (omega (arith, c)) g.1 h)
got_append i n fs more us es ts e c g h = absurd cc

count_order : (us es : Trees) → count (trees_in_order us es) ≡ count us + count es
count_order no_trees es = omega arith
count_order (tree_then u us) es = omega (arith, count_order us es)

order_nil : (us : Trees) → trees_in_order us no_trees ≡ us
order_nil no_trees = refl
order_nil (tree_then u us) = ap (λ x. tree_then u x) (order_nil us)

-- the fields of a structure, and those that come with element ids
pub added_is : (tag : ℕ) (fs : List Field) (k : Field) (ks : List Field) (us es : Trees) (xs : List Value) → row_in tag table ≡ Some (row tag every_version fs (k ∷ ks)) → (tag == 0x46) ≡ false → count us ≡ length fs
    → Got 0 fs us (trees_of (trees xs)) → Follows xs (length fs) (k ∷ ks) es → IsSound (with_fields tag xs) → structure tag (trees_in_order us es) ≡ typed (with_fields tag xs)
added_is tag fs k ks us es xs e other n g f s = ap (structure tag) (go (has_element_ids s.version) (ap (fields_of s.version) e)) ∙ rw other refl
  where
    go : (b : Bool) → kinds s.version tag ≡ Ok (cond b (fs ++ k ∷ ks) fs) → trees_in_order us es ≡ typed_all (trees_of (trees xs))
    go false a =
        let h = sound_itself tag (trees_of (trees xs)) s in
        let p = passed s.version tag (trees_of (trees xs)) fs a h in
        ap (trees_in_order us) (f.absent (sym (len_trees xs) ∙ p.counted)) ∙ order_nil us ∙ read_by s.version tag (trees_of (trees xs)) us fs a h n g
    go true a =
        let h = sound_itself tag (trees_of (trees xs)) s in
        let p = passed s.version tag (trees_of (trees xs)) (fs ++ k ∷ ks) a h in
        let more : length fs < length xs = omega (arith, len_trees xs, p.counted, length-append fs (k ∷ ks)) in
        read_by s.version tag (trees_of (trees xs)) _ (fs ++ k ∷ ks) a h (omega (arith, count_order us es, n, f.counted more, length-append fs (k ∷ ks)))
        (got_append 0 (length fs) fs (k ∷ ks) us es _ (omega arith) n g (f.got more))
