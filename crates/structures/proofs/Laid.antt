-- What a value is read as is what the rows of the table lay out: a cell and its value are one relation, by reading and by the rows.
use Rattle.std.proofs.Common.{◌≡◌, ℕ, zero, suc, ◌+◌, ◌≤◌, ℤ, pos, neg_ℤ, nat_abs, ◌≤ℤ◌, int_le, nat_lt, nat_le, List, [], ◌∷◌, ◌++◌, length, Bool, true, false, cond, ◌&&◌, ◌==◌, Option, None, Some, Ok, refl, ap, sym, subst, ◌∙◌, arith, eqb-true, ne_eqb, ◌≢◌, ◌↔◌, ◌+ℤ◌, ◌-ℤ◌, is_none, eq-eqb, Contains}
use Rattle.std.proofs.lemmas.Int.{ints}
use Rattle.std.proofs.lemmas.Bool.{leb-true, le-leb, ltb-true, lt-ltb}
use Rattle.structures.proofs.Prelude.{Tree, int, float, text, list, dict, structure, Trees, no_trees, tree_then, Entries, no_entries, entry_then, count, Version, every_version, Field, Integer, Nanosecond, DayNanosecond, Offset, UtcSecond, Float, Text, Labels, Properties, Nodes, Relationships, Indices, has_element_ids, Row, table, row_in, fields_of, kinds, is_int, is_text, has_tag, each, is_kind, are_kinds, in_range, are_in_range, is_relationship, is_walk, is_path, moment_fields, to_utc, fault, structures, structures_in, structures_under, all_fine, and_left, and_right, both_true, three, Form, typed, typed_all, typed_under, V44, fault_is, wrong_is, fine_scan, scan_fine, fine_append, fine_itself, fine_within, fine_left, fine_right}
use Rattle.structures.specs.Prelude.{AreMade, none_made, then_made, OfKind, any_whole, within_second, within_day, within_offset, within_utc, any_number, any_text, any_labels, any_properties, any_nodes, any_relationships, any_indices, OfKinds, no_kinds, then_kind, Walks, no_steps, then_step, IsShaped, no_path, a_path, HasRow, row_alone, row_with_ids, IsForm, of_null, of_boolean, of_int, of_float, of_bytes, of_text, of_list, of_dict, of_structure, of_local_seconds, AreForms, no_forms, then_form, HaveForms, no_entry_forms, then_entry_form}
use Rattle.structures.proofs.Got.{between, of_local, stood, stands_is, row_of, passed, at_row, kinds_at}
use Rattle.structures.proofs.Formed.{there_and_back, back_and_there}
use Rattle.std.proofs.lemmas.List.{length-append}

-- A number in a range passes its test.
within : (low high z : ℤ) → low ≤ℤ z → z ≤ℤ high → (int_le low z && int_le z high) ≡ true
within low high z l h = both_true (int_le low z) (int_le z high) (grind (arith, ints)) (grind (arith, ints))

-- Members that are made in one way, and pass its test.
made : {A : Type 0} (make : A → Tree) (p : Tree → Bool) → ((t : Tree) → p t ≡ true → (x : A) × (t ≡ make x)) → (ts : Trees) → each p ts ≡ true → AreMade A make ts
made make p f no_trees h = none_made
made make p f (tree_then t ts) h =
    let x = f t (and_left (p t) _ h) in
    subst (λ u. AreMade _ make (tree_then u ts)) (sym x.1) (then_made x.0 ts (made make p f ts (and_right (p t) _ h)))

made_pass : {A : Type 0} (make : A → Tree) (p : Tree → Bool) → ((x : A) → p (make x) ≡ true) → (ts : Trees) → AreMade A make ts → each p ts ≡ true
made_pass make p f _ none_made = refl
made_pass make p f _ (then_made x ts h) = both_true _ _ (f x) (made_pass make p f ts h)

-- What a field of a kind holds.
kind_laid : (k : Field) (t : Tree) → is_kind k t ≡ true → in_range k t ≡ true → OfKind k t
kind_laid Integer (int z) h r = any_whole z
kind_laid Nanosecond (int z) h r = let p = between (pos 0) (pos 999999999) z r in within_second z p.0 p.1
kind_laid DayNanosecond (int z) h r = let p = between (pos 0) (pos 86399999999999) z r in within_day z p.0 p.1
kind_laid Offset (int z) h r = let p = between (neg_ℤ (pos 64800)) (pos 64800) z r in within_offset z p.0 p.1
kind_laid UtcSecond (int z) h r = let p = between (neg_ℤ (pos 100000000000000000)) (pos 100000000000000000) z r in within_utc z p.0 p.1
kind_laid Float (float n) h r = any_number n
kind_laid Text (text s) h r = any_text s
kind_laid Labels (list ts) h r = any_labels ts (made text is_text (elim [ text s ↦ λ g. (s, refl) | t ↦ λ g. absurd cc ]) ts h)
kind_laid Properties (dict es) h r = any_properties es
kind_laid Nodes (list ts) h r = any_nodes ts (made (structure 0x4E) (has_tag 0x4E) (elim [ structure tag us ↦ λ g. (us, ap (λ n. structure n us) (eqb-true tag 0x4E g)) | t ↦ λ g. absurd cc ]) ts h)
kind_laid Relationships (list ts) h r = any_relationships ts (made (structure 0x72) (has_tag 0x72) (elim [ structure tag us ↦ λ g. (us, ap (λ n. structure n us) (eqb-true tag 0x72 g)) | t ↦ λ g. absurd cc ]) ts h)
kind_laid Indices (list ts) h r = any_indices ts (made int is_int (elim [ int z ↦ λ g. (z, refl) | t ↦ λ g. absurd cc ]) ts h)
kind_laid k t h r = absurd cc

kind_is : (k : Field) (t : Tree) → OfKind k t → (is_kind k t ≡ true) × (in_range k t ≡ true)
kind_is _ _ (within_second z l h) = (refl, within _ _ z l h)
kind_is _ _ (within_day z l h) = (refl, within _ _ z l h)
kind_is _ _ (within_offset z l h) = (refl, within _ _ z l h)
kind_is _ _ (within_utc z l h) = (refl, within _ _ z l h)
kind_is _ _ (any_labels ts m) = (made_pass text is_text (λ s. refl) ts m, refl)
kind_is _ _ (any_nodes ts m) = (made_pass (structure 0x4E) (has_tag 0x4E) (λ us. refl) ts m, refl)
kind_is _ _ (any_relationships ts m) = (made_pass (structure 0x72) (has_tag 0x72) (λ us. refl) ts m, refl)
kind_is _ _ (any_indices ts m) = (made_pass int is_int (λ z. refl) ts m, refl)
kind_is k t h = (refl, refl)

kinds_laid : (ks : List Field) (ts : Trees) → count ts ≡ length ks → are_kinds ks ts ≡ true → are_in_range ks ts ≡ true → OfKinds ks ts
kinds_laid [] no_trees n h r = no_kinds
kinds_laid (k ∷ ks) (tree_then t ts) n h r =
    then_kind k ks t ts (kind_laid k t (and_left (is_kind k t) _ h) (and_left (in_range k t) _ r)) (kinds_laid ks ts (omega (arith, n)) (and_right (is_kind k t) _ h) (and_right (in_range k t) _ r))
kinds_laid ks ts n h r = absurd cc

-- fields of these kinds in number, kind and range
record AreOf (ks : List Field) (ts : Trees) : Type 0 where
  pub counted : count ts ≡ length ks
  pub kinded : are_kinds ks ts ≡ true
  pub ranged : are_in_range ks ts ≡ true

kinds_are : (ks : List Field) (ts : Trees) → OfKinds ks ts → AreOf ks ts
kinds_are _ _ no_kinds = record { counted = refl; kinded = refl; ranged = refl }
kinds_are _ _ (then_kind k ks t ts h r) =
    let p = kind_is k t h in
    let q = kinds_are ks ts r in
    record { counted = ap suc q.counted; kinded = both_true _ _ p.0 q.kinded; ranged = both_true _ _ p.1 q.ranged }

-- The steps of a path.
walk_laid : (n m : ℕ) (ts : Trees) → each is_int ts ≡ true → is_walk n m true ts ≡ true → Walks n m ts
walk_laid n m no_trees i h = no_steps
walk_laid n m (tree_then (int z) (tree_then (int (pos k)) ts)) i h =
    let s = and_left (is_relationship m (int z)) _ h in
    let r = and_right (is_relationship m (int z)) _ h in
    then_step z k ts (ltb-true 0 (nat_abs z) (and_left (nat_lt 0 (nat_abs z)) _ s)) (leb-true _ _ (and_right (nat_lt 0 (nat_abs z)) _ s)) (ltb-true k n (and_left (nat_lt k n) _ r)) (walk_laid n m ts i (and_right (nat_lt k n) _ r))
walk_laid n m (tree_then t ts) i h = absurd (let f = and_right (is_relationship m t) _ h in cc)

walk_is : (n m : ℕ) (ts : Trees) → Walks n m ts → is_walk n m true ts ≡ true
walk_is n m _ no_steps = refl
walk_is n m _ (then_step z i ts a b d w) = both_true _ _ (both_true _ _ (lt-ltb 0 (nat_abs z) a) (le-leb _ _ b)) (both_true _ _ (lt-ltb i n d) (walk_is n m ts w))

path_laid : (ts : Trees) → count ts ≡ 3 → are_kinds (Nodes ∷ Relationships ∷ Indices ∷ []) ts ≡ true → is_path ts ≡ true → IsShaped 0x50 ts
path_laid (tree_then (list a) (tree_then (list b) (tree_then (list d) no_trees))) n k h =
    a_path a b d (ltb-true 0 (count a) (and_left (nat_lt 0 (count a)) _ h)) (walk_laid (count a) (count b) d (kinds_at (tree_then (list a) (tree_then (list b) (tree_then (list d) no_trees))) n k).2 (and_right (nat_lt 0 (count a)) _ h))
path_laid (tree_then t (tree_then u (tree_then w (tree_then x ts)))) n k h = absurd (omega (arith, n))
path_laid ts n k h = absurd (let p = kinds_at ts n k in cc)

shaped_is : (tag : ℕ) (ts : Trees) → IsShaped tag ts → cond (tag == 0x50) (is_path ts) true ≡ true
shaped_is _ _ (no_path tag ts n) = ap (λ b. cond b (is_path ts) true) (ne_eqb tag 0x50 n)
shaped_is _ _ (a_path nodes relationships steps h w) = both_true _ _ (lt-ltb 0 (count nodes) h) (walk_is (count nodes) (count relationships) steps w)

-- The rows of the table.
-- each of these rows
abbrev Each : (Row → Type 0) → List Row → Type 0
Each P [] = Unit {0}
Each P (r ∷ rs) = P r × Each P rs

each_in : (P : Row → Type 0) (rs : List Row) (r : Row) → Each P rs → Contains rs r → P r
each_in P [] r f (k, lt, is) = absurd (omega (arith, lt))
each_in P (q ∷ rs) r f (zero, lt, is) = subst P is f.0
each_in P (q ∷ rs) r f (suc k, lt, is) = each_in P rs r f.1 (k, omega (arith, lt), is)

-- is found by its tag, and has at most fifteen fields
abbrev IsFound : Row → Type 0
IsFound r = (row_in r.tag table ≡ Some r) × (nat_le (length r.fields + length r.added) 15 ≡ true)

found : Each IsFound table
found = assumption

row_is : (v : Version) (tag : ℕ) (ks : List Field) → HasRow v tag ks → kinds v tag ≡ Ok ks
row_is v _ _ (row_alone r c s n) =
    ap (fields_of v) (each_in IsFound table r found c).0 ∙ stands_is v r.stands r.fields r.added s ∙ ap (λ b. Ok (cond b (r.fields ++ r.added) r.fields)) n
row_is v _ _ (row_with_ids r c s n) =
    ap (fields_of v) (each_in IsFound table r found c).0 ∙ stands_is v r.stands r.fields r.added s ∙ ap (λ b. Ok (cond b (r.fields ++ r.added) r.fields)) n

by_tag : (tag : ℕ) (q r : Row) (rs : List Row) (b : Bool) → (tag == q.tag) ≡ b → (row_in tag rs ≡ Some r → Contains rs r × (r.tag ≡ tag)) → cond b (Some q) (row_in tag rs) ≡ Some r → Contains (q ∷ rs) r × (r.tag ≡ tag)
by_tag tag q r rs true w k e =
    let same : q ≡ r = cc in
    subst (λ (x : Row). Contains (q ∷ rs) x × (x.tag ≡ tag)) same ((0, omega arith, refl), sym (eqb-true _ _ w))
by_tag tag q r rs false w k e = let p = k e in ((suc p.0.0, omega (arith, p.0.1), p.0.2), p.1)

in_rows : (tag : ℕ) (rs : List Row) (r : Row) → row_in tag rs ≡ Some r → Contains rs r × (r.tag ≡ tag)
in_rows tag [] r e = absurd cc
in_rows tag (q ∷ rs) r e = by_tag tag q r rs (tag == q.tag) refl (in_rows tag rs r) e

row_by : (v : Version) (tag : ℕ) (ks : List Field) (o : Option Row) → row_in tag table ≡ o → fields_of v o ≡ Ok ks → HasRow v tag ks
row_by v tag ks None e h = absurd cc
row_by v tag ks (Some r) e h =
    let s = stood v r.stands r.fields r.added ks h in
    let p = in_rows tag table r e in
    let w = elim (has_element_ids v) as (λ b. has_element_ids v ≡ b → HasRow v r.tag (cond b (r.fields ++ r.added) r.fields)) [ true ↦ λ b. row_with_ids r p.0 s.0 b | false ↦ λ b. row_alone r p.0 s.0 b ] in
    subst (λ n. HasRow v n ks) p.1 (subst (HasRow v r.tag) (sym s.1) (w refl))

row_laid : (v : Version) (tag : ℕ) (ks : List Field) → kinds v tag ≡ Ok ks → HasRow v tag ks
row_laid v tag ks h = row_by v tag ks (row_in tag table) refl h

few_in : (v : Version) (tag : ℕ) (ks : List Field) → HasRow v tag ks → length ks ≤ 15
few_in v _ _ (row_alone r c s n) = omega (arith, leb-true _ _ (each_in IsFound table r found c).1)
few_in v _ _ (row_with_ids r c s n) = omega (arith, leb-true _ _ (each_in IsFound table r found c).1, length-append r.fields r.added)

-- a structure without a fault has at most fifteen fields
pub few_fields : (v : Version) (tag : ℕ) (ts : Trees) → fault v tag ts ≡ None → count ts ≤ 15
few_fields v tag ts h =
    let k = row_of v tag ts h in
    omega (arith, few_in v tag k.0 (row_laid v tag k.0 k.1), (passed v tag ts k.0 k.1 h).counted)

-- Local seconds.
moment_laid : (v : Version) (ts : Trees) → fault v 0x46 ts ≡ None → IsForm v (structure 0x49 (to_utc (typed_all ts))) (structure 0x46 ts)
moment_laid = of_local (λ w us. IsForm w (structure 0x49 (to_utc (typed_all us))) (structure 0x46 us)) (λ a b d h.
    subst (λ z. IsForm V44 (structure 0x49 (three (a -ℤ d) b d)) (structure 0x46 (three z b d))) (back_and_there a d) (of_local_seconds moment_fields (a -ℤ d) b d (row_laid V44 0x46 moment_fields refl) (kinds_laid moment_fields (three (a -ℤ d) b d) refl refl h)))

-- what a value is read as, and that no structure of the value has a fault
abbrev IsRead : Version → Tree → Tree → Type 0
IsRead v s t = (all_fine (fault v) (structures t) ≡ true) × (s ≡ typed t)

moment_is : (v : Version) (ks : List Field) (u n o : ℤ) → kinds v 0x46 ≡ Ok ks → AreOf ks (three u n o) → IsRead v (structure 0x49 (three u n o)) (structure 0x46 (three (u +ℤ o) n o))
moment_is V44 ks u n o k h =
    let same : ks ≡ moment_fields = cc in
    let ranged = ap (λ z. are_in_range moment_fields (three z n o)) (there_and_back u o) ∙ ap (λ js. are_in_range js (three u n o)) (sym same) ∙ h.ranged in
    let fine : fault V44 0x46 (three (u +ℤ o) n o) ≡ None = wrong_is moment_fields 0x46 (three (u +ℤ o) n o) true true true true refl refl ranged refl in
    (both_true _ _ (ap is_none fine) refl, ap (λ z. structure 0x49 (three z n o)) (sym (there_and_back u o)))
moment_is v ks u n o k h = absurd cc

-- Other structures.
shape_laid : (v : Version) (tag : ℕ) (ts : Trees) (b : Bool) → (tag == 0x50) ≡ b → fault v tag ts ≡ None → IsShaped tag ts
shape_laid v tag ts false e h = no_path tag ts (λ same. let t : (tag == 0x50) ≡ true = eq-eqb _ _ same in absurd cc)
shape_laid v tag ts true e h =
    let is = eqb-true tag 0x50 e in
    let p = passed v 0x50 ts (Nodes ∷ Relationships ∷ Indices ∷ []) (at_row v 0x50 every_version _ refl refl) (subst (λ n. fault v n ts ≡ None) is h) in
    subst (λ n. IsShaped n ts) (sym is) (path_laid ts p.counted p.kinded p.shaped)

plain_laid : (v : Version) (tag : ℕ) (ts : Trees) → (tag == 0x46) ≡ false → fault v tag ts ≡ None → AreForms v (typed_all ts) ts → IsForm v (structure tag (typed_all ts)) (structure tag ts)
plain_laid v tag ts n h f =
    let k = row_of v tag ts h in
    let p = passed v tag ts k.0 k.1 h in
    let ranged = ap (λ c. are_in_range k.0 (cond c (to_utc ts) ts)) (sym n) ∙ p.ranged in
    of_structure tag k.0 (typed_all ts) ts (λ same. let t : (tag == 0x46) ≡ true = eq-eqb _ _ same in absurd cc) (row_laid v tag k.0 k.1) (kinds_laid k.0 ts p.counted p.kinded ranged) (shape_laid v tag ts (tag == 0x50) refl h) f

structure_laid : (v : Version) (tag : ℕ) (ts : Trees) (b : Bool) → (tag == 0x46) ≡ b → fault v tag ts ≡ None → AreForms v (typed_all ts) ts → IsForm v (structure (cond b 0x49 tag) (cond b (to_utc (typed_all ts)) (typed_all ts))) (structure tag ts)
structure_laid v tag ts true e h f = let is = eqb-true tag 0x46 e in subst (λ n. IsForm v (structure 0x49 (to_utc (typed_all ts))) (structure n ts)) (sym is) (moment_laid v ts (subst (λ n. fault v n ts ≡ None) is h))
structure_laid v tag ts false e h f = plain_laid v tag ts e h f

structure_is : (v : Version) (tag : ℕ) (ks : List Field) (cs ts : Trees) → tag ≢ 0x46 → kinds v tag ≡ Ok ks → AreOf ks ts → IsShaped tag ts → (all_fine (fault v) (structures_in ts) ≡ true) × (cs ≡ typed_all ts) → IsRead v (structure tag cs) (structure tag ts)
structure_is v tag ks cs ts other k h s m =
    let n : (tag == 0x46) ≡ false = ne_eqb tag 0x46 other in
    let ranged = ap (λ c. are_in_range ks (cond c (to_utc ts) ts)) n ∙ h.ranged in
    let fine = fault_is v tag ts ks k ∙ wrong_is ks tag ts true true true true (eq-eqb _ _ h.counted) h.kinded ranged (shaped_is tag ts s) in
    (both_true _ _ (ap is_none fine) m.0, ap (λ us. structure tag us) m.1 ∙ ap (λ c. structure (cond c 0x49 tag) (cond c (to_utc (typed_all ts)) (typed_all ts))) (sym n))

mutual
  laid : (v : Version) (t : Tree) → all_fine (fault v) (structures t) ≡ true → IsForm v (typed t) t
  laid v (list ts) h = of_list (typed_all ts) ts (laid_all v ts h)
  laid v (dict es) h = of_dict (typed_under es) es (laid_under v es h)
  laid v (structure tag ts) h = structure_laid v tag ts (tag == 0x46) refl (fine_itself (fault v) tag ts h) (laid_all v ts (fine_within (fault v) tag ts h))
  laid v t h = search (of_null, of_boolean, of_int, of_float, of_bytes, of_text)

  laid_all : (v : Version) (ts : Trees) → all_fine (fault v) (structures_in ts) ≡ true → AreForms v (typed_all ts) ts
  laid_all v no_trees h = no_forms
  laid_all v (tree_then t ts) h =
      then_form (typed t) t (typed_all ts) ts (laid v t (fine_left (fault v) (structures t) (structures_in ts) h)) (laid_all v ts (fine_right (fault v) (structures t) (structures_in ts) h))

  laid_under : (v : Version) (es : Entries) → all_fine (fault v) (structures_under es) ≡ true → HaveForms v (typed_under es) es
  laid_under v no_entries h = no_entry_forms
  laid_under v (entry_then k t es) h =
      then_entry_form k (typed t) t (typed_under es) es (laid v t (fine_left (fault v) (structures t) (structures_under es) h)) (laid_under v es (fine_right (fault v) (structures t) (structures_under es) h))

mutual
  read_back : (v : Version) (s t : Tree) → IsForm v s t → IsRead v s t
  read_back v _ _ (of_list cs ts f) = let p = read_back_all v cs ts f in (p.0, ap list p.1)
  read_back v _ _ (of_dict ds es f) = let p = read_back_under v ds es f in (p.0, ap dict p.1)
  read_back v _ _ (of_structure tag ks cs ts other row h s f) = structure_is v tag ks cs ts other (row_is v tag ks row) (kinds_are ks ts h) s (read_back_all v cs ts f)
  read_back v _ _ (of_local_seconds ks u n o row h) = moment_is v ks u n o (row_is v 0x46 ks row) (kinds_are ks (three u n o) h)
  read_back v s t f = (refl, refl)

  read_back_all : (v : Version) (cs ts : Trees) → AreForms v cs ts → (all_fine (fault v) (structures_in ts) ≡ true) × (cs ≡ typed_all ts)
  read_back_all v _ _ no_forms = (refl, refl)
  read_back_all v _ _ (then_form c t cs ts f fs) =
      let p = read_back v c t f in
      let q = read_back_all v cs ts fs in
      (fine_append (fault v) (structures t) (structures_in ts) ∙ both_true _ _ p.0 q.0, ap (λ x. tree_then x cs) p.1 ∙ ap (λ xs. tree_then (typed t) xs) q.1)

  read_back_under : (v : Version) (ds es : Entries) → HaveForms v ds es → (all_fine (fault v) (structures_under es) ≡ true) × (ds ≡ typed_under es)
  read_back_under v _ _ no_entry_forms = (refl, refl)
  read_back_under v _ _ (then_entry_form k c t ds es f fs) =
      let p = read_back v c t f in
      let q = read_back_under v ds es fs in
      (fine_append (fault v) (structures t) (structures_under es) ∙ both_true _ _ p.0 q.0, ap (λ x. entry_then k x ds) p.1 ∙ ap (λ xs. entry_then k (typed t) xs) q.1)

-- a value is read as a cell exactly where the rows say so
pub rows_are : (v : Version) (s t : Tree) → Form v s t ↔ IsForm v s t
rows_are v s t = (
  (λ (f : Form v s t). subst (λ c. IsForm v c t) (sym f.1) (laid v t (fine_scan (fault v) 0 f.0.0 (structures t) f.0.1))),
  (λ (f : IsForm v s t). let p = read_back v s t f in (scan_fine (fault v) 0 (structures t) p.0, p.1)),
)
