-- The fault of a typed cell by the numbers that its fields begin with, and the structures inside it.
use Rattle.std.proofs.Common.{◌≡◌, ℕ, ◌+◌, ℤ, pos, neg_ℤ, List, [], ◌∷◌, ◌++◌, map, length, Bool, true, false, not, ◌&&◌, ◌==◌, Option, Some, None, Result, Ok, Err, refl, sym, ap, ◌∙◌, String, Global}
use Rattle.std.proofs.lemmas.List.{append-nil, length-map}
use Rattle.packstream.specs.Prelude.{Tree, int, list, dict, structure, Trees, no_trees, tree_then, count, trees_of, entries_of}
use Rattle.packstream.proofs.Sound.{count-trees_of}
use Rattle.wire.specs.declared.Version.{Version}
use Rattle.wire.specs.declared.Version.TheVariants.{V44}
use Rattle.structures_cells.specs.declared.cell.ElementIds.{ElementIds}
use Rattle.structures_cells.specs.declared.table.Field.{Field}
use Rattle.structures_cells.specs.declared.table.Field.TheVariants.{Nanosecond, DayNanosecond, Offset, UtcSecond}
use Rattle.structures_cells.specs.declared.fault.Reason.{Reason}
use Rattle.structures_cells.specs.Prelude.{kinds, FaultOf, scan, fault_or_rest, next, structures, structures_in, structures_under, is_int, each, is_between, in_range, are_in_range, text_of, texts_of, numbers_of, element_of, elements_of, entries, path_of, fault_of_structure, fault_of_structure_by, tag_at, range_fault, range_fault_by, numbers_in_range, walk_fault, all_fine}
use Rattle.structures_cells.proofs.Both.{and_left, and_right, both_true}
use Rattle.structures_cells.proofs.Views.{Pair, node_parts, unbound_parts, relationship_parts}
use Rattle.structures_cells.proofs.Fine.{fine_within, fine_left, fine_right}

abbrev is_no_int : Tree → Bool
is_no_int t = not (is_int t)

abbrev after : List ℤ → Trees → Trees
after [] rest = rest
after (z ∷ zs) rest = tree_then (int z) (after zs rest)

between_still : (l h : ℤ) (t : Tree) → is_no_int t ≡ true → is_between l h t ≡ true
between_still l h (int z) e = absurd cc
between_still l h t e = refl

in_range_still : (k : Field) (t : Tree) → is_no_int t ≡ true → in_range k t ≡ true
in_range_still Nanosecond t e = between_still (pos 0) (pos 999999999) t e
in_range_still DayNanosecond t e = between_still (pos 0) (pos 86399999999999) t e
in_range_still Offset t e = between_still (neg_ℤ (pos 64800)) (pos 64800) t e
in_range_still UtcSecond t e = between_still (neg_ℤ (pos 100000000000000000)) (pos 100000000000000000) t e
in_range_still k t e = refl

are_still : (ks : List Field) (ts : Trees) → each is_no_int ts ≡ true → are_in_range ks ts ≡ true
are_still [] ts e = refl
are_still (k ∷ ks) no_trees e = refl
are_still (k ∷ ks) (tree_then t ts) e = both_true _ _ (in_range_still k t (and_left _ _ e)) (are_still ks ts (and_right _ _ e))

within_is : (zs : List ℤ) (ks : List Field) (rest : Trees) → each is_no_int rest ≡ true → are_in_range ks (after zs rest) ≡ numbers_in_range zs ks
within_is [] ks rest e = are_still ks rest e
within_is (z ∷ zs) [] rest e = refl
within_is (z ∷ zs) (k ∷ ks) rest e = ap (λ b. in_range k (int z) && b) (within_is zs ks rest e)

judged_is : (r : Result (List Field) Reason) (tag : ℕ) (zs : List ℤ) (rest : Trees) → (tag == 0x50) ≡ false → each is_no_int rest ≡ true → range_fault_by r (count (after zs rest)) zs ≡ fault_of_structure_by r tag (after zs rest)
judged_is (Ok ks) tag zs rest h e = rw (h, within_is zs ks rest e) refl
judged_is (Err r) tag zs rest h e = refl

-- a Duration has numbers alone
pub duration_judged : (v : Version) (k : ℕ) (a b d e : ℤ) → fault_or_rest (range_fault v 0x45 4 (a ∷ b ∷ d ∷ e ∷ [])) k (Ok (next k))
    ≡ scan (fault_of_structure v) k (structures (structure 0x45 (tree_then (int a) (tree_then (int b) (tree_then (int d) (tree_then (int e) no_trees))))))
duration_judged v k a b d e = ap (λ (f : Option Reason). fault_or_rest f k (Ok (next k))) (judged_is (kinds v 0x45) 0x45 (a ∷ b ∷ d ∷ e ∷ []) no_trees refl refl)

-- a typed cell without a fault, then what is inside it
typed_ok : (j : FaultOf) (k m : ℕ) (f : Option Reason) (tag : ℕ) (ts : Trees) (ss : List (ℕ × Trees)) → Ok m ≡ fault_or_rest f k (Ok (next k)) → f ≡ j tag ts → structures_in ts ≡ ss → scan j m ss ≡ scan j k (structures (structure tag ts))
typed_ok j k m None tag ts ss h e i = rw (sym e, i) (let same : m ≡ next k = cc in ap (λ (n : ℕ). scan j n ss) same)
typed_ok j k m (Some r) tag ts ss h e i = absurd cc

-- a typed cell with a fault
typed_err : (j : FaultOf) (k : ℕ) (b : Reason × ℕ) (f : Option Reason) (tag : ℕ) (ts : Trees) → Err b ≡ fault_or_rest f k (Ok (next k)) → f ≡ j tag ts → Err b ≡ scan j k (structures (structure tag ts))
typed_err j k b None tag ts h e = absurd cc
typed_err j k b (Some r) tag ts h e = rw (sym e) h

pub texts_plain : (ss : List (String Global)) → structures_in (trees_of (map text_of ss)) ≡ []
texts_plain [] = refl
texts_plain (s ∷ ss) = texts_plain ss

numbers_plain : (zs : List ℤ) → structures_in (trees_of (map int zs)) ≡ []
numbers_plain [] = refl
numbers_plain (z ∷ zs) = numbers_plain zs

-- the fields of a node, or of a relationship without ends
abbrev pub fields : ℤ → Tree → List Pair → Option (String Global) → Trees
fields id x ps e = tree_then (int id) (tree_then x (tree_then (dict (entries_of (entries ps))) (element_of e)))

inner_of : (id : ℤ) (x : Tree) (ps : List Pair) (e : Option (String Global)) → structures x ≡ [] → structures_in (fields id x ps e) ≡ structures_under (entries_of (entries ps))
inner_of id x ps None plain = rw plain (append-nil _)
inner_of id x ps (Some s) plain = rw plain (append-nil _)

relationship_inner : (id s d : ℤ) (kind : String Global) (ps : List Pair) (e : Option ElementIds)
    → structures_in (tree_then (int id) (tree_then (int s) (tree_then (int d) (tree_then (text_of kind) (tree_then (dict (entries_of (entries ps))) (elements_of e)))))) ≡ structures_under (entries_of (entries ps))
relationship_inner id s d kind ps None = append-nil _
relationship_inner id s d kind ps (Some x) = append-nil _

fields_judged : (v : Version) (tag n : ℕ) (id : ℤ) (x : Tree) (ps : List Pair) (e : Option (String Global)) → (tag == 0x50) ≡ false → is_no_int x ≡ true → n ≡ 3 + count (element_of e) → range_fault v tag n (id ∷ []) ≡ fault_of_structure v tag (fields id x ps e)
fields_judged v tag n id x ps None other plain h = ap (λ m. range_fault v tag m (id ∷ [])) h ∙ judged_is (kinds v (tag_at v tag)) tag (id ∷ []) (tree_then x (tree_then (dict (entries_of (entries ps))) (element_of None))) other (both_true _ _ plain refl)
fields_judged v tag n id x ps (Some s) other plain h = ap (λ m. range_fault v tag m (id ∷ [])) h ∙ judged_is (kinds v (tag_at v tag)) tag (id ∷ []) (tree_then x (tree_then (dict (entries_of (entries ps))) (element_of (Some s)))) other (both_true _ _ plain refl)

relationship_judged : (v : Version) (n : ℕ) (id s d : ℤ) (kind : String Global) (ps : List Pair) (e : Option ElementIds) → n ≡ 5 + count (elements_of e)
    → range_fault v 0x52 n (id ∷ s ∷ d ∷ []) ≡ fault_of_structure v 0x52 (tree_then (int id) (tree_then (int s) (tree_then (int d) (tree_then (text_of kind) (tree_then (dict (entries_of (entries ps))) (elements_of e))))))
relationship_judged v n id s d kind ps None h = ap (λ m. range_fault v 0x52 m (id ∷ s ∷ d ∷ [])) h ∙ judged_is (kinds v 0x52) 0x52 (id ∷ s ∷ d ∷ []) (tree_then (text_of kind) (tree_then (dict (entries_of (entries ps))) (elements_of None))) refl refl
relationship_judged v n id s d kind ps (Some xx) h = ap (λ m. range_fault v 0x52 m (id ∷ s ∷ d ∷ [])) h ∙ judged_is (kinds v 0x52) 0x52 (id ∷ s ∷ d ∷ []) (tree_then (text_of kind) (tree_then (dict (entries_of (entries ps))) (elements_of (Some xx)))) refl refl

pub fields_ok : (v : Version) (k m tag n : ℕ) (id : ℤ) (x : Tree) (ps : List Pair) (e : Option (String Global)) → (tag == 0x50) ≡ false → is_no_int x ≡ true → structures x ≡ [] → n ≡ 3 + count (element_of e) → Ok m ≡ fault_or_rest (range_fault v tag n (id ∷ [])) k (Ok (next k))
    → scan (fault_of_structure v) m (structures_under (entries_of (entries ps))) ≡ scan (fault_of_structure v) k (structures (structure tag (fields id x ps e)))
fields_ok v k m tag n id x ps e other plain none h o = typed_ok (fault_of_structure v) k m (range_fault v tag n (id ∷ [])) tag (fields id x ps e) _ o (fields_judged v tag n id x ps e other plain h) (inner_of id x ps e none)

pub relationship_ok : (v : Version) (k m n : ℕ) (id s d : ℤ) (kind : String Global) (ps : List Pair) (e : Option ElementIds) → n ≡ 5 + count (elements_of e) → Ok m ≡ fault_or_rest (range_fault v 0x52 n (id ∷ s ∷ d ∷ [])) k (Ok (next k))
    → scan (fault_of_structure v) m (structures_under (entries_of (entries ps))) ≡ scan (fault_of_structure v) k (structures (relationship_parts id s d kind ps e))
relationship_ok v k m n id s d kind ps e h o = typed_ok (fault_of_structure v) k m _ 0x52 (tree_then (int id) (tree_then (int s) (tree_then (int d) (tree_then (text_of kind) (tree_then (dict (entries_of (entries ps))) (elements_of e)))))) _ o (relationship_judged v n id s d kind ps e h) (relationship_inner id s d kind ps e)

path_inner : (ns rs : List Tree) (is : List ℤ) → structures_in (tree_then (list (trees_of ns)) (tree_then (list (trees_of rs)) (tree_then (numbers_of is) no_trees))) ≡ structures_in (trees_of ns) ++ structures_in (trees_of rs)
path_inner ns rs is = ap (λ (x : List (ℕ × Trees)). structures_in (trees_of ns) ++ (structures_in (trees_of rs) ++ (x ++ []))) (numbers_plain is) ∙ ap (λ (x : List (ℕ × Trees)). structures_in (trees_of ns) ++ x) (append-nil (structures_in (trees_of rs)))

pub mapped : {A B : Type 0} (f : A → B) (n : ℕ) (xs : List A) → n ≡ length xs → n ≡ length (map f xs)
mapped f n xs h = h ∙ sym (length-map xs f)

path_judged : (v : Version) (ns rs : List Tree) (is : List ℤ) → walk_fault (length ns) (length rs) is ≡ fault_of_structure v 0x50 (tree_then (list (trees_of ns)) (tree_then (list (trees_of rs)) (tree_then (numbers_of is) no_trees)))
path_judged V44 ns rs is = rw (count-trees_of ns, count-trees_of rs) refl
path_judged v ns rs is = rw (count-trees_of ns, count-trees_of rs) refl

pub path_ok : (v : Version) (k m n l : ℕ) (ns rs : List Tree) (is : List ℤ) → n ≡ length ns → l ≡ length rs → Ok m ≡ fault_or_rest (walk_fault n l is) k (Ok (next k))
    → scan (fault_of_structure v) m (structures_in (trees_of ns) ++ structures_in (trees_of rs)) ≡ scan (fault_of_structure v) k (structures (path_of ns rs is))
path_ok v k m n l ns rs is en el o = typed_ok (fault_of_structure v) k m _ 0x50 (tree_then (list (trees_of ns)) (tree_then (list (trees_of rs)) (tree_then (numbers_of is) no_trees))) _ (rw (en, el) at o) (path_judged v ns rs is) (path_inner ns rs is)

pub path_err : (v : Version) (k n l : ℕ) (b : Reason × ℕ) (ns rs : List Tree) (is : List ℤ) → n ≡ length ns → l ≡ length rs → Err b ≡ fault_or_rest (walk_fault n l is) k (Ok (next k))
    → Err b ≡ scan (fault_of_structure v) k (structures (path_of ns rs is))
path_err v k n l b ns rs is en el o = typed_err (fault_of_structure v) k b _ 0x50 (tree_then (list (trees_of ns)) (tree_then (list (trees_of rs)) (tree_then (numbers_of is) no_trees))) (rw (en, el) at o) (path_judged v ns rs is)

-- what is inside a typed cell without a fault has none
pub node_fine : (j : FaultOf) (id : ℤ) (labels : List (String Global)) (ps : List Pair) (e : Option (String Global)) → all_fine j (structures (node_parts id labels ps e)) ≡ true → all_fine j (structures_under (entries_of (entries ps))) ≡ true
node_fine j id labels ps e h = sym (ap (all_fine j) (inner_of id (texts_of labels) ps e (texts_plain labels))) ∙ fine_within j 0x4E (fields id (texts_of labels) ps e) h

pub unbound_fine : (j : FaultOf) (id : ℤ) (kind : String Global) (ps : List Pair) (e : Option (String Global)) → all_fine j (structures (unbound_parts id kind ps e)) ≡ true → all_fine j (structures_under (entries_of (entries ps))) ≡ true
unbound_fine j id kind ps e h = sym (ap (all_fine j) (inner_of id (text_of kind) ps e refl)) ∙ fine_within j 0x72 (fields id (text_of kind) ps e) h

pub relationship_fine : (j : FaultOf) (id s d : ℤ) (kind : String Global) (ps : List Pair) (e : Option ElementIds) → all_fine j (structures (relationship_parts id s d kind ps e)) ≡ true → all_fine j (structures_under (entries_of (entries ps))) ≡ true
relationship_fine j id s d kind ps e h =
    sym (ap (all_fine j) (relationship_inner id s d kind ps e)) ∙ fine_within j 0x52 (tree_then (int id) (tree_then (int s) (tree_then (int d) (tree_then (text_of kind) (tree_then (dict (entries_of (entries ps))) (elements_of e)))))) h

path_fine : (j : FaultOf) (ns rs : List Tree) (is : List ℤ) → all_fine j (structures (path_of ns rs is)) ≡ true → all_fine j (structures_in (trees_of ns) ++ structures_in (trees_of rs)) ≡ true
path_fine j ns rs is h = sym (ap (all_fine j) (path_inner ns rs is)) ∙ fine_within j 0x50 (tree_then (list (trees_of ns)) (tree_then (list (trees_of rs)) (tree_then (numbers_of is) no_trees))) h

pub path_nodes_fine : (j : FaultOf) (ns rs : List Tree) (is : List ℤ) → all_fine j (structures (path_of ns rs is)) ≡ true → all_fine j (structures_in (trees_of ns)) ≡ true
path_nodes_fine j ns rs is h = fine_left j (structures_in (trees_of ns)) (structures_in (trees_of rs)) (path_fine j ns rs is h)

pub path_unbounds_fine : (j : FaultOf) (ns rs : List Tree) (is : List ℤ) → all_fine j (structures (path_of ns rs is)) ≡ true → all_fine j (structures_in (trees_of rs)) ≡ true
path_unbounds_fine j ns rs is h = fine_right j (structures_in (trees_of ns)) (structures_in (trees_of rs)) (path_fine j ns rs is h)
