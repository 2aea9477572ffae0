-- How what is added comes together: one after the other, in a loop, and behind the head of a list, a dictionary or a structure.
use Rattle.structures_encoder.proofs.Words.{◌≡◌, ℕ, ℤ, FitsSigned, w64, suc, ◌+◌, ◌≤◌, ◌<◌, List, [], ◌∷◌, ◌++◌, length, map, drop, get_or, sym, ap, subst, ◌∙◌, refl, append_assoc, true, Result, arith, append-nil, drop_more, drop_all, on_ok_weaker, Tree, Trees, no_trees, tree_then, Entries, no_entries, entry_then, structure, count, entry_count, AreNewKeys, head, int_bytes, canon_all, trees_of, entries_of, Grown, Version, Cell, entries, text_of, shape, shapes, structures, structures_in, structures_under, all_fine, fault_of_structure, both_true, fine_append, form, form_all, form_under, Scope, Unchecked, AreReady, Adds, AddsTree, Spells, SpellsAll, SpellsEach, SpellsPairs, Puts, IsPassed, Opens, list_of, dict_of}
use Rattle.structures_encoder.proofs.Flat.{Pair}

pub none : {o : Grown} → Adds [] (Unit {0}) o o
none {o} = record { added = sym (append-nil o.more); ready = tt }

pub then : {a b : List ℕ} {P Q : Type 0} {o m n : Grown} → Adds a P o m → Adds b Q m n → Adds (a ++ b) (P × Q) o n
then {a} {b} {P} {Q} {o} p q = record { added = q.added ∙ ap (λ (x : List ℕ). x ++ b) p.added ∙ append_assoc o.more a b; ready = (p.ready, q.ready) }

-- an integer that is another
pub as_is : {z w : ℤ} {o n : Grown} → Adds (int_bytes z) (FitsSigned w64 z) o n → z ≡ w → Adds (int_bytes w) (FitsSigned w64 w) o n
as_is p e = rw (← e) p

-- what a last call puts, seen with what was put before it
pub last : {T E : Type 0} {P Q : Grown → Grown → Type 0} {o m n : Grown} {r : Result T E} → Puts P m n r → m.before ≡ o.before → (P m n → Q o n) → Puts Q o n r
last {r = r} p b f = record { before = p.before ∙ b; put = on_ok_weaker r f p.put }

-- ---- the loops

-- with what is left from here on, all is added
pub record Left {A : Type 0} (P : List A → Grown → Grown → Type 0) (xs : List A) (i : ℕ) (o n : Grown) : Type 0 where
  pub rest : (e : Grown) → P (drop i xs) n e → P xs o e

pub one_more : {A : Type 0} {P : List A → Grown → Grown → Type 0} {xs : List A} {i : ℕ} {o m n : Grown} {x : A} → Left P xs i o m → i < length xs → x ≡ get_or xs i x
    → ((ys : List A) (e : Grown) → P ys n e → P (x ∷ ys) m e) → Left P xs (i + 1) o n
one_more {A} {P} {xs} {i} {o} {m} {n} {x} left h is step = record {
  rest = λ e q.
      left.rest e (subst (λ (ys : List A). P ys m e) (sym (drop_more xs i x h ∙ ap (λ (y : A). y ∷ drop (i + 1) xs) (sym is))) (step (drop (i + 1) xs) e q));
}

pub all_of : {A : Type 0} {P : List A → Grown → Grown → Type 0} {xs : List A} {i : ℕ} {o n : Grown} → Left P xs i o n → length xs ≤ i → P [] n n → P xs o n
all_of {A} {P} {xs} {i} {o} {n} left h p = left.rest n (subst (λ (ys : List A). P ys n n) (sym (drop_all i xs h)) p)

-- members of a list, and entries, whose structures passed
abbrev pub Members : Scope → List Cell → Grown → Grown → Type 0
Members s xs o n = SpellsEach s shape xs o n × IsPassed s (list_of shape xs)

abbrev pub Pairs : Scope → List Pair → Grown → Grown → Type 0
Pairs s es o n = SpellsPairs s es o n × IsPassed s (dict_of es)

pub passed_then : (s : Scope) (x y : List (ℕ × Trees)) → (s.inside ≡ Unchecked → all_fine (fault_of_structure s.version) x ≡ true)
    → (s.inside ≡ Unchecked → all_fine (fault_of_structure s.version) y ≡ true) → s.inside ≡ Unchecked → all_fine (fault_of_structure s.version) (x ++ y) ≡ true
passed_then s x y p q u = fine_append (fault_of_structure s.version) x y ∙ both_true _ _ (p u) (q u)

pub one_member : {s : Scope} {xs : List Cell} {i : ℕ} {o m n : Grown} {x : Cell} → Left (Members s) xs i o m → i < length xs → x ≡ get_or xs i x
    → Spells s (shape x) m n → IsPassed s (shape x) → Left (Members s) xs (i + 1) o n
one_member {s} {x = x} left h is p f = one_more left h is (λ ys e q. (then p q.0, passed_then s (structures (shape x)) (structures_in (trees_of (shapes ys))) f q.1))

pub one_pair : {s : Scope} {es : List Pair} {i : ℕ} {o k m n : Grown} {x : Pair} → Left (Pairs s) es i o k → i < length es → x ≡ get_or es i x
    → Spells s (text_of x.0) k m → Spells s (shape x.1) m n → IsPassed s (shape x.1) → Left (Pairs s) es (i + 1) o n
one_pair {s} {m = m} {x = x} left h is key p f = one_more left h is (λ ys e q.
    let both = then key (then p q.0) in (record { added = both.added; ready = both.ready }, passed_then s (structures (shape x.1)) (structures_under (entries_of (entries ys))) f q.1))

-- ---- behind a head

count_form : (v : Version) (ts : Trees) → count (form_all v ts) ≡ count ts
count_form v no_trees = refl
count_form v (tree_then t ts) = ap suc (count_form v ts)

entry_count_form : (v : Version) (es : Entries) → entry_count (form_under v es) ≡ entry_count es
entry_count_form v no_entries = refl
entry_count_form v (entry_then k t es) = ap suc (entry_count_form v es)

-- the keys in the form of a version are those that stood there
new_form : (v : Version) (before : List (List ℕ)) (es : Entries) → AreNewKeys before es → AreNewKeys before (form_under v es)
new_form v before no_entries h = tt
new_form v before (entry_then k t es) h = (h.0, new_form v (before ++ k ∷ []) es h.1)

pub count_each : {A : Type 0} (f : A → Tree) (xs : List A) → count (trees_of (map f xs)) ≡ length xs
count_each f [] = refl
count_each f (x ∷ xs) = ap suc (count_each f xs)

count_pairs : (es : List Pair) → entry_count (entries_of (entries es)) ≡ length es
count_pairs [] = refl
count_pairs (e ∷ es) = ap suc (count_pairs es)

head_then : {s i : Scope} {a b : List ℕ} {P : Type 0} {o m n : Grown} → Opens s a o m i → Adds b P m n → n.more ≡ o.more ++ (a ++ b)
head_then {a = a} {b = b} {o = o} h q = q.added ∙ ap (λ (x : List ℕ). x ++ b) h.added ∙ append_assoc o.more a b

pub list_put : {A : Type 0} (f : A → Tree) (xs : List A) {s i : Scope} {o m n : Grown} → Opens s (head 0x90 0xD4 (length xs)) o m i → SpellsEach i f xs m n → Spells s (list_of f xs) o n
list_put f xs {s} h p =
    let q = rw h.inner.is at p in
    record { added = rw (count_form s.version (trees_of (map f xs)), count_each f xs) (head_then h q); ready = (omega (arith, h.inner.room), q.ready) }

pub dict_put : (es : List Pair) {s i : Scope} {o m n : Grown} → Opens s (head 0xA0 0xD8 (length es)) o m i → AreNewKeys [] (entries_of (entries es)) → SpellsPairs i es m n → Spells s (dict_of es) o n
dict_put es {s} h new p =
    let q = rw h.inner.is at p in
    record { added = rw (entry_count_form s.version (entries_of (entries es)), count_pairs es) (head_then h q); ready = (omega (arith, h.inner.room), new_form s.version [] (entries_of (entries es)) new, q.ready) }

-- a structure as it stands
pub structure_added : (ts : Trees) {s i : Scope} {tag k : ℕ} {o m n : Grown} → Opens s ((0xB0 + k) ∷ tag ∷ []) o m i → tag < 256 → k ≤ 15 → k ≡ count ts
    → Adds (canon_all ts) (AreReady i.room ts) m n → AddsTree s (structure tag ts) o n
structure_added ts h lt le c p =
    let q = rw h.inner.is at p in
    record { added = rw (← c) (head_then h q); ready = (omega (arith, h.inner.room), lt, rw (← c) le, q.ready) }

-- one in the form of the version
pub structure_put : (ts : Trees) {s i : Scope} {tag k : ℕ} {u : Tree} {o m n : Grown} → Opens s ((0xB0 + k) ∷ tag ∷ []) o m i → u ≡ structure tag ts
    → form s.version (structure tag ts) ≡ structure tag (form_all s.version ts) → tag < 256 → k ≤ 15 → k ≡ count ts → SpellsAll i ts m n → Spells s u o n
structure_put ts {s} {i} h e f lt le c p =
    let same : i.version ≡ s.version = ap (λ (x : Scope). x.version) h.inner.is in
    rw (e, f) (structure_added (form_all s.version ts) h lt le (c ∙ sym (count_form s.version ts)) (rw same at p))
