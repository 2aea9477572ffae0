-- Members and entries, and one more behind them.
use Rattle.structures_decoder.proofs.Words.{◌≡◌, ℕ, suc, ℤ, Ok, rules, List, [], ◌∷◌, ◌++◌, ◌+◌, ◌-◌, ◌<◌, map, true, refl, sym, ap, ◌∙◌, append-nil, append_assoc, arith, map_push, map-map, Tree, names, int, trees_of, entries_of, keys, key_at, layer, inner, items_at, entries_at, Pairs, items_on, IntCase, the_lemmas, all_fine, fault_of_structure, structures, structures_in, structures_under, shape, entry, entries, both_true, fine_append, Pair, form, form_entry, Scope, CellJoins, PairJoins}

pub shape_of_int : (z : ℤ) → shape (IntCase z) ≡ int z
shape_of_int z = search (rules, the_lemmas)

-- the entries' keys
firsts_are : (es : List Pair) → keys (entries es) ≡ names es
firsts_are es = map-map (λ e. e.0) entry es

-- what is gathered of a list's elements, and of one more behind them
gathered : {A B : Type 0} (F : List A → List B) (f : A → List B) → F [] ≡ [] → ((x : A) (xs : List A) → F (x ∷ xs) ≡ f x ++ F xs) → (xs : List A) (y : A) → F (xs ++ y ∷ []) ≡ F xs ++ f y
gathered F f none step [] y = rw (step y [], none) (append-nil (f y))
gathered F f none step (x ∷ xs) y = rw (step x (xs ++ y ∷ []), step x xs, gathered F f none step xs y) (sym (append_assoc (f x) (F xs) (f y)))

-- i of n members being read as the forms of these, what is left is read as all of them are, and none has a fault
abbrev pub MembersSoFar : Scope → ℕ → ℕ → ℕ → List Tree → List ℕ → List ℕ → Type 0
MembersSoFar s room n i ts rest b =
    (items_at (layer (inner room)) (n - i) (map (form s.version) ts) rest ≡ items_at (layer (inner room)) n [] b)
    × (all_fine (fault_of_structure s.version) (structures_in (trees_of ts)) ≡ true)

pub members_on : (s : Scope) (room n i : ℕ) (old new : List Tree) (rest mid b : List ℕ) → i < n → CellJoins s room old new rest mid → MembersSoFar s room n i old rest b → MembersSoFar s room n (i + 1) new mid b
members_on s room n i old new rest mid b lt m so_far =
    let j = fault_of_structure s.version in
    rw m.1 (
      rw (map_push (form s.version) old m.0) (items_on (layer (inner room)) n i (map (form s.version) old) rest mid (form s.version m.0) _ lt m.2.0 so_far.0),
      ap (all_fine j) (gathered (λ (us : List Tree). structures_in (trees_of us)) structures refl (λ u us. refl) old m.0) ∙ fine_append j (structures_in (trees_of old)) (structures m.0) ∙ both_true _ _ so_far.1 m.2.1,
    )

-- the same of entries
abbrev pub EntriesSoFar : Scope → ℕ → ℕ → ℕ → Pairs → List ℕ → List ℕ → Type 0
EntriesSoFar s room n i es rest b =
    (entries_at (layer (inner room)) (n - i) (map (form_entry s.version) es) rest ≡ entries_at (layer (inner room)) n [] b)
    × (all_fine (fault_of_structure s.version) (structures_under (entries_of es)) ≡ true)

pub entries_on : (s : Scope) (room n i : ℕ) (old : List Pair) (new : Pairs) (key rest value mid b : List ℕ) → i < n → key_at (names old) rest ≡ Ok (key, value) → PairJoins s room key (entries old) new value mid → EntriesSoFar s room n i (entries old) rest b → EntriesSoFar s room n (i + 1) new mid b
unfolding entries_at
entries_on s room n i old new key rest value mid b lt k m so_far =
    let j = fault_of_structure s.version in
    let one : n - i ≡ suc (n - (i + 1)) = omega (arith, lt) in
    let first : key_at (keys (map (form_entry s.version) (entries old))) rest ≡ Ok (key, value) = rw (map-map (λ (e : List ℕ × Tree). e.0) (form_entry s.version) (entries old), firsts_are old) k in
    let all = rw (one, first, m.2.0) at so_far.0 in
    rw m.1 (
      rw (map_push (form_entry s.version) (entries old) (key, m.0)) all,
      ap (all_fine j) (gathered (λ (fs : Pairs). structures_under (entries_of fs)) (λ (e : List ℕ × Tree). structures e.1) refl (λ e fs. refl) (entries old) (key, m.0)) ∙ fine_append j (structures_under (entries_of (entries old))) (structures m.0) ∙ both_true _ _ so_far.1 m.2.1,
    )

-- the keys with that of an entry that joined
pub names_on : (s : Scope) (room : ℕ) (old new : List Pair) (key b rest : List ℕ) → PairJoins s room key (entries old) (entries new) b rest → names new ≡ names old ++ key ∷ []
names_on s room old new key b rest m =
    sym (firsts_are new) ∙ ap keys m.1 ∙ map_push (λ (e : List ℕ × Tree). e.0) (entries old) (key, m.0) ∙ ap (λ (ks : List (List ℕ)). ks ++ key ∷ []) (firsts_are old)
