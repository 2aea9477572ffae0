-- Fields that are read one after the other, and what is read behind a head.
use Rattle.structures_decoder.proofs.Words.{◌≡◌, ℕ, ℤ, ◌+◌, ◌-◌, ◌<◌, ◌+ℤ◌, ◌-ℤ◌, false, cond, List, [], ◌∷◌, ◌++◌, map, Ok, refl, sym, ap, ◌∙◌, append-nil, append_assoc, map_push, Tree, structure, Trees, no_trees, tree_then, trees_of, count, items_at, struct_at, layer, inner, items_more, items_on, items_done, Version, has_utc_times, DateTime, shape, shape-DateTime, form, form_all, three, form_list, back_and_there, Scope, IsRead, Laid, HasFields}

-- these trees in a list
abbrev listed : Trees → List Tree
listed no_trees = []
listed (tree_then t ts) = t ∷ listed ts

listed_is : (ts : Trees) → trees_of (listed ts) ≡ ts
listed_is no_trees = refl
listed_is (tree_then t ts) = ap (λ us. tree_then t us) (listed_is ts)

items_laid : (room : ℕ) (ts : Trees) (done : List Tree) (b after : List ℕ) → Laid room ts b after → items_at (layer (inner room)) (count ts) done b ≡ Ok (done ++ listed ts, after)
unfolding items_at
items_laid room no_trees done b after e = rw e (ap (λ (xs : List Tree). Ok (xs, b)) (sym (append-nil done)))
items_laid room (tree_then t ts) done b after l =
    rw l.1 (items_laid room ts (done ++ t ∷ []) l.0 after l.2 ∙ ap (λ (xs : List Tree). Ok (xs, after)) (append_assoc done (t ∷ []) (listed ts)))

-- a structure of this tag, by its fields
pub has_fields : (s : Scope) (room n tag : ℕ) (u : Tree) (b after : List ℕ) (ts : Trees) → u ≡ structure tag ts → form s.version (structure tag ts) ≡ structure tag (form_all s.version ts) → n ≡ count (form_all s.version ts) → Laid room (form_all s.version ts) b after → HasFields s room n tag u b after
unfolding struct_at
has_fields s room n tag u b after ts is f e l left = rw (e, items_laid room (form_all s.version ts) [] b after l, listed_is (form_all s.version ts), is, f) refl

-- i of n members being read as the forms of these, what is left is read as all of them are
abbrev pub ReadSoFar : Version → ℕ → ℕ → ℕ → List Tree → List ℕ → List ℕ → Type 0
ReadSoFar v room n i ts rest b = items_at (layer (inner room)) (n - i) (map (form v) ts) rest ≡ items_at (layer (inner room)) n [] b

pub list_on : {A : Type 0} (f : A → Tree) (v : Version) (room n i : ℕ) (xs ys : List A) (y : A) (rest mid b : List ℕ) → ys ≡ xs ++ y ∷ [] → i < n → IsRead room (form v (f y)) rest mid → ReadSoFar v room n i (map f xs) rest b → ReadSoFar v room n (i + 1) (map f ys) mid b
list_on f v room n i xs ys y rest mid b more lt h so_far =
    rw (more, map_push f xs y, map_push (form v) (map f xs) (f y)) (items_on (layer (inner room)) n i (map (form v) (map f xs)) rest mid (form v (f y)) _ lt h so_far)

-- how the members of a list are read
pub ruleset members = (items_more, items_done, map_push, form_list)

-- a DateTime where a version has no UTC times
pub local_formed : (v : Version) (l u n o : ℤ) → has_utc_times v ≡ false → u ≡ l -ℤ o → form v (shape (DateTime u n o)) ≡ structure 0x46 (three l n o)
local_formed v l u n o h e =
    ap (form v) (shape-DateTime u n o) ∙ ap (λ b. cond b (structure 0x49 (three u n o)) (structure 0x46 (three (u +ℤ o) n o))) h ∙ ap (λ z. structure 0x46 (three z n o)) (ap (λ w. w +ℤ o) e ∙ back_and_there l o)
