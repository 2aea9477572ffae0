-- The fields of a structure at the front of bytes, and what opens a list or a structure.
use Rattle.std.specs.Prelude.{◌≡◌, ◌≤◌, ℕ, ◌+◌, ◌-◌, Ok, Some, List, [], ◌∷◌}
use Rattle.packstream.specs.Tree.{Tree, list, Trees, no_trees, tree_then}
use Rattle.packstream.specs.View.{trees_of}
use Rattle.packstream.specs.Good.{count}
use Rattle.packstream.specs.Reading.{◌>>=◌, items_at, struct_at, layer, inner}
use Rattle.structures.specs.Form.{form, form_all}
use Rattle.structures_decoder.specs.Fronts.{IsRead}
use Rattle.structures_decoder.specs.declared.scope.Scope.{Scope}

-- these trees are read one after the other from the front of b, and after follows them
abbrev pub Laid : ℕ → Trees → List ℕ → List ℕ → Type 0
Laid room no_trees b after = after ≡ b
Laid room (tree_then t ts) b after = (mid : List ℕ) × IsRead room t b mid × Laid room ts mid after

-- the last of n fields, behind so many, are the forms of these at the version
abbrev pub AreLeft : Scope → ℕ → ℕ → ℕ → Trees → List ℕ → List ℕ → Type 0
AreLeft s room behind n ts b after =
    (n ≡ behind + count (form_all s.version ts)) × Laid room (form_all s.version ts) b after

-- behind a structure's marker stand this tag and b, whose n fields make the form of t at the version, and after follows them
abbrev pub HasFields : Scope → ℕ → ℕ → ℕ → Tree → List ℕ → List ℕ → Type 0
HasFields s room n tag t b after =
    (left : ℕ) → struct_at (Some (layer (inner room))) left n (tag ∷ b) ≡ Ok (form s.version t, after)

-- b opens a list of n members, which may nest so deep, and rest is what follows its head
abbrev pub OpensList : ℕ → ℕ → List ℕ → List ℕ → Type 0
OpensList room n b rest =
    (1 ≤ room)
    × (layer (inner room) b ≡ (items_at (layer (inner (room - 1))) n [] rest
    >>= λ xs. Ok (list (trees_of xs.0), xs.1)))

-- b opens a structure of n fields and this tag, which may nest so deep, and rest is what follows its tag
abbrev pub OpensStructure : ℕ → ℕ → ℕ → List ℕ → List ℕ → Type 0
OpensStructure room n tag b rest =
    (1 ≤ room)
    × ((s : Scope) (t : Tree) (after : List ℕ) → HasFields s (room - 1) n tag t rest after
    → IsRead room (form s.version t) b after)
