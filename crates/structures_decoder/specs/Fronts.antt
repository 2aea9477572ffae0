-- What stands at the front of bytes. Of it all only SpellsFront, list_shape and dict_shape are said to callers.
use Rattle.std.specs.Prelude.{◌≡◌, ◌++◌, ◌∷◌, ℕ, List, Ok, true, [], map, String}
use Rattle.std.specs.declared.alloc.Global.{Global}
use Rattle.packstream.specs.Tree.{Tree, list, dict}
use Rattle.packstream.specs.View.{entries_of, trees_of}
use Rattle.packstream.specs.Spelling.{Spells}
use Rattle.packstream.specs.Reading.{Read, entries_at, layer, inner}
use Rattle.structures_cells.specs.declared.cell.Cell.{Cell}
use Rattle.structures_cells.specs.Shape.{shapes, entries}
use Rattle.structures_cells.specs.Faults.{structures, structures_under}
use Rattle.structures_cells.specs.Writing.{fault_of_structure}
use Rattle.structures_cells.specs.Steps.{all_fine}
use Rattle.structures.specs.Form.{form}
use Rattle.structures.specs.Steps.{form_entry}
use Rattle.structures_decoder.specs.declared.scope.Scope.{Scope}

-- a list of these cells, as a tree
abbrev pub list_shape : List Cell → Tree
list_shape cs = list (trees_of (shapes cs))

-- a dictionary of these entries
abbrev pub dict_shape : List (String Global × Cell) → Tree
dict_shape es = dict (entries_of (entries es))

-- b is a spelling of t, and then rest
abbrev pub SpellsFront : Tree → List ℕ → List ℕ → Type 0
SpellsFront t rest b = (front : List ℕ) × Spells t front × (b ≡ front ++ rest)

-- t is read from the front of b, where so many may open around each other, and rest follows it
abbrev pub IsRead : ℕ → Tree → List ℕ → List ℕ → Type 0
IsRead room t b rest = layer (inner room) b ≡ Ok (t, rest)

-- what is read is the form of t at the version, no structure of t has a fault there, and rest follows it
abbrev pub Takes : Scope → Tree → List ℕ → Read Tree → Type 0
Takes s t rest read =
    (read ≡ Ok (form s.version t, rest))
    × (all_fine (fault_of_structure s.version) (structures t) ≡ true)

-- the same from the front of b, where so many may open around each other
abbrev pub IsTaken : Scope → ℕ → Tree → List ℕ → List ℕ → Type 0
IsTaken s room t b rest = Takes s t rest (layer (inner room) b)

-- a member that is read from the front of b joins those before it, and rest follows it
abbrev pub CellJoins : Scope → ℕ → List Tree → List Tree → List ℕ → List ℕ → Type 0
CellJoins s room old new b rest =
    (t : Tree) × (new ≡ old ++ t ∷ []) × IsTaken s room t b rest

-- so many entries of a dictionary are read from the front of b as the forms of these, and rest follows them
abbrev pub PairsTaken : Scope → ℕ → ℕ → List (List ℕ × Tree) → List ℕ → List ℕ → Type 0
PairsTaken s room n es b rest =
    (entries_at (layer (inner room)) n [] b ≡ Ok (map (form_entry s.version) es, rest))
    × (all_fine (fault_of_structure s.version) (structures_under (entries_of es)) ≡ true)

-- an entry of this key, whose value is read from the front of b, joins those before it, and rest follows it
abbrev pub PairJoins : Scope → ℕ → List ℕ → List (List ℕ × Tree) → List (List ℕ × Tree) → List ℕ
    → List ℕ → Type 0
PairJoins s room key old new b rest =
    (t : Tree) × (new ≡ old ++ (key, t) ∷ []) × IsTaken s room t b rest
