-- What the code sees of values and cells, a part at a time. Private functions and proofs alone need it.
use Rattle.std.specs.Prelude.{◌≡◌, ◌≢◌, ◌<◌, ℕ, suc, zero, List, [], ◌∷◌, map, length, true}
use Rattle.packstream.specs.Tree.{Tree, null, list, structure, Trees, no_trees, tree_then}
use Rattle.packstream.specs.Good.{count}
use Rattle.packstream.specs.View.{trees, trees_of}
use Rattle.packstream.specs.declared.value.Value.{Value}
use Rattle.wire.specs.declared.Version.{Version}
use Rattle.structures_cells.specs.declared.table.Field.{Field}
use Rattle.structures_cells.specs.Table.{node_tag, relationship_tag, unbound_tag, path_tag}
use Rattle.structures_cells.specs.Faults.{is_kind, fault, structures}
use Rattle.structures_cells.specs.Writing.{fault_of_structure}
use Rattle.structures_cells.specs.Steps.{all_fine}
use Rattle.structures.specs.Form.{typed, form}

-- an entry, with what its value is read as
abbrev pub typed_entry : List ℕ × Tree → List ℕ × Tree
typed_entry e = (e.0, typed e.1)

-- an entry, with its value in the form of a version
abbrev pub form_entry : Version → List ℕ × Tree → List ℕ × Tree
form_entry v e = (e.0, form v e.1)

-- these are those, each by f
abbrev pub AreEach : {A B : Type 0} → (A → B) → List A → List B → Type 0
AreEach f xs ys = ys ≡ map f xs

-- a structure of these values
abbrev pub with_fields : ℕ → List Value → Tree
with_fields tag xs = structure tag (trees_of (trees xs))

-- what a structure of these values is read as
abbrev pub IsRead : ℕ → List Value → Tree → Type 0
IsRead tag xs s = s ≡ typed (with_fields tag xs)

-- no structure of the value has a fault, at some version
pub record IsSound (t : Tree) : Type 0 where
  pub version : Version
  pub fine : all_fine (fault version) (structures t) ≡ true

-- the same of values in a row
abbrev pub AreSound : List Value → Type 0
AreSound xs = IsSound (list (trees_of (trees xs)))

-- the tag is that of no node, no relationship and no path
abbrev pub IsPlainTag : ℕ → Type 0
IsPlainTag tag =
    (tag ≢ node_tag) × (tag ≢ relationship_tag) × (tag ≢ unbound_tag) × (tag ≢ path_tag)

-- no structure of the cell has a fault at the version
abbrev pub Passes : Version → Tree → Type 0
Passes v s = all_fine (fault_of_structure v) (structures s) ≡ true

-- the field number i, counted from 0, and null if there is none
abbrev pub tree_at : ℕ → Trees → Tree
tree_at i no_trees = null
tree_at zero (tree_then t ts) = t
tree_at (suc i) (tree_then t ts) = tree_at i ts

-- what a field is read as, where it is of the kind
abbrev pub ReadsAs : Field → Tree → Tree → Type 0
ReadsAs k t u = is_kind k t ≡ true → u ≡ typed t

-- the same of the field number i of a structure
abbrev pub ReadsAt : Field → List Value → ℕ → Tree → Type 0
ReadsAt k xs i u = ReadsAs k (tree_at i (trees_of (trees xs))) u

-- each of us, where it is there, is what the field at its place from i on is read as
abbrev pub Got : ℕ → List Field → Trees → Trees → Type 0
Got i [] us ts = Unit {0}
Got i (k ∷ ks) no_trees ts = Unit {0}
Got i (k ∷ ks) (tree_then u us) ts = ReadsAs k (tree_at i ts) u × Got (suc i) ks us ts

-- fields of these kinds are read from place i on, or none where the structure ends there
pub record Follows (xs : List Value) (i : ℕ) (ks : List Field) (us : Trees) : Type 0 where
  pub absent : length xs ≡ i → us ≡ no_trees
  pub counted : i < length xs → count us ≡ length ks
  pub got : i < length xs → Got i ks us (trees_of (trees xs))
