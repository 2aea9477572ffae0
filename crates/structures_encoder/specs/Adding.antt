-- What is added to an output. But for list_of and dict_of private functions and proofs alone need it.
use Rattle.std.specs.Prelude.{◌≡◌, ◌+◌, ◌-◌, ◌++◌, ℕ, List, map, true, String, Result, IfOk, OnOk}
use Rattle.std.specs.declared.alloc.Global.{Global}
use Rattle.packstream.specs.Prelude.{Tree, list, dict, Trees, canon, canon_all, canon_entries, trees_of, entries_of}
use Rattle.packstream.specs.Writing.{Grown}
use Rattle.structures_cells.specs.declared.cell.Cell.{Cell}
use Rattle.structures_cells.specs.Prelude.{entries, structures, all_fine, fault_of_structure}
use Rattle.structures.specs.Prelude.{form, form_all, form_under}
use Rattle.structures_encoder.specs.declared.scope.Scope.{Scope}
use Rattle.structures_encoder.specs.declared.scope.Inside.TheVariants.{Unchecked}
use Rattle.structures_encoder.specs.Ready.{IsReady, AreReady, HaveReady}

-- these bytes are added, and what they spell is ready
pub record Adds (bytes : List ℕ) (Ready : Type 0) (old new : Grown) : Type 0 where
  pub added : new.more ≡ old.more ++ bytes
  pub ready : Ready

-- what was there before the mark stays, and this is added if the answer is yes
pub record Puts {T E : Type 0} (Added : Grown → Grown → Type 0) (old new : Grown) (result : Result T E) : Type 0 where
  pub before : new.before ≡ old.before
  pub put : OnOk result (Added old new)

-- a tree as it stands
abbrev pub AddsTree : Scope → Tree → Grown → Grown → Type 0
AddsTree s t = Adds (canon t) (IsReady s.room t)

-- a tree in the form of the version
abbrev pub Spells : Scope → Tree → Grown → Grown → Type 0
Spells s t = AddsTree s (form s.version t)

-- trees in that form, one after the other
abbrev pub SpellsAll : Scope → Trees → Grown → Grown → Type 0
SpellsAll s ts = Adds (canon_all (form_all s.version ts)) (AreReady s.room (form_all s.version ts))

-- the same in whatever scope
abbrev pub SpellsAnywhere : Trees → Grown → Grown → Type 0
SpellsAnywhere ts old new = (s : Scope) → SpellsAll s ts old new

-- what is each seen as a tree, in that form
abbrev pub SpellsEach : {A : Type 0} → Scope → (A → Tree) → List A → Grown → Grown → Type 0
SpellsEach s f xs = SpellsAll s (trees_of (map f xs))

-- entries, their values in that form
abbrev pub SpellsPairs : Scope → List (String Global × Cell) → Grown → Grown → Type 0
SpellsPairs s es =
    Adds (canon_entries (form_under s.version (entries_of (entries es))))
    (HaveReady s.room (form_under s.version (entries_of (entries es))))

-- the structures of a tree have no fault at the version, unless that is known
abbrev pub IsPassed : Scope → Tree → Type 0
IsPassed s t = s.inside ≡ Unchecked → all_fine (fault_of_structure s.version) (structures t) ≡ true

-- a list of what is each seen as a tree
abbrev pub list_of : {A : Type 0} → (A → Tree) → List A → Tree
list_of f xs = list (trees_of (map f xs))

-- a dictionary of these entries
abbrev pub dict_of : List (String Global × Cell) → Tree
dict_of es = dict (entries_of (entries es))

-- the scope of what is one level deeper
pub record IsInner (s i : Scope) : Type 0 where
  pub is : i ≡ record s { room = s.room - 1 }
  pub room : s.room ≡ i.room + 1

-- these bytes are added in front of what is one level deeper
pub record Opens (s : Scope) (bytes : List ℕ) (old new : Grown) (i : Scope) : Type 0 where
  pub inner : IsInner s i
  pub added : new.more ≡ old.more ++ bytes

-- what was there before the mark stays, and these bytes are added in that way if the answer is yes
pub record PutsHead {E : Type 0} (s : Scope) (bytes : List ℕ) (old new : Grown) (result : Result Scope E) : Type 0 where
  pub before : new.before ≡ old.before
  pub opens : IfOk result (Opens s bytes old new)
