-- What bytes say that are read without a value. Private functions and proofs alone need it.
use Rattle.std.specs.Prelude.{◌≡◌, ◌≤◌, [], ◌∷◌, ◌++◌, ℕ, List, Option, Ok}
use Rattle.packstream.specs.Tree.{Tree, Trees, Entries, dict, list}
use Rattle.packstream.specs.Good.{IsGood, depth}
use Rattle.packstream.specs.Spelling.{Spells, SpellsText, SpellsTree}
use Rattle.wire.specs.declared.Version.{Version}
use Rattle.structures_decoder.specs.Fronts.{SpellsFront}
use Rattle.messages.specs.declared.request.Mode.{Mode}
use Rattle.messages.specs.declared.request.Count.{Count}
use Rattle.messages.specs.Table.{Named, Others, ignored, refused, of_transaction, how_many}
use Rattle.messages.specs.Reading.{cell_of_field, contents_of_extra, count_tree, mode_tree, token_tree}

-- the front of the bytes spells an entry, and rest follows it
abbrev pub SpellsEntry : List ℕ → Tree → List ℕ → List ℕ → Type 0
SpellsEntry k t rest b =
    (key : List ℕ) × (front : List ℕ) × SpellsText k key × SpellsTree t front
    × (b ≡ key ++ (front ++ rest))

-- the bytes spell a good dictionary whose named entries say this, the others being ignored or refused
pub record SpellsExtra (v : Version) (others : Others) (ns : List Named) (xs : List Tree) (b : List ℕ) : Type 0 where
  pub entries : Entries
  pub good : IsGood (dict entries)
  pub deep : depth (dict entries) ≤ 31
  pub spelled : Spells (dict entries) b
  pub told : contents_of_extra v others ns entries ≡ Ok xs

-- they say this count of rows of the last query
abbrev pub SpellsRows : Count → List ℕ → Type 0
SpellsRows c b = (v : Version) → SpellsExtra v refused how_many (count_tree c ∷ []) b

-- they say this mode of a transaction and this token
abbrev pub SpellsTransaction : Mode → Option (List ℕ) → List ℕ → Type 0
SpellsTransaction m token b = (v : Version) → SpellsExtra v ignored of_transaction (mode_tree m ∷ token_tree token ∷ []) b

-- the bytes spell a good dictionary whose named entries say what these say
pub record SpellsNamed (es : Entries) (b : List ℕ) : Type 0 where
  pub entries : Entries
  pub good : IsGood (dict entries)
  pub deep : depth (dict entries) ≤ 31
  pub spelled : Spells (dict entries) b
  pub told : (v : Version) (o : Others) (ns : List Named)
      → contents_of_extra v o ns entries ≡ contents_of_extra v o ns es

-- the front of the bytes spells a good dictionary, which is this dictionary of cells at the version, and rest follows it
pub record SpellsDict (v : Version) (cell : Tree) (rest b : List ℕ) : Type 0 where
  pub entries : Entries
  pub good : IsGood (dict entries)
  pub deep : depth (dict entries) ≤ 31
  pub spelled : SpellsFront (dict entries) rest b
  pub told : cell_of_field v (dict entries) ≡ Ok cell

-- the front of the bytes spells a good list, which is this list of cells at the version, and rest follows it
pub record SpellsList (v : Version) (cell : Tree) (rest b : List ℕ) : Type 0 where
  pub members : Trees
  pub good : IsGood (list members)
  pub deep : depth (list members) ≤ 31
  pub spelled : SpellsFront (list members) rest b
  pub told : cell_of_field v (list members) ≡ Ok cell
