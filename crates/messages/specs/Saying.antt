-- What a value says as a message, as the table lays it out, and not how it is read.
use Rattle.std.specs.Prelude.{◌≡◌, ◌↔◌, ◌≢◌, ◌≤◌, ℕ, pos, negsuc, List, [], ◌∷◌, ◌++◌, length, true, false, Option, None, Some, All, Any, Contains, codes, Ok}
use Rattle.packstream.specs.Tree.{Tree, null, int, text, list, dict, structure, Trees, no_trees, tree_then, Entries, no_entries, entry_then}
use Rattle.packstream.specs.Faults.{keys_of}
use Rattle.wire.specs.declared.Version.{Version}
use Rattle.structures.specs.Form.{Form}
use Rattle.messages.specs.Table.{Holds, a_text, a_mode, a_count, last_query, a_token, Named, Others, ignored, refused, Field, text_field, cells, cell_list, extra, Name, Row, layout}
use Rattle.messages.specs.Reading.{Contents, contents, contents_of_message}
use Rattle.messages.specs.Messages.{SpellsWhere}
use Rattle.messages.specs.Limits.{max_token}

-- the entry with a name, or that there is none; the keys of a good dictionary differ, so no other has that name
pub data IsEntry (name : List ℕ) : Entries → Option Tree → Type 0 where
  absent : IsEntry name no_entries None
  here : (t : Tree) (es : Entries) → IsEntry name (entry_then name t es) (Some t)
  further : (k : List ℕ) (t : Tree) (es : Entries) (o : Option Tree) → name ≢ k → IsEntry name es o
      → IsEntry name (entry_then k t es) o

-- what an entry says by what it holds, if it is there or absent
pub data SaysEntry : Holds → Option Tree → List Tree → Type 0 where
  the_text : (s : List ℕ) → SaysEntry a_text (Some (text s)) (text s ∷ [])
  reads : SaysEntry a_mode (Some (text (codes "r"))) (text (codes "r") ∷ [])
  writes : SaysEntry a_mode (Some (text (codes "w"))) (text (codes "w") ∷ [])
  writes_unsaid : SaysEntry a_mode None (text (codes "w") ∷ [])
  all_rows : SaysEntry a_count (Some (int (negsuc 0))) (null ∷ [])
  some_rows : (n : ℕ) → 1 ≤ n → SaysEntry a_count (Some (int (pos n))) (int (pos n) ∷ [])
  of_last : SaysEntry last_query (Some (int (negsuc 0))) []
  of_last_unsaid : SaysEntry last_query None []
  the_token : (es : Entries) (s : List ℕ) → IsEntry (codes "token") es (Some (text s)) → 1 ≤ length s
      → length s ≤ max_token → SaysEntry a_token (Some (dict es)) (text s ∷ [])
  token_unsaid : (es : Entries) → IsEntry (codes "token") es None
      → SaysEntry a_token (Some (dict es)) (null ∷ [])
  metadata_unsaid : SaysEntry a_token None (null ∷ [])

-- what those of the named entries say, in order, that the version has
pub data SaysNamed (v : Version) (es : Entries) : List Named → List Tree → Type 0 where
  no_more : SaysNamed v es [] []
  passed_over : (n : Named) (ns : List Named) (xs : List Tree) → n.stands v ≡ false
      → SaysNamed v es ns xs → SaysNamed v es (n ∷ ns) xs
  then_named : (n : Named) (ns : List Named) (o : Option Tree) (x xs : List Tree)
      → n.stands v ≡ true → IsEntry n.name es o → SaysEntry n.holds o x → SaysNamed v es ns xs
      → SaysNamed v es (n ∷ ns) (x ++ xs)

-- other entries may stand there, or each key is the name of one of these
abbrev pub HasOnly : Others → List Named → Entries → Type 0
HasOnly ignored ns es = Unit {0}
HasOnly refused ns es = All (λ k. Any (λ n. k ≡ n.name) ns) (keys_of es)

-- what a field says: itself, as a cell if it holds cells; or what its named entries say
pub data SaysField (v : Version) : Field → Tree → List Tree → List Tree → Type 0 where
  of_text : (s : List ℕ) → SaysField v text_field (text s) (text s ∷ []) []
  of_cells : (c : Tree) (es : Entries) → Form v c (dict es)
      → SaysField v cells (dict es) (c ∷ []) []
  of_list : (c : Tree) (ts : Trees) → Form v c (list ts)
      → SaysField v cell_list (list ts) (c ∷ []) []
  of_extra : (o : Others) (ns : List Named) (es : Entries) (xs : List Tree) → HasOnly o ns es
      → SaysNamed v es ns xs → SaysField v (extra o ns) (dict es) [] xs

-- what the fields say, in order, and as many as there are kinds
pub data SaysFields (v : Version) : List Field → Trees → List Tree → List Tree → Type 0 where
  no_fields : SaysFields v [] no_trees [] []
  then_field : (k : Field) (ks : List Field) (t : Tree) (ts : Trees) (f fs x xs : List Tree)
      → SaysField v k t f x → SaysFields v ks ts fs xs
      → SaysFields v (k ∷ ks) (tree_then t ts) (f ++ fs) (x ++ xs)

-- what a structure with the tag of a row says, if the version has the row
pub data SaysRow (v : Version) (r : Row) : Tree → Contents → Type 0 where
  of_row : (ts : Trees) (fs xs : List Tree) → r.stands v ≡ true → SaysFields v r.fields ts fs xs
      → SaysRow v r (structure r.tag ts) (contents r.name fs xs)

-- one of the rows of the table says it of the value
abbrev pub SaysMessage : Version → List Row → Tree → Contents → Type 0
SaysMessage v table t s = (n : Name) × Contains table (layout n) × SaysRow v (layout n) t s

-- the bytes spell a value of which a row of the table says it
abbrev pub IsSpelled : Version → List Row → Contents → List ℕ → Type 0
IsSpelled v table s b = SpellsWhere b (λ t. SaysMessage v table t s)

-- What is told of a value by the table is what a row of it says.
abbrev pub ToldByRows : List Row → Type 0
ToldByRows table = (v : Version) (t : Tree) (s : Contents) → (contents_of_message v table t ≡ Ok s) ↔ SaysMessage v table t s

-- Bytes stand for the message that a row says of the value that they spell.
abbrev pub StandsByRows : {M : Type 0} → (Version → M → List ℕ → Type 0) → List Row → (M → Contents) → Type 0
StandsByRows {M} Stands table says = (v : Version) (m : M) (b : List ℕ) → Stands v m b ↔ IsSpelled v table (says m) b
