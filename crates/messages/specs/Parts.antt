-- Messages a part at a time, as the code reads and builds them. Private functions and proofs alone need it: what it says is compared with the table.
use Rattle.std.specs.Prelude.{if◌then◌else◌, ◌≡◌, ℕ, map, String, string_bytes, pos, negsuc, int_le, List, [], ◌∷◌, ◌++◌, codes, Option, None, Some, Result, Ok, Err}
use Rattle.std.specs.Borrow.{Bor}
use Rattle.std.specs.declared.alloc.Global.{Global}
use Rattle.structures_cells.specs.Shape.{text_of, entries, shapes}
use Rattle.structures_cells.specs.declared.cell.Cell.{Cell}
use Rattle.packstream.specs.declared.fault.Reason.{Reason}
use Rattle.packstream.specs.Tree.{Tree, null, int, text, list, dict, structure, Trees, no_trees, tree_then, Entries}
use Rattle.packstream.specs.declared.value.Value.{Value}
use Rattle.packstream.specs.View.{entries_of, trees_of, trees}
use Rattle.wire.specs.declared.Version.{Version}
use Rattle.wire.specs.declared.Version.TheVariants.{V51}
use Rattle.messages.specs.declared.fault.MsgFault.{MsgFault}
use Rattle.messages.specs.declared.fault.MsgFault.TheVariants as fault
use Rattle.messages.specs.declared.entries.Kind.{Kind}
use Rattle.messages.specs.declared.entries.Kind.TheVariants.{Absent, Text, Int, Dict, Other}
use Rattle.messages.specs.declared.request.Mode.{Mode}
use Rattle.messages.specs.declared.request.Mode.TheVariants.{Read, Write}
use Rattle.messages.specs.declared.request.Count.{Count}
use Rattle.wire.specs.Versions.{every_version}
use Rattle.messages.specs.Table.{Name, Named, refused, credentials, of_transaction, how_many, RUN}
use Rattle.messages.specs.Reading.{◌>>=◌, Contents, contents, lookup, contents_of_extra, contents_of_text, contents_of_mode, contents_of_count, contents_of_query, contents_of_token, contents_of_metadata, contents_of_named, cell_of_field, mode_tree, token_tree, count_tree}
use Rattle.messages.specs.View.{AuthView, token_view}
use Rattle.messages.specs.Writing.{named_put}

-- entries whose values are seen as these trees
abbrev pub entries_seen : {T : Type 0} → (T → Tree) → List (String Global × T) → Entries
entries_seen seen es = entries_of (map (λ e. (string_bytes e.0, seen e.1)) es)

-- what stands under a name in such entries
abbrev pub found : {T : Type 0} → (T → Tree) → List ℕ → List (String Global × T) → Option Tree
found seen name es = lookup name (entries_seen seen es)

-- the fields of a structure, as a tree has them
abbrev pub fields_seen : List Value → Trees
fields_seen vs = trees_of (trees vs)

-- a dictionary of cells, as a tree
abbrev pub cells_tree : List (String Global × Cell) → Tree
cells_tree es = dict (entries_of (entries es))

-- a list of cells, as a tree
abbrev pub row_tree : List Cell → Tree
row_tree cs = list (trees_of (shapes cs))

-- what is neither a text nor an integer nor a dictionary, and is a fault under each name
pub record IsOther (t : Option Tree) : Type 0 where
  pub text : contents_of_text t ≡ Err fault.Extra
  pub mode : contents_of_mode t ≡ Err fault.Extra
  pub count : contents_of_count t ≡ Err fault.Extra
  pub query : contents_of_query t ≡ Err fault.Extra
  pub token : contents_of_token t ≡ Err fault.Extra
  pub metadata : contents_of_metadata t ≡ Err fault.Extra

-- what may stand under a name is of this kind
abbrev pub IsKind : {T : Type 0} → (T → Tree) → Kind T → Option Tree → Type 0
IsKind seen Absent o = o ≡ None
IsKind seen (Text s) o = o ≡ Some (text_of s.now)
IsKind seen (Int z) o = o ≡ Some (int z)
IsKind seen (Dict es) o = o ≡ Some (dict (entries_seen seen es.now))
IsKind seen Other o = IsOther o

-- the value that the decoder tells of bytes, or their fault
abbrev pub value_told : Result Tree (Reason × ℕ) → Result Tree MsgFault
value_told (Ok t) = Ok t
value_told (Err e) = Err (fault.Pack e.0 e.1)

-- no field; any field is a fault
abbrev pub no_field : Trees → Result (Unit {0}) MsgFault
no_field no_trees = Ok tt
no_field (tree_then t ts) = Err fault.Fields

-- the only field; another number of them is a fault
abbrev pub one_field : Trees → Result Tree MsgFault
one_field (tree_then t no_trees) = Ok t
one_field ts = Err fault.Fields

-- three fields; another number of them is a fault
abbrev pub three_fields : Trees → Result (Tree × Tree × Tree) MsgFault
three_fields (tree_then t (tree_then u (tree_then w no_trees))) = Ok (t, u, w)
three_fields ts = Err fault.Fields

-- the entries of a field that is a dictionary; another kind is a fault
abbrev pub entries_of_dict : Tree → Result Entries MsgFault
entries_of_dict (dict es) = Ok es
entries_of_dict t = Err fault.Fields

-- the entries of the only field, a dictionary; other fields are a fault
abbrev pub only_dict : Trees → Result Entries MsgFault
only_dict ts = one_field ts >>= entries_of_dict

-- the members of a field that is a list; another kind is a fault
abbrev pub members_of_list : Tree → Result Trees MsgFault
members_of_list (list ts) = Ok ts
members_of_list t = Err fault.Fields

-- who a client is, the same at each version
abbrev pub contents_of_login : Entries → Result (List Tree) MsgFault
contents_of_login es = contents_of_named V51 (credentials every_version) es

-- the mode of a transaction and its token, the same at each version
abbrev pub contents_of_transaction : Entries → Result (List Tree) MsgFault
contents_of_transaction es = contents_of_named V51 of_transaction es

-- what they say
abbrev pub transaction_trees : Mode × Option (String Global) → List Tree
transaction_trees x = mode_tree x.0 ∷ token_tree (token_view x.1) ∷ []

-- a count of rows of the last query, the same at each version; other entries are a fault
abbrev pub contents_of_rows : Entries → Result (List Tree) MsgFault
contents_of_rows es = contents_of_extra V51 refused how_many es

-- a message of a dictionary with these named entries, the others being ignored
abbrev pub contents_of_dict : Version → Name → List Named → Entries → Result Contents MsgFault
contents_of_dict v n ns es = contents_of_named v ns es >>= λ xs. Ok (contents n [] xs)

-- the bytes of a field that is a text; another kind is a fault
abbrev pub field_text : Tree → Result (List ℕ) MsgFault
field_text (text s) = Ok s
field_text t = Err fault.Fields

-- a field that is a dictionary, as it stands; another kind is a fault
abbrev pub as_dict : Tree → Result Tree MsgFault
as_dict (dict es) = Ok (dict es)
as_dict t = Err fault.Fields

-- a field that is a list, as it stands; another kind is a fault
abbrev pub as_list : Tree → Result Tree MsgFault
as_list (list ts) = Ok (list ts)
as_list t = Err fault.Fields

-- a field as a dictionary of cells of the version; a fault of its kind comes before one of the cells
abbrev pub dict_of_cells : Version → Tree → Result Tree MsgFault
dict_of_cells v t = entries_of_dict t >>= λ es. cell_of_field v t >>= as_dict

-- a field as a list of cells of the version; a fault of its kind comes before one of the cells
abbrev pub list_of_cells : Version → Tree → Result Tree MsgFault
list_of_cells v t = members_of_list t >>= λ ts. cell_of_field v t >>= as_list

-- a message without fields
abbrev pub contents_of_plain : Contents → Trees → Result Contents MsgFault
contents_of_plain s ts = no_field ts >>= λ x. Ok s

-- a RUN of its text, its parameters as they stand, and its other entries
abbrev pub contents_of_run : Version → List ℕ → Tree → Entries → Result Contents MsgFault
contents_of_run v s t es =
    contents_of_named v of_transaction es >>= λ xs. dict_of_cells v t
    >>= λ c. Ok (contents RUN (text s ∷ c ∷ []) xs)

-- a structure of one dictionary with these entries
abbrev pub with_dict : ℕ → Result Entries MsgFault → Result Tree MsgFault
with_dict tag r = r >>= λ es. Ok (structure tag (tree_then (dict es) no_trees))

-- the entries that each version writes of a mode and a token
abbrev pub transaction_put : Mode → Option (List ℕ) → Result Entries MsgFault
transaction_put m token = named_put V51 of_transaction (mode_tree m ∷ token_tree token ∷ [])

-- the entries that each version writes of a count of rows
abbrev pub rows_put : Count → Result Entries MsgFault
rows_put c = named_put V51 how_many (count_tree c ∷ [])

-- the entry of a mode, if it is written
abbrev pub mode_pairs : Mode → List (List ℕ × Tree)
mode_pairs Read = (codes "mode", text (codes "r")) ∷ []
mode_pairs Write = []

-- the bytes before the entry of a token: how many entries there are, and that of the mode, if it is written
abbrev pub mode_front : Mode → List ℕ
mode_front Read = 0xA2 ∷ 0x84 ∷ codes "mode" ++ 0x81 ∷ 0x72 ∷ []
mode_front Write = 0xA1 ∷ []

-- a dictionary of a token alone
abbrev pub token_dict : List ℕ → Tree
token_dict s = dict (entries_of ((codes "token", text s) ∷ []))

-- the number that a count is written as
abbrev pub count_number : Tree → Result Tree MsgFault
count_number null = Ok (int (negsuc 0))
count_number (int z) = if int_le (pos 1) z then Ok (int z) else Err fault.Extra
count_number t = Err fault.Extra

-- a text under its name
abbrev pub named_text : Bor (List ℕ) × Bor (List ℕ) → List ℕ × Tree
named_text e = (e.0.now, text e.1.now)

-- a structure of one dictionary of these entries
abbrev pub of_texts : ℕ → List (List ℕ × Tree) → Tree
of_texts tag ps = structure tag (tree_then (dict (entries_of ps)) no_trees)

-- the entries by which a client says who it is
abbrev pub login_pairs : AuthView → List (List ℕ × Tree)
login_pairs a =
    (codes "scheme", text a.scheme)
    ∷ (codes "principal", text a.principal)
    ∷ (codes "credentials", text a.credentials)
    ∷ []

-- the entries of HELLO: the client's name, and who it is if it is said there
abbrev pub hello_pairs : List ℕ → Option AuthView → List (List ℕ × Tree)
hello_pairs a None = (codes "user_agent", text a) ∷ []
hello_pairs a (Some l) = (codes "user_agent", text a) ∷ login_pairs l

-- the entries of FAILURE
abbrev pub error_pairs : List ℕ → List ℕ → List (List ℕ × Tree)
error_pairs c m = (codes "code", text c) ∷ (codes "message", text m) ∷ []
