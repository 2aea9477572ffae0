-- What a value says as a message, by the table of the messages; or its fault, the first in this order: no structure, no row
-- for the tag at the version, other fields, other entries, a fault of the cells in a field.
use Rattle.std.specs.Prelude.{if◌then◌else◌, ◌≡◌, ℕ, ℤ, pos, negsuc, int_le, nat_le, length, List, [], ◌∷◌, ◌++◌, Bool, true, false, ◌&&◌, ◌||◌, Option, None, Some, Result, Ok, Err, codes}
use Rattle.std.specs.Ordering.{int_eq}
use Rattle.std.specs.Str.{bytes_eq}
use Rattle.packstream.specs.Tree.{Tree, null, int, text, list, dict, structure, Trees, no_trees, tree_then, Entries, no_entries, entry_then}
use Rattle.wire.specs.declared.Version.{Version}
use Rattle.structures_cells.specs.declared.fault.Reason.{Reason as CellReason}
use Rattle.structures_cells.specs.Faults.{scan, fault as structure_fault, structures}
use Rattle.structures.specs.Form.{typed}
use Rattle.messages.specs.declared.fault.MsgFault.{MsgFault}
use Rattle.messages.specs.declared.fault.MsgFault.TheVariants as fault
use Rattle.packstream.specs.View.{trees_of, entries_of}
use Rattle.messages.specs.declared.request.Mode.{Mode}
use Rattle.messages.specs.declared.request.Mode.TheVariants.{Read, Write}
use Rattle.messages.specs.declared.request.Count.{Count}
use Rattle.messages.specs.declared.request.Count.TheVariants.{All, Of}
use Rattle.messages.specs.View.{AuthView, RequestView, Hello, Logon, Logoff, Goodbye, Reset, Run, Begin, Commit, Rollback, Discard, Pull, ResponseView, Success, Record, Ignored, Failure}
use Rattle.messages.specs.Table.{HELLO, LOGON, LOGOFF, GOODBYE, RESET, RUN, BEGIN, COMMIT, ROLLBACK, DISCARD, PULL, SUCCESS, RECORD, IGNORED, FAILURE, Holds, a_text, a_mode, a_count, last_query, a_token, Named, Others, ignored, refused, Field, text_field, cells, cell_list, extra, Name, Row, row_in}
use Rattle.messages.specs.Limits.{max_token}

infixl 10 ◌>>=◌
-- what a function makes of a result; a fault is handed on
abbrev pub ◌>>=◌ : {A B : Type 0} → Result A MsgFault → (A → Result B MsgFault) → Result B MsgFault
(Ok x) >>= f = f x
(Err e) >>= f = Err e

-- what a message says: its name, the contents of its fields in order, and those of its named entries in order
pub data Contents : Type 0 where
  contents : Name → List Tree → List Tree → Contents

-- whether a field is of this kind
abbrev pub is_kind : Field → Tree → Bool
is_kind text_field (text s) = true
is_kind text_field t = false
is_kind cells (dict es) = true
is_kind cells t = false
is_kind cell_list (list ts) = true
is_kind cell_list t = false
is_kind (extra o ns) (dict es) = true
is_kind (extra o ns) t = false

-- whether there are as many fields as kinds, and each is of its kind
abbrev pub are_kinds : List Field → Trees → Bool
are_kinds [] no_trees = true
are_kinds [] (tree_then t ts) = false
are_kinds (k ∷ ks) no_trees = false
are_kinds (k ∷ ks) (tree_then t ts) = is_kind k t && are_kinds ks ts

-- The entry with a name.
abbrev pub lookup : List ℕ → Entries → Option Tree
lookup name no_entries = None
lookup name (entry_then k t es) = if bytes_eq name k then Some t else lookup name es

-- what a text says: itself; it has to be there
abbrev pub contents_of_text : Option Tree → Result (List Tree) MsgFault
contents_of_text (Some (text s)) = Ok (text s ∷ [])
contents_of_text o = Err fault.Extra

-- whether the bytes of a text are `r` or `w`
abbrev pub is_mode : List ℕ → Bool
is_mode s = bytes_eq s (codes "r") || bytes_eq s (codes "w")

-- what a mode says: its text, `r` or `w`; absent it says `w`
abbrev pub contents_of_mode : Option Tree → Result (List Tree) MsgFault
contents_of_mode None = Ok (text (codes "w") ∷ [])
contents_of_mode (Some (text s)) = if is_mode s then Ok (text s ∷ []) else Err fault.Extra
contents_of_mode o = Err fault.Extra

-- -1 says all
abbrev pub contents_of_number : ℤ → Result (List Tree) MsgFault
contents_of_number z =
    if int_eq z (negsuc 0) then Ok (null ∷ [])
    else (if int_le (pos 1) z then Ok (int z ∷ []) else Err fault.Extra)

-- what a count of rows says: null for all, or a number from 1; it has to be there
abbrev pub contents_of_count : Option Tree → Result (List Tree) MsgFault
contents_of_count (Some (int z)) = contents_of_number z
contents_of_count o = Err fault.Extra

-- what the number of a query says: nothing, for it is -1, the last query's, or absent
abbrev pub contents_of_query : Option Tree → Result (List Tree) MsgFault
contents_of_query None = Ok []
contents_of_query (Some (int z)) = if int_eq z (negsuc 0) then Ok [] else Err fault.Extra
contents_of_query o = Err fault.Extra

-- a token has 1 to 64 bytes
abbrev pub is_token : List ℕ → Bool
is_token s = nat_le 1 (length s) && nat_le (length s) max_token

-- what a token says: itself, and null if there is none
abbrev pub contents_of_token : Option Tree → Result (List Tree) MsgFault
contents_of_token None = Ok (null ∷ [])
contents_of_token (Some (text s)) = if is_token s then Ok (text s ∷ []) else Err fault.Extra
contents_of_token o = Err fault.Extra

-- what a client's words of its transaction say: the token among them; its other words are ignored
abbrev pub contents_of_metadata : Option Tree → Result (List Tree) MsgFault
contents_of_metadata None = Ok (null ∷ [])
contents_of_metadata (Some (dict es)) = contents_of_token (lookup (codes "token") es)
contents_of_metadata o = Err fault.Extra

-- what an entry says by what it holds, if it is there or absent
abbrev pub contents_of_entry : Holds → Option Tree → Result (List Tree) MsgFault
contents_of_entry a_text o = contents_of_text o
contents_of_entry a_mode o = contents_of_mode o
contents_of_entry a_count o = contents_of_count o
contents_of_entry last_query o = contents_of_query o
contents_of_entry a_token o = contents_of_metadata o

-- What the named entries say that the version has.
abbrev pub contents_of_named : Version → List Named → Entries → Result (List Tree) MsgFault
contents_of_named v [] es = Ok []
contents_of_named v (n ∷ ns) es =
    (if n.stands v then contents_of_entry n.holds (lookup n.name es) else Ok [])
    >>= λ x. contents_of_named v ns es >>= λ xs. Ok (x ++ xs)

-- whether a key is the name of one of these entries
abbrev pub is_named : List ℕ → List Named → Bool
is_named k [] = false
is_named k (n ∷ ns) = bytes_eq k n.name || is_named k ns

-- whether each key of the entries is the name of one of these
abbrev pub all_named : List Named → Entries → Bool
all_named ns no_entries = true
all_named ns (entry_then k t es) = is_named k ns && all_named ns es

-- what the named entries say, if other entries are ignored or are a fault
abbrev pub contents_of_extra : Version → Others → List Named → Entries → Result (List Tree) MsgFault
contents_of_extra v ignored ns es = contents_of_named v ns es
contents_of_extra v refused ns es =
    if all_named ns es then contents_of_named v ns es else Err fault.Extra

-- what the entries of the last field say
abbrev pub contents_of_entries : Version → List Field → Trees → Result (List Tree) MsgFault
contents_of_entries v (extra o ns ∷ ks) (tree_then (dict es) ts) = contents_of_extra v o ns es
contents_of_entries v (k ∷ ks) (tree_then t ts) = contents_of_entries v ks ts
contents_of_entries v ks ts = Ok []

-- A field as a cell of the version, or the fault of its first structure with one, numbered within the field.
abbrev pub cell_by : Result ℕ (CellReason × ℕ) → Tree → Result Tree MsgFault
cell_by (Ok n) t = Ok (typed t)
cell_by (Err e) t = Err (fault.Cell e.0 e.1)

-- a field as a cell of the version, or the fault of its first structure with one
abbrev pub cell_of_field : Version → Tree → Result Tree MsgFault
cell_of_field v t = cell_by (scan (structure_fault v) 0 (structures t)) t

-- what the fields say but the one with named entries, cells as cells
abbrev pub contents_of_fields : Version → List Field → Trees → Result (List Tree) MsgFault
contents_of_fields v (text_field ∷ ks) (tree_then t ts) =
    contents_of_fields v ks ts >>= λ xs. Ok (t ∷ xs)
contents_of_fields v (cells ∷ ks) (tree_then t ts) =
    cell_of_field v t >>= λ x. contents_of_fields v ks ts >>= λ xs. Ok (x ∷ xs)
contents_of_fields v (cell_list ∷ ks) (tree_then t ts) =
    cell_of_field v t >>= λ x. contents_of_fields v ks ts >>= λ xs. Ok (x ∷ xs)
contents_of_fields v (extra o ns ∷ ks) (tree_then t ts) = contents_of_fields v ks ts
contents_of_fields v ks ts = Ok []

-- what a structure with these fields says by its row
abbrev pub contents_of_row : Version → Name → List Field → Trees → Result Contents MsgFault
contents_of_row v n ks ts =
    if are_kinds ks ts then
    (contents_of_entries v ks ts >>= λ es. contents_of_fields v ks ts >>= λ fs. Ok (contents n fs es))
    else Err fault.Fields

-- a row, where there is one and it stands at the version
abbrev pub row_at : Version → Option Row → Option Row
row_at v None = None
row_at v (Some r) = if r.stands v then Some r else None

-- what a structure with these fields says by its row; without a row its tag is a fault
abbrev pub contents_by_row : Version → Option Row → Trees → Result Contents MsgFault
contents_by_row v None ts = Err fault.UnknownTag
contents_by_row v (Some r) ts = contents_of_row v r.name r.fields ts

-- what a structure with this tag says
abbrev pub contents_at_tag : Version → List Row → ℕ → Trees → Result Contents MsgFault
contents_at_tag v table tag ts = contents_by_row v (row_at v (row_in tag table)) ts

-- what a value says as a message by the table; one that is no structure is a fault
abbrev pub contents_of_message : Version → List Row → Tree → Result Contents MsgFault
contents_of_message v table (structure tag ts) = contents_at_tag v table tag ts
contents_of_message v table t = Err fault.NotAMessage

-- what a mode says: its text, `r` or `w`
abbrev pub mode_tree : Mode → Tree
mode_tree Read = text (codes "r")
mode_tree Write = text (codes "w")

-- what a count of rows says: null for all, or the number
abbrev pub count_tree : Count → Tree
count_tree All = null
count_tree (Of n) = int n

-- what a token says: its text, and null if there is none
abbrev pub token_tree : Option (List ℕ) → Tree
token_tree None = null
token_tree (Some s) = text s

-- what it says who a client is: three texts, the scheme, the principal and the credentials
abbrev pub login_trees : AuthView → List Tree
login_trees a = text a.scheme ∷ text a.principal ∷ text a.credentials ∷ []

-- the contents of a request: its name, and what its fields and its named entries say
abbrev pub request_contents : RequestView → Contents
request_contents (Hello a None) = contents HELLO [] (text a ∷ [])
request_contents (Hello a (Some l)) = contents HELLO [] (text a ∷ login_trees l)
request_contents (Logon l) = contents LOGON [] (login_trees l)
request_contents Logoff = contents LOGOFF [] []
request_contents Goodbye = contents GOODBYE [] []
request_contents Reset = contents RESET [] []
request_contents (Run s ps m token) =
    contents RUN (text s ∷ dict (entries_of ps) ∷ []) (mode_tree m ∷ token_tree token ∷ [])
request_contents (Begin m token) = contents BEGIN [] (mode_tree m ∷ token_tree token ∷ [])
request_contents Commit = contents COMMIT [] []
request_contents Rollback = contents ROLLBACK [] []
request_contents (Discard c) = contents DISCARD [] (count_tree c ∷ [])
request_contents (Pull c) = contents PULL [] (count_tree c ∷ [])

-- the contents of a response: its name, and what its fields and its named entries say
abbrev pub response_contents : ResponseView → Contents
response_contents (Success ms) = contents SUCCESS (dict (entries_of ms) ∷ []) []
response_contents (Record cs) = contents RECORD (list (trees_of cs) ∷ []) []
response_contents Ignored = contents IGNORED [] []
response_contents (Failure c m) = contents FAILURE [] (text c ∷ text m ∷ [])

-- What a function returned, seen by view, is what is told, unless memory ran out.
abbrev pub Answers : {X Y : Type 0} → (X → Y) → Result X MsgFault → Result Y MsgFault → Type 0
Answers view (Ok x) r = r ≡ Ok (view x)
Answers view (Err e) r = (e ≡ fault.Memory → ⊥) → r ≡ Err e
