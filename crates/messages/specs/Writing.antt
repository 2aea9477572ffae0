-- The one written form of a message, or why it can't be written, the first in this order: no message of the version, an entry
-- that is missing, not allowed or out of range, a fault of its cells, the whole too deep, more than 65,536 bytes.
use Rattle.std.specs.Prelude.{if◌then◌else◌, ◌≡◌, ℕ, pos, negsuc, int_le, nat_lt, List, [], ◌∷◌, ◌++◌, length, false, codes, Result, Ok, Err}
use Rattle.std.specs.Str.{bytes_eq}
use Rattle.packstream.specs.declared.fault.Reason.{Reason as PackReason}
use Rattle.packstream.specs.Tree.{Tree, null, int, text, dict, structure, Trees, no_trees, tree_then, Entries, no_entries, entry_then}
use Rattle.packstream.specs.Canon.{canon}
use Rattle.packstream.specs.Making.{first_fault, faults_in}
use Rattle.wire.specs.declared.Version.{Version}
use Rattle.messages.specs.declared.fault.MsgFault.{MsgFault}
use Rattle.messages.specs.declared.fault.MsgFault.TheVariants as fault
use Rattle.messages.specs.Table.{Holds, a_text, a_mode, a_count, last_query, a_token, Named, Field, text_field, cells, cell_list, extra, Row, layout}
use Rattle.messages.specs.declared.request.Request.{Request}
use Rattle.messages.specs.declared.response.Response.{Response}
use Rattle.messages.specs.View.{RequestView, ResponseView, request_view, response_view}
use Rattle.messages.specs.Reading.{◌>>=◌, is_token, Contents, contents, request_contents, response_contents}
use Rattle.messages.specs.Cells.{cell_put}
use Rattle.packstream.specs.Limits.{max_size}

-- Entries, from what they say in order.
abbrev pub Onward : Type 0
Onward = List Tree → Result Entries MsgFault

-- an entry and those after it
abbrev pub with_entry : List ℕ → Tree → Result Entries MsgFault → Result Entries MsgFault
with_entry k t r = r >>= λ es. Ok (entry_then k t es)

-- an entry that holds a text, and those after it; without a text it is a fault
abbrev pub text_put : List ℕ → List Tree → Onward → Result Entries MsgFault
text_put k (text s ∷ xs) rest = with_entry k (text s) (rest xs)
text_put k xs rest = Err fault.Extra

-- `w` isn't written
abbrev pub mode_put : List ℕ → List Tree → Onward → Result Entries MsgFault
mode_put k (text s ∷ xs) rest =
    if bytes_eq s (codes "w") then rest xs else with_entry k (text s) (rest xs)
mode_put k xs rest = Err fault.Extra

-- all is written as -1
abbrev pub count_put : List ℕ → List Tree → Onward → Result Entries MsgFault
count_put k (null ∷ xs) rest = with_entry k (int (negsuc 0)) (rest xs)
count_put k (int z ∷ xs) rest =
    if int_le (pos 1) z then with_entry k (int z) (rest xs) else Err fault.Extra
count_put k xs rest = Err fault.Extra

-- a token is written in a dictionary of its own; without one there is no entry
abbrev pub token_put : List ℕ → List Tree → Onward → Result Entries MsgFault
token_put k (null ∷ xs) rest = rest xs
token_put k (text s ∷ xs) rest =
    if is_token s then
    with_entry k (dict (entry_then (codes "token") (text s) no_entries)) (rest xs)
    else Err fault.Extra
token_put k xs rest = Err fault.Extra

-- an entry by what it holds, and those after it; the number of a query isn't written
abbrev pub entry_put : Holds → List ℕ → List Tree → Onward → Result Entries MsgFault
entry_put a_text k xs rest = text_put k xs rest
entry_put a_mode k xs rest = mode_put k xs rest
entry_put a_count k xs rest = count_put k xs rest
entry_put last_query k xs rest = rest xs
entry_put a_token k xs rest = token_put k xs rest

-- no entry more; what is left to say is a fault
abbrev pub none_put : List Tree → Result Entries MsgFault
none_put [] = Ok no_entries
none_put (x ∷ xs) = Err fault.Extra

-- the entries that the version has
abbrev pub named_put : Version → List Named → List Tree → Result Entries MsgFault
named_put v [] xs = none_put xs
named_put v (n ∷ ns) xs =
    if n.stands v then entry_put n.holds n.name xs (λ ys. named_put v ns ys) else named_put v ns xs

-- the entries of the last field
abbrev pub entries_put : Version → List Field → List Tree → Result Entries MsgFault
entries_put v [] xs = Ok no_entries
entries_put v (extra o ns ∷ ks) xs = named_put v ns xs
entries_put v (k ∷ ks) xs = entries_put v ks xs

-- a field and those after it, or the first fault
abbrev pub then_put : Result Tree MsgFault → Result Trees MsgFault → Result Trees MsgFault
then_put r rs = r >>= λ t. rs >>= λ ts. Ok (tree_then t ts)

-- the fields by their kinds, cells in their form at the version; or the first fault
abbrev pub fields_put : Version → List Field → List Tree → Entries → Result Trees MsgFault
fields_put v [] xs es = Ok no_trees
fields_put v (extra o ns ∷ ks) xs es = then_put (Ok (dict es)) (fields_put v ks xs es)
fields_put v (text_field ∷ ks) (x ∷ xs) es = then_put (Ok x) (fields_put v ks xs es)
fields_put v (cells ∷ ks) (x ∷ xs) es = then_put (cell_put v x) (fields_put v ks xs es)
fields_put v (cell_list ∷ ks) (x ∷ xs) es = then_put (cell_put v x) (fields_put v ks xs es)
fields_put v (k ∷ ks) [] es = Err fault.Fields

-- the structure of a row with these contents, if the version has the row; or why there is none
abbrev pub row_put : Version → Row → List Tree → List Tree → Result Tree MsgFault
row_put v r fs xs =
    if r.stands v then
    (entries_put v r.fields xs >>= λ es. fields_put v r.fields fs es >>= λ ts. Ok (structure r.tag ts))
    else Err fault.UnknownTag

-- the structure of a message, by its row
abbrev pub form_put : Version → Contents → Result Tree MsgFault
form_put v (contents n fs xs) = row_put v (layout n) fs xs

-- a value after a search for its faults: itself, or the first fault with its preorder number
abbrev pub packed_by : Result ℕ (PackReason × ℕ) → Tree → Result Tree MsgFault
packed_by (Ok n) t = Ok t
packed_by (Err e) t = Err (fault.Pack e.0 e.1)

-- the shortest spelling of a value, or that it has more than 65,536 bytes
abbrev pub spelling_within : Tree → Result (List ℕ) MsgFault
spelling_within t = if nat_lt max_size (length (canon t)) then Err fault.Size else Ok (canon t)

-- the shortest spelling of a value, or its first fault, or else that it has too many bytes
abbrev pub spelling_of_tree : Tree → Result (List ℕ) MsgFault
spelling_of_tree t = packed_by (first_fault (faults_in 0 false t) 0) t >>= spelling_within

-- the spelling of a message with these contents at a version, or why it can't be written
abbrev pub spelling_of_contents : Version → Contents → Result (List ℕ) MsgFault
spelling_of_contents v s = form_put v s >>= spelling_of_tree

-- the spelling of a request at a version, or why it can't be written
unfoldable pub request_spelling : Version → RequestView → Result (List ℕ) MsgFault
request_spelling v m = spelling_of_contents v (request_contents m)

-- the spelling of a response at a version, or why it can't be written
unfoldable pub response_spelling : Version → ResponseView → Result (List ℕ) MsgFault
response_spelling v m = spelling_of_contents v (response_contents m)

-- the spelling of a request as it is in memory
abbrev pub spelling_of_request : Version → Request → Result (List ℕ) MsgFault
spelling_of_request v r = request_spelling v (request_view r)

-- the spelling of a response as it is in memory
abbrev pub spelling_of_response : Version → Response → Result (List ℕ) MsgFault
spelling_of_response v r = response_spelling v (response_view r)

-- the structure of a request as it is in memory, or why it can't be written
abbrev pub form_of_request : Version → Request → Result Tree MsgFault
form_of_request v r = form_put v (request_contents (request_view r))

-- the structure of a response as it is in memory, or why it can't be written
abbrev pub form_of_response : Version → Response → Result Tree MsgFault
form_of_response v r = form_put v (response_contents (response_view r))

-- The spelling was appended, or nothing, and why; unless memory ran out.
abbrev pub Appends : {A : Type 0} → Result A MsgFault → List ℕ → List ℕ → Result (List ℕ) MsgFault
    → Type 0
Appends (Ok x) old new r = (b : List ℕ) × (r ≡ Ok b) × (new ≡ old ++ b)
Appends (Err e) old new r = (new ≡ old) × ((e ≡ fault.Memory → ⊥) → r ≡ Err e)
