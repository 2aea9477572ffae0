-- Which bytes stand for a message, and what is wrong with those that stand for none.
use Rattle.std.specs.Prelude.{if◌then◌else◌, ◌≡◌, ◌↔◌, ◌⊎◌, ℕ, List, [], ◌∷◌, ◌++◌, codes, Option, None, Some, Result, Ok, Err}
use Rattle.std.specs.Str.{bytes_eq}
use Rattle.packstream.specs.declared.fault.Reason.{Reason}
use Rattle.packstream.specs.Tree.{Tree, null, int, text, list, dict, Trees, no_trees, tree_then, Entries, no_entries, entry_then}
use Rattle.packstream.specs.Plain.{AreBytes}
use Rattle.packstream.specs.Good.{IsGood}
use Rattle.packstream.specs.Spelling.{Spells}
use Rattle.packstream.specs.Faults.{Bad}
use Rattle.packstream.specs.Answers.{whole_of}
use Rattle.wire.specs.declared.Version.{Version}
use Rattle.messages.specs.declared.fault.MsgFault.{MsgFault}
use Rattle.messages.specs.declared.fault.MsgFault.TheVariants as fault
use Rattle.messages.specs.declared.request.Mode.{Mode}
use Rattle.messages.specs.declared.request.Mode.TheVariants.{Read, Write}
use Rattle.messages.specs.declared.request.Count.{Count}
use Rattle.messages.specs.declared.request.Count.TheVariants.{All, Of}
use Rattle.messages.specs.declared.request.Request.{Request}
use Rattle.messages.specs.declared.response.Response.{Response}
use Rattle.messages.specs.Table.{Row, requests, responses, HELLO, LOGON, LOGOFF, GOODBYE, RESET, RUN, BEGIN, COMMIT, ROLLBACK, DISCARD, PULL, SUCCESS, RECORD, IGNORED, FAILURE}
use Rattle.messages.specs.View.{AuthView, RequestView, Hello, Logon, Logoff, Goodbye, Reset, Run, Begin, Commit, Rollback, Discard, Pull, ResponseView, Success, Record, Ignored, Failure, request_view, response_view}
use Rattle.messages.specs.Reading.{◌>>=◌, Contents, contents, contents_of_message, request_contents, response_contents, Answers}

-- the bytes spell a good value of which this is said
pub record SpellsWhere (b : List ℕ) (Says : Tree → Type 0) : Type 0 where
  pub value : Tree
  pub good : IsGood value
  pub spelled : Spells value b
  pub says : Says value

-- the bytes spell a value that says this by the table
abbrev pub Means : Version → List Row → Contents → List ℕ → Type 0
Means v table s b = SpellsWhere b (λ t. contents_of_message v table t ≡ Ok s)

-- the bytes spell no value, or one with this fault by the table
abbrev pub IsNone : Version → List Row → MsgFault → List ℕ → Type 0
IsNone v table e b =
    ((r : Reason) × (o : ℕ) × (e ≡ fault.Pack r o) × Bad b o r)
    ⊎ SpellsWhere b (λ t. contents_of_message v table t ≡ Err e)

-- the bytes stand for this request
abbrev pub Req : Version → RequestView → List ℕ → Type 0
Req v m b = Means v requests (request_contents m) b

-- the bytes stand for this response
abbrev pub Resp : Version → ResponseView → List ℕ → Type 0
Resp v m b = Means v responses (response_contents m) b

-- the bytes stand for no request of the version, and this is their fault
abbrev pub NoRequest : Version → MsgFault → List ℕ → Type 0
NoRequest v e b = IsNone v requests e b

-- the bytes stand for no response of the version, and this is their fault
abbrev pub NoResponse : Version → MsgFault → List ℕ → Type 0
NoResponse v e b = IsNone v responses e b

-- a message was returned, and seen by view it is this one
abbrev pub Gave : {X Y : Type 0} → (X → Y) → Result X MsgFault → Y → Type 0
Gave view (Ok x) y = view x ≡ y
Gave view (Err e) y = ⊥

-- this holds, unless the result is want of memory
abbrev pub UnlessMemory : {A : Type 0} → Result A MsgFault → Type 0 → Type 0
UnlessMemory (Ok x) p = p
UnlessMemory (Err e) p = (e ≡ fault.Memory → ⊥) → p

-- Apart from memory, it is the message that the bytes stand for, where they stand for one.
abbrev pub ReadsMessage : {X M : Type 0} → (X → M) → (M → List ℕ → Type 0) → Result X MsgFault → List ℕ → Type 0
ReadsMessage {X} {M} view Stands result b = (m : M) → UnlessMemory result (Gave view result m ↔ Stands m b)

-- Apart from memory, it is the first fault of the bytes, where they stand for no message.
abbrev pub RefusesBytes : {X : Type 0} → (MsgFault → List ℕ → Type 0) → Result X MsgFault → List ℕ → Type 0
RefusesBytes StandsNot result b = (e : MsgFault) → UnlessMemory result ((result ≡ Err e) ↔ StandsNot e b)

-- The message that every spelling of a value stands for, where it stands for one.
abbrev pub ReadsSpelled : {X M : Type 0} → (X → M) → (M → List ℕ → Type 0) → Result X MsgFault → Tree → Type 0
ReadsSpelled {X} {M} view Stands result t = (b : List ℕ) (m : M) → Spells t b → UnlessMemory result (Gave view result m ↔ Stands m b)

-- The first fault of every spelling of a value, where it stands for no message.
abbrev pub RefusesSpelled : {X : Type 0} → (MsgFault → List ℕ → Type 0) → Result X MsgFault → Tree → Type 0
RefusesSpelled StandsNot result t = (b : List ℕ) (e : MsgFault) → Spells t b → UnlessMemory result ((result ≡ Err e) ↔ StandsNot e b)

-- Both as a function of the bytes of every spelling of a value.
abbrev pub AnswersSpelled : {X M : Type 0} → (X → M) → (List ℕ → Result M MsgFault) → Result X MsgFault → Tree → Type 0
AnswersSpelled view told result t = (b : List ℕ) → Spells t b → Answers view result (told b)

-- what the request says that was read is this, unless memory ran out
abbrev pub TellsRequest : Result Request MsgFault → Result Contents MsgFault → Type 0
TellsRequest result told = Answers (λ r. request_contents (request_view r)) result told

-- what the response says that was read is this, unless memory ran out
abbrev pub TellsResponse : Result Response MsgFault → Result Contents MsgFault → Type 0
TellsResponse result told = Answers (λ r. response_contents (response_view r)) result told

-- Laws of what bytes stand for, of requests and of responses.

-- bytes stand for one message at most
abbrev pub OneAtMost : {M : Type 0} → (Version → M → List ℕ → Type 0) → Type 0
OneAtMost {M} Stands = (v : Version) (b : List ℕ) (m n : M) → Stands v m b → Stands v n b → m ≡ n

-- the message that bytes stand for is what the function tells of them
abbrev pub MessageIsTold : {M : Type 0} → (Version → M → List ℕ → Type 0) → (Version → List ℕ → Result M MsgFault) → Type 0
MessageIsTold {M} Stands told = (v : Version) (b : List ℕ) (m : M) → Stands v m b → told v b ≡ Ok m

-- and what it tells is what they stand for
abbrev pub ToldIsMessage : {M : Type 0} → (Version → M → List ℕ → Type 0) → (Version → List ℕ → Result M MsgFault) → Type 0
ToldIsMessage {M} Stands told = (v : Version) (b : List ℕ) (m : M) → AreBytes b → told v b ≡ Ok m → Stands v m b

-- the fault of bytes is what the function tells of them
abbrev pub FaultIsTold : {M : Type 0} → (Version → MsgFault → List ℕ → Type 0) → (Version → List ℕ → Result M MsgFault) → Type 0
FaultIsTold StandsNot told = (v : Version) (b : List ℕ) (e : MsgFault) → AreBytes b → StandsNot v e b → told v b ≡ Err e

-- and what it tells is their fault
abbrev pub ToldIsFault : {M : Type 0} → (Version → MsgFault → List ℕ → Type 0) → (Version → List ℕ → Result M MsgFault) → Type 0
ToldIsFault StandsNot told = (v : Version) (b : List ℕ) (e : MsgFault) → AreBytes b → told v b ≡ Err e → StandsNot v e b

-- the bytes of no message are a proper beginning of another's
abbrev pub NoProperBeginning : {M : Type 0} → (Version → M → List ℕ → Type 0) → Type 0
NoProperBeginning {M} Stands = (v w : Version) (m n : M) (b more : List ℕ) → Stands v m b → Stands w n (b ++ more) → more ≡ []

-- the bytes of the one are none of the other, nor begin them
abbrev pub BeginsNone : {M N : Type 0} → (Version → M → List ℕ → Type 0) → (Version → N → List ℕ → Type 0) → Type 0
BeginsNone {M} {N} Stands Others = (v w : Version) (m : M) (n : N) (b more : List ℕ) → Stands v m b → Others w n (b ++ more) → ⊥

-- These rules as functions, for the crates above.

-- what bytes say by the table, from what the decoder tells of them
abbrev pub contents_by : Version → List Row → Result Tree (Reason × ℕ) → Result Contents MsgFault
contents_by v table (Ok t) = contents_of_message v table t
contents_by v table (Err e) = Err (fault.Pack e.0 e.1)

-- what the bytes of a message say by the table, or their fault
abbrev pub contents_in : Version → List Row → List ℕ → Result Contents MsgFault
contents_in v table b = contents_by v table (whole_of b)

-- the bytes of a text, none of any other value
abbrev pub bytes_of : Tree → List ℕ
bytes_of (text s) = s
bytes_of t = []

-- the entries as a list, each a key and its value, in order
abbrev pub pairs_of : Entries → List (List ℕ × Tree)
pairs_of no_entries = []
pairs_of (entry_then k t es) = (k, t) ∷ pairs_of es

-- the values as a list, in order
abbrev pub list_of : Trees → List Tree
list_of no_trees = []
list_of (tree_then t ts) = t ∷ list_of ts

-- the keys and values of a dictionary in order, none of any other value
abbrev pub dict_pairs : Tree → List (List ℕ × Tree)
dict_pairs (dict es) = pairs_of es
dict_pairs t = []

-- the members of a list in order, none of any other value
abbrev pub list_members : Tree → List Tree
list_members (list ts) = list_of ts
list_members t = []

-- the first value, null if there is none
abbrev pub first : List Tree → Tree
first [] = null
first (t ∷ ts) = t

-- the second value, null if there is none
abbrev pub second : List Tree → Tree
second [] = null
second (t ∷ ts) = first ts

-- the third value, null if there is none
abbrev pub third : List Tree → Tree
third [] = null
third (t ∷ ts) = second ts

-- who a client is, by the first three of these values: scheme, principal, credentials
abbrev pub login_in : List Tree → AuthView
login_in ts = record {
  scheme = bytes_of (first ts);
  principal = bytes_of (second ts);
  credentials = bytes_of (third ts);
}

-- a HELLO by its values: the client's name, and if there are more, who the client is
abbrev pub hello_in : List Tree → RequestView
hello_in [] = Hello [] None
hello_in (t ∷ []) = Hello (bytes_of t) None
hello_in (t ∷ (u ∷ ts)) = Hello (bytes_of t) (Some (login_in (u ∷ ts)))

-- Read for the text `r`, and Write for every other value
abbrev pub mode_in : Tree → Mode
mode_in (text s) = if bytes_eq s (codes "r") then Read else Write
mode_in t = Write

-- the token that a text is, and none of every other value
abbrev pub token_in : Tree → Option (List ℕ)
token_in (text s) = Some s
token_in t = None

-- at most so many rows for a number, and all for every other value
abbrev pub count_in : Tree → Count
count_in (int z) = Of z
count_in t = All

-- The request that holds this. What a response says asks nothing: no table of requests tells it, and it is taken as a RESET.
abbrev pub request_held : Contents → RequestView
request_held (contents HELLO fs es) = hello_in es
request_held (contents LOGON fs es) = Logon (login_in es)
request_held (contents LOGOFF fs es) = Logoff
request_held (contents GOODBYE fs es) = Goodbye
request_held (contents RUN fs es) =
    Run (bytes_of (first fs)) (dict_pairs (second fs)) (mode_in (first es)) (token_in (second es))
request_held (contents BEGIN fs es) = Begin (mode_in (first es)) (token_in (second es))
request_held (contents COMMIT fs es) = Commit
request_held (contents ROLLBACK fs es) = Rollback
request_held (contents DISCARD fs es) = Discard (count_in (first es))
request_held (contents PULL fs es) = Pull (count_in (first es))
request_held (contents RESET fs es) = Reset
request_held (contents SUCCESS fs es) = Reset
request_held (contents RECORD fs es) = Reset
request_held (contents IGNORED fs es) = Reset
request_held (contents FAILURE fs es) = Reset

-- the response that holds this; what says a request is taken as IGNORED
abbrev pub response_held : Contents → ResponseView
response_held (contents SUCCESS fs es) = Success (dict_pairs (first fs))
response_held (contents RECORD fs es) = Record (list_members (first fs))
response_held (contents FAILURE fs es) = Failure (bytes_of (first es)) (bytes_of (second es))
response_held (contents IGNORED fs es) = Ignored
response_held (contents HELLO fs es) = Ignored
response_held (contents LOGON fs es) = Ignored
response_held (contents LOGOFF fs es) = Ignored
response_held (contents GOODBYE fs es) = Ignored
response_held (contents RESET fs es) = Ignored
response_held (contents RUN fs es) = Ignored
response_held (contents BEGIN fs es) = Ignored
response_held (contents COMMIT fs es) = Ignored
response_held (contents ROLLBACK fs es) = Ignored
response_held (contents DISCARD fs es) = Ignored
response_held (contents PULL fs es) = Ignored

-- the request that the bytes of a message stand for, or their fault
unfoldable pub request_of : Version → List ℕ → Result RequestView MsgFault
request_of v b = contents_in v requests b >>= λ s. Ok (request_held s)

-- the response that the bytes of a message stand for, or their fault
unfoldable pub response_of : Version → List ℕ → Result ResponseView MsgFault
response_of v b = contents_in v responses b >>= λ s. Ok (response_held s)
