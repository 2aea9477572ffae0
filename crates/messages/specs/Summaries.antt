-- What a server of this product answers but for rows and the SUCCESS of a RUN, as messages.
use Rattle.std.specs.Prelude.{◌≡◌, ◌<◌, ◌≤◌, ◌+◌, ◌^◌, ℕ, pos, List, [], ◌∷◌, ◌++◌, length, true, Option, None, Some, codes, Ok}
use Rattle.std.specs.Str.{IsUtf8}
use Rattle.std.specs.Fmt.{decimal}
use Rattle.packstream.specs.Tree.{Tree, boolean, int, text, dict, structure, no_trees, tree_then, Entries, no_entries, entry_then}
use Rattle.packstream.specs.View.{entries_of}
use Rattle.wire.specs.declared.Version.{Version}
use Rattle.messages.specs.declared.request.Mode.{Mode}
use Rattle.messages.specs.View.{ResponseView, Success, Ignored, Failure}
use Rattle.messages.specs.Reading.{mode_tree}
use Rattle.messages.specs.Messages.{Resp}
use Rattle.messages.specs.Writing.{response_spelling}

-- a summary of a server of this product by what it tells, but for the SUCCESS of a RUN
pub data Summary : Type 0 where
  -- of a HELLO, by the server's name and the number of the connection
  Greeting : List ℕ → ℕ → Summary
  -- of a PULL after which rows are left
  RowsLeft : Summary
  -- of the last PULL or DISCARD of a result, with the place of its entry in the ledger, from 1, if it committed, and what the result was for
  Closing : Option ℕ → Mode → Summary
  -- of a COMMIT, with the place of its entry in the ledger, from 1
  Committed : ℕ → Summary
  -- with nothing to tell
  Plain : Summary
  -- a failure, with its code and message
  Refused : List ℕ → List ℕ → Summary
  -- of a request that was passed over
  Passed : Summary

-- the metadata of a SUCCESS: keys and their values, in order
abbrev pub Metadata : Type 0
Metadata = List (List ℕ × Tree)

-- the bookmark of the ledger's entry at this place, from 1
abbrev pub bookmark : ℕ → Metadata
bookmark n = (codes "bookmark", text (codes "bk:" ++ decimal n)) ∷ []

-- the bookmark where an entry's place is told, and else none
abbrev pub bookmark_of : Option ℕ → Metadata
bookmark_of None = []
bookmark_of (Some n) = bookmark n

-- what the SUCCESS of a HELLO tells: the server's name, and the number of the connection
abbrev pub greeting : List ℕ → ℕ → Metadata
greeting agent n = (codes "server", text agent)
    ∷ (codes "connection_id", text (codes "bolt-" ++ decimal n)) ∷ []

-- what the last SUCCESS of a result tells: what the result was for, and `t_last`, always 0
abbrev pub ending : Mode → Metadata
ending m = (codes "type", mode_tree m) ∷ (codes "t_last", int (pos 0)) ∷ []

-- the response
abbrev pub response_of_summary : Summary → ResponseView
response_of_summary (Greeting agent n) = Success (greeting agent n)
response_of_summary RowsLeft = Success ((codes "has_more", boolean true) ∷ [])
response_of_summary (Closing bookmarked m) = Success (bookmark_of bookmarked ++ ending m)
response_of_summary (Committed n) = Success (bookmark n)
response_of_summary Plain = Success []
response_of_summary (Refused code message) = Failure code message
response_of_summary Passed = Ignored

-- the structure of a SUCCESS with these entries
abbrev pub success : Entries → Tree
success es = structure 0x70 (tree_then (dict es) no_trees)

-- the structure of a FAILURE with this code and message
abbrev pub failure : List ℕ → List ℕ → Tree
failure code message =
    structure 0x7F (tree_then
    (dict (entry_then (codes "code") (text code)
    (entry_then (codes "message") (text message) no_entries))) no_trees)

-- the structure that it is written as
abbrev pub form_of : Summary → Tree
form_of (Greeting agent n) = success (entries_of (greeting agent n))
form_of RowsLeft = success (entry_then (codes "has_more") (boolean true) no_entries)
form_of (Closing bookmarked m) = success (entries_of (bookmark_of bookmarked ++ ending m))
form_of (Committed n) = success (entries_of (bookmark n))
form_of Plain = success no_entries
form_of (Refused code message) = failure code message
form_of Passed = structure 0x7E no_trees

-- a server's name has at most 40 bytes, the numbers of connections and of the ledger's entries are in their ranges, and a failure's texts are short
abbrev pub IsShort : Summary → Type 0
IsShort (Greeting agent n) = (length agent ≤ 40) × (n < 2 ^ 64)
IsShort (Closing (Some n) m) = n < 2 ^ 64
IsShort (Committed n) = n < 2 ^ 64
IsShort (Refused code message) = length code + length message ≤ 65000
IsShort RowsLeft = Unit {0}
IsShort (Closing None m) = Unit {0}
IsShort Plain = Unit {0}
IsShort Passed = Unit {0}

-- a server's name, and a failure's code and message, are texts
abbrev pub HasTexts : Summary → Type 0
HasTexts (Refused code message) = IsUtf8 code × IsUtf8 message
HasTexts (Greeting agent n) = IsUtf8 agent
HasTexts RowsLeft = Unit {0}
HasTexts (Closing bookmarked m) = Unit {0}
HasTexts (Committed n) = Unit {0}
HasTexts Plain = Unit {0}
HasTexts Passed = Unit {0}

-- how many bytes are enough for it
abbrev pub room : Summary → ℕ
room (Refused code message) = length code + length message + 38
room (Greeting agent n) = 100
room RowsLeft = 100
room (Closing bookmarked m) = 100
room (Committed n) = 100
room Plain = 100
room Passed = 100

-- it is written, in no more bytes than that
abbrev pub FitsRoom : Version → Summary → Type 0
FitsRoom v s = (b : List ℕ) × (response_spelling v (response_of_summary s) ≡ Ok b)
    × (length b ≤ room s)

-- what is written stands for it
abbrev pub ReadsBack : Version → Summary → Type 0
ReadsBack v s = (b : List ℕ) × (response_spelling v (response_of_summary s) ≡ Ok b)
    × Resp v (response_of_summary s) b

-- Each that is short fits its room.
abbrev pub AllFit : Type 0
AllFit = (v : Version) (s : Summary) → IsShort s → FitsRoom v s

-- Of each that is short and has texts, what is written stands for it.
abbrev pub AllReadBack : Type 0
AllReadBack = (v : Version) (s : Summary) → IsShort s → HasTexts s → ReadsBack v s
