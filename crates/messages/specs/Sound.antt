-- Which requests and responses are made of texts, of numbers in their ranges and of cells of a version. Each that was made in
-- memory and written is, and each that was read.
use Rattle.std.specs.Prelude.{◌≡◌, ℕ, List, FitsSigned, Option, None, Some, Ok, IfSome}
use Rattle.std.specs.Int.{w64}
use Rattle.std.specs.Str.{IsUtf8}
use Rattle.packstream.specs.Plain.{IsPlain}
use Rattle.packstream.specs.Tree.{Tree, list, dict}
use Rattle.packstream.specs.View.{entries_of, trees_of}
use Rattle.wire.specs.declared.Version.{Version}
use Rattle.structures.specs.Form.{Form}
use Rattle.messages.specs.declared.request.Count.{Count}
use Rattle.messages.specs.declared.request.Count.TheVariants.{All, Of}
use Rattle.messages.specs.View.{AuthView, RequestView, Hello, Logon, Logoff, Goodbye, Reset, Run, Begin, Commit, Rollback, Discard, Pull, ResponseView, Success, Record, Ignored, Failure}
use Rattle.messages.specs.Messages.{Req, Resp, request_of, response_of}
use Rattle.messages.specs.Writing.{request_spelling, response_spelling}

-- a cell of the version: a value with its texts in UTF-8 and its numbers in their ranges stands for it
abbrev pub IsCell : Version → Tree → Type 0
IsCell v s = (t : Tree) × IsPlain t × Form v s t

-- scheme, principal and credentials are UTF-8
pub record HasTexts (l : AuthView) : Type 0 where
  pub scheme : IsUtf8 l.scheme
  pub principal : IsUtf8 l.principal
  pub credentials : IsUtf8 l.credentials

-- if it is said who a client is, it is in UTF-8
abbrev pub HasLogin : Option AuthView → Type 0
HasLogin None = Unit {0}
HasLogin (Some l) = HasTexts l

-- all rows, or a number of 64 bits with a sign
abbrev pub IsCount : Count → Type 0
IsCount All = Unit {0}
IsCount (Of n) = FitsSigned w64 n

-- texts in UTF-8, counts of 64 bits, and parameters that are a cell of the version
abbrev pub IsRequest : Version → RequestView → Type 0
IsRequest v (Hello agent l) = IsUtf8 agent × HasLogin l
IsRequest v (Logon l) = HasTexts l
IsRequest v Logoff = Unit {0}
IsRequest v Goodbye = Unit {0}
IsRequest v Reset = Unit {0}
IsRequest v (Run s ps m token) = IsUtf8 s × IsCell v (dict (entries_of ps)) × IfSome token IsUtf8
IsRequest v (Begin m token) = IfSome token IsUtf8
IsRequest v Commit = Unit {0}
IsRequest v Rollback = Unit {0}
IsRequest v (Discard c) = IsCount c
IsRequest v (Pull c) = IsCount c

-- texts in UTF-8, and metadata or a row that is a cell of the version
abbrev pub IsResponse : Version → ResponseView → Type 0
IsResponse v (Success ms) = IsCell v (dict (entries_of ms))
IsResponse v (Record cs) = IsCell v (list (trees_of cs))
IsResponse v Ignored = Unit {0}
IsResponse v (Failure code message) = IsUtf8 code × IsUtf8 message

-- the spelling of a request stands for it, if it has one
abbrev pub RequestStands : Version → RequestView → Type 0
RequestStands v m = (b : List ℕ) → request_spelling v m ≡ Ok b → Req v m b

-- the spelling of a response stands for it, if it has one
abbrev pub ResponseStands : Version → ResponseView → Type 0
ResponseStands v m = (b : List ℕ) → response_spelling v m ≡ Ok b → Resp v m b

-- What has a spelling reads back: the spelling stands for the message, and is read as it.
abbrev pub RequestsReadBack : Type 0
RequestsReadBack = (v : Version) (m : RequestView) (b : List ℕ) → IsRequest v m
    → request_spelling v m ≡ Ok b → Req v m b × (request_of v b ≡ Ok m)

-- What has a spelling reads back, of responses: it stands for the response, and is read as it.
abbrev pub ResponsesReadBack : Type 0
ResponsesReadBack = (v : Version) (m : ResponseView) (b : List ℕ) → IsResponse v m
    → response_spelling v m ≡ Ok b → Resp v m b × (response_of v b ≡ Ok m)

-- A request that bytes stand for is made of texts in UTF-8, of counts of 64 bits and of cells of the version.
abbrev pub RequestsAreMade : Type 0
RequestsAreMade = (v : Version) (m : RequestView) (b : List ℕ) → Req v m b → IsRequest v m

-- A response that bytes stand for is made of texts in UTF-8 and of cells of the version.
abbrev pub ResponsesAreMade : Type 0
ResponsesAreMade = (v : Version) (m : ResponseView) (b : List ℕ) → Resp v m b → IsResponse v m
