-- The messages: a row each, with its tag, a test of the versions that have it, and its fields (Bolt message
-- specification). The entries of a dictionary stand in the order in which they are written.
use Rattle.std.specs.Prelude.{ℕ, List, [], ◌∷◌, Bool, if◌then◌else◌, ◌==◌, Option, None, Some, codes}
use Rattle.wire.specs.declared.Version.{Version}
use Rattle.wire.specs.Versions.{every_version, hello_has_login, has_logon}

-- the tag of HELLO, with which a client begins its session
abbrev pub hello_tag : ℕ
hello_tag = 0x01

-- the tag of LOGON, which says who the client is
abbrev pub logon_tag : ℕ
logon_tag = 0x6A

-- the tag of LOGOFF, after which nobody is logged on
abbrev pub logoff_tag : ℕ
logoff_tag = 0x6B

-- the tag of GOODBYE, with which a client ends its connection
abbrev pub goodbye_tag : ℕ
goodbye_tag = 0x02

-- the tag of RESET, which drops what is open and leads back to Ready
abbrev pub reset_tag : ℕ
reset_tag = 0x0F

-- the tag of RUN, a query with its parameters
abbrev pub run_tag : ℕ
run_tag = 0x10

-- the tag of BEGIN, which opens a transaction
abbrev pub begin_tag : ℕ
begin_tag = 0x11

-- the tag of COMMIT, which commits the open transaction
abbrev pub commit_tag : ℕ
commit_tag = 0x12

-- the tag of ROLLBACK, which drops the open transaction
abbrev pub rollback_tag : ℕ
rollback_tag = 0x13

-- the tag of DISCARD, which drops rows of the open result
abbrev pub discard_tag : ℕ
discard_tag = 0x2F

-- the tag of PULL, which asks for rows of the open result
abbrev pub pull_tag : ℕ
pull_tag = 0x3F

-- the tag of SUCCESS, which answers a request that was done
abbrev pub success_tag : ℕ
success_tag = 0x70

-- the tag of RECORD, which holds one row of a result
abbrev pub record_tag : ℕ
record_tag = 0x71

-- the tag of IGNORED, which answers a request that was passed over
abbrev pub ignored_tag : ℕ
ignored_tag = 0x7E

-- the tag of FAILURE, which answers a request with an error
abbrev pub failure_tag : ℕ
failure_tag = 0x7F

-- what a named entry holds: a text, which has to be there; `r` or `w`, where absent means `w`, which isn't written; -1 for
-- all or a number from 1, which has to be there; -1 or nothing, which isn't written; a dictionary that may have a token
pub data Holds : Type 0 where
  a_text : Holds
  a_mode : Holds
  a_count : Holds
  last_query : Holds
  a_token : Holds

-- a named entry stands at the versions that pass its test
pub record Named : Type 0 where
  pub name : List ℕ
  pub stands : Version → Bool
  pub holds : Holds

-- what becomes of the other entries
pub data Others : Type 0 where
  ignored : Others
  refused : Others

-- a text; a dictionary of cells; a list of cells; a dictionary with named entries, always the last field
pub data Field : Type 0 where
  text_field : Field
  cells : Field
  cell_list : Field
  extra : Others → List Named → Field

-- the names
pub data Name : Type 0 where
  HELLO : Name
  LOGON : Name
  LOGOFF : Name
  GOODBYE : Name
  RESET : Name
  RUN : Name
  BEGIN : Name
  COMMIT : Name
  ROLLBACK : Name
  DISCARD : Name
  PULL : Name
  SUCCESS : Name
  RECORD : Name
  IGNORED : Name
  FAILURE : Name

-- a row stands at the versions that pass its test
pub record Row : Type 0 where
  pub name : Name
  pub tag : ℕ
  pub stands : Version → Bool
  pub fields : List Field

-- a row by its parts
abbrev pub row : Name → ℕ → (Version → Bool) → List Field → Row
row n t s fs = record { name = n; tag = t; stands = s; fields = fs }

-- a named entry by its parts: its name, the test of its versions, and what it holds
abbrev pub named_entry : List ℕ → (Version → Bool) → Holds → Named
named_entry n s h = record { name = n; stands = s; holds = h }

-- the named entries that say who a client is, at the versions that pass the test
abbrev pub credentials : (Version → Bool) → List Named
credentials s =
    named_entry (codes "scheme") s a_text
    ∷ named_entry (codes "principal") s a_text
    ∷ named_entry (codes "credentials") s a_text
    ∷ []

-- the named entries of RUN and BEGIN: the mode, and what a client says of its transaction
abbrev pub of_transaction : List Named
of_transaction = named_entry (codes "mode") every_version a_mode
    ∷ named_entry (codes "tx_metadata") every_version a_token ∷ []

-- the named entries of PULL and DISCARD: a count of rows, and the number of the query
abbrev pub how_many : List Named
how_many = named_entry (codes "n") every_version a_count
    ∷ named_entry (codes "qid") every_version last_query ∷ []

-- the named entries of FAILURE: the code and the message of an error
abbrev pub of_error : List Named
of_error = named_entry (codes "code") every_version a_text
    ∷ named_entry (codes "message") every_version a_text ∷ []

-- the named entries of HELLO: the client's name, and at some versions who the client is
abbrev pub hello : List Named
hello = named_entry (codes "user_agent") every_version a_text ∷ credentials hello_has_login

-- the row of a name
abbrev pub layout : Name → Row
layout HELLO = row HELLO hello_tag every_version (extra ignored hello ∷ [])
layout LOGON = row LOGON logon_tag has_logon (extra ignored (credentials every_version) ∷ [])
layout LOGOFF = row LOGOFF logoff_tag has_logon []
layout GOODBYE = row GOODBYE goodbye_tag every_version []
layout RESET = row RESET reset_tag every_version []
layout RUN = row RUN run_tag every_version (text_field ∷ cells ∷ extra ignored of_transaction ∷ [])
layout BEGIN = row BEGIN begin_tag every_version (extra ignored of_transaction ∷ [])
layout COMMIT = row COMMIT commit_tag every_version []
layout ROLLBACK = row ROLLBACK rollback_tag every_version []
layout DISCARD = row DISCARD discard_tag every_version (extra refused how_many ∷ [])
layout PULL = row PULL pull_tag every_version (extra refused how_many ∷ [])
layout SUCCESS = row SUCCESS success_tag every_version (cells ∷ [])
layout RECORD = row RECORD record_tag every_version (cell_list ∷ [])
layout IGNORED = row IGNORED ignored_tag every_version []
layout FAILURE = row FAILURE failure_tag every_version (extra ignored of_error ∷ [])

-- the rows of requests
abbrev pub requests : List Row
requests =
    layout HELLO
    ∷ layout LOGON
    ∷ layout LOGOFF
    ∷ layout GOODBYE
    ∷ layout RESET
    ∷ layout RUN
    ∷ layout BEGIN
    ∷ layout COMMIT
    ∷ layout ROLLBACK
    ∷ layout DISCARD
    ∷ layout PULL
    ∷ []

-- the rows of responses, in the order of their tags
abbrev pub responses : List Row
responses = layout SUCCESS ∷ layout RECORD ∷ layout IGNORED ∷ layout FAILURE ∷ []

-- the row of a tag
abbrev pub row_in : ℕ → List Row → Option Row
row_in t [] = None
row_in t (r ∷ rs) = if t == r.tag then Some r else row_in t rs
