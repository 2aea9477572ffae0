-- What is known of the requests that a client was asked: a reply for each that has its summary, the rows of the one that waits first, and the
-- outcomes of those that were lost.
use Rattle.std.specs.Prelude.{ℕ, suc, Bool, true, false, ◌&&◌, ◌==◌, ◌-◌, ◌^◌, if◌then◌else◌, nat_lt, Option, Some, None, option_map, List, [], ◌∷◌, ◌++◌, length}
use Rattle.std.specs.Option.{option_or}
use Rattle.packstream.specs.Tree.{Tree}
use Rattle.messages.specs.View.{ResponseView}
use Rattle.client.specs.declared.Outcome.{Outcome}
use Rattle.client.specs.Rest.{Note, Row, Summary}

-- what was told of a request, up to its summary
pub record ReplyView : Type 0 where
  pub ordinal : ℕ
  pub outcome : Outcome
  pub response : ResponseView
  -- the first of its rows, and how many came behind them that aren't kept
  pub rows : List (List Tree)
  pub left : ℕ

pub record Account : Type 0 where
  -- the oldest first
  pub replies : List ReplyView
  -- of the request that waits first
  pub rows : List (List Tree)
  pub left : ℕ
  pub lost : List (ℕ × Outcome)
  -- how many rows of a request are kept at most
  pub limit : ℕ

-- before anything is told
abbrev pub untold : ℕ → Account
untold limit = record { replies = []; rows = []; left = 0; lost = []; limit = limit }

-- a row more is kept: none was left out, and fewer are held than may be
abbrev pub keeps_row : Account → Bool
keeps_row a = a.left == 0 && nat_lt (length a.rows) a.limit

-- one more that isn't kept; past this number they aren't counted
abbrev pub one_more : ℕ → ℕ
one_more n = if nat_lt n (2 ^ 64 - 1) then suc n else n

-- with a row more: it is kept, or counted
abbrev pub with_row : Account → List Tree → Account
with_row a cells = if keeps_row a then record a { rows = a.rows ++ cells ∷ [] }
    else record a { left = one_more a.left }

-- with the summary of the request that waited first: the rows so far are its own
abbrev pub with_summary : Account → ℕ → Outcome → ResponseView → Account
with_summary a i o x = record a {
  replies = a.replies ++ record {
    ordinal = i;
    outcome = o;
    response = x;
    rows = a.rows;
    left = a.left;
  } ∷ [];
  rows = [];
  left = 0;
}

-- with what the client told: a version and a no-op add nothing
abbrev pub with_note : Account → Note → Account
with_note a (Row cells) = with_row a cells
with_note a (Summary i p o x) = with_summary a i o x
with_note a n = a

-- with the outcomes of those that waited when the client was lost; if none did, those of an earlier loss stay
abbrev pub with_losses : Account → List (ℕ × Outcome) → Account
with_losses a [] = a
with_losses a ls = record a { lost = ls }

-- the reply to the request with this ordinal
abbrev pub reply_in : ℕ → List ReplyView → Option ReplyView
reply_in i [] = None
reply_in i (r ∷ rs) = if r.ordinal == i then Some r else reply_in i rs

-- the outcome of this ordinal at the loss
abbrev pub outcome_lost : ℕ → List (ℕ × Outcome) → Option Outcome
outcome_lost i [] = None
outcome_lost i (x ∷ xs) = if x.0 == i then Some x.1 else outcome_lost i xs

-- what became of a request, as soon as it is known
abbrev pub outcome_of : Account → ℕ → Option Outcome
outcome_of a i =
    option_or (option_map (λ r. r.outcome) (reply_in i a.replies)) (outcome_lost i a.lost)

-- its summary: the metadata, or the FAILURE's code and message
abbrev pub response_of : Account → ℕ → Option ResponseView
response_of a i = option_map (λ r. r.response) (reply_in i a.replies)

-- the code and the message of a FAILURE
abbrev pub failure_in : ResponseView → Option (List ℕ × List ℕ)
failure_in (ResponseView.Failure code message) = Some (code, message)
failure_in x = None

-- the same of a response, if there is one
abbrev pub failure_by : Option ResponseView → Option (List ℕ × List ℕ)
failure_by None = None
failure_by (Some x) = failure_in x

-- the code and the message of its FAILURE
abbrev pub failure_of : Account → ℕ → Option (List ℕ × List ℕ)
failure_of a i = failure_by (response_of a i)

-- the rows of a request that has no reply: those of the first that waits
abbrev pub rows_or : Option ReplyView → Bool → List (List Tree) → List (List Tree)
rows_or (Some r) waits rows = r.rows
rows_or None true rows = rows
rows_or None false rows = []

-- the rows that are held of a request; first: the ordinal of the one that waits first
abbrev pub rows_of : ℕ → Account → ℕ → List (List Tree)
rows_of first a i = rows_or (reply_in i a.replies) (first == i) a.rows

-- how many rows of a request came behind those that were kept, by its reply, or by what waits first
abbrev pub left_or : Option ReplyView → Bool → ℕ → ℕ
left_or (Some r) waits left = r.left
left_or None true left = left
left_or None false left = 0

-- the same by the account; first: the ordinal of the one that waits first
abbrev pub left_of : ℕ → Account → ℕ → ℕ
left_of first a i = left_or (reply_in i a.replies) (first == i) a.left

-- the replies, with no rows of this ordinal
abbrev pub without_rows : ℕ → List ReplyView → List ReplyView
without_rows i [] = []
without_rows i (r ∷ rs) = if r.ordinal == i then record r { rows = [] } ∷ rs
    else r ∷ without_rows i rs

-- whether there is a reply, and whether the request waits first
abbrev pub taken_or : Option ReplyView → Bool → Account → List ReplyView → Account
taken_or (Some r) waits a rest = record a { replies = rest }
taken_or None true a rest = record a { rows = [] }
taken_or None false a rest = a

-- once the rows of a request are taken
abbrev pub rows_taken : ℕ → Account → ℕ → Account
rows_taken first a i =
    taken_or (reply_in i a.replies) (first == i) a (without_rows i a.replies)

-- once all is forgotten
abbrev pub settled : Account → Account
settled a = untold a.limit
