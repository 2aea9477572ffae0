-- What a session answers to one request, and what it leaves open.
use Rattle.std.specs.Prelude.{ℕ, suc, ◌+◌, ℤ, pos, negsuc, Bool, true, false, ◌&&◌, if◌then◌else◌, nat_le, Option, Some, None, is_some, option_to_list, Result, Ok, Err, List, [], ◌∷◌, ◌++◌, length, drop, map, codes}
use Rattle.std.specs.Str.{bytes_eq}
use Rattle.packstream.specs.Tree.{Tree, int, text, list}
use Rattle.packstream.specs.View.{trees_of}
use Rattle.wire.specs.declared.Version.{Version}
use Rattle.wire.specs.Versions.{hello_has_login}
use Rattle.structures.specs.Fitting.{fitted}
use Rattle.messages.specs.declared.fault.MsgFault.{MsgFault}
use Rattle.messages.specs.declared.request.Mode.{Mode}
use Rattle.messages.specs.declared.request.Mode.TheVariants.{Read, Write}
use Rattle.messages.specs.declared.request.Count.{Count}
use Rattle.messages.specs.declared.request.Count.TheVariants.{All, Of}
use Rattle.messages.specs.View.{AuthView, RequestView, ResponseView}
use Rattle.messages.specs.Summaries.{Metadata, response_of_summary, Greeting, RowsLeft, Closing, Committed, Plain, Passed}
use Rattle.messages.specs.Writing.{response_spelling}
use Rattle.machine.specs.declared.states.State.{State}
use Rattle.machine.specs.declared.rows.Verdict.{Verdict}
use Rattle.machine.specs.Asks.{kind_of, is_reset, is_goodbye}
use Rattle.machine.specs.Rows.{row_at}
use Rattle.engine.specs.declared.answer.Mode.{Mode as QueryMode}
use Rattle.engine.specs.declared.answer.Mode.TheVariants as query
use Rattle.engine.specs.Views.{WriteView, ParameterView, Token, EntryView, AnswerView, QueryFault}
use Rattle.engine.specs.Tokens.{Found, Free, There, Other, found_in}
use Rattle.engine.specs.Welcomes.{Welcome}
use Rattle.server_session.specs.declared.fault.Fault.{Fault}
use Rattle.server_session.specs.declared.fault.Fault.TheVariants as fault
use Rattle.server_session.specs.Faults.{failure, of_query, of_writer}
use Rattle.server_session.specs.Said.{fits}
use Rattle.server_session.specs.Limits.{max_writes}

-- what the engine answers, and whom the gate lets in under which name of the server, by their definitions
pub record Setting : Type 0 where
  pub run : List EntryView → List WriteView → List ℕ → List ParameterView → QueryMode
      → Result AnswerView QueryFault
  pub welcome : Welcome

-- The open result: its rows left, as the version has them; its mode; the write that its last summary commits, which a transaction
-- has already taken over; and how many rows were written for the waiting PULL.
pub record Open : Type 0 where
  pub rows : List (List Tree)
  pub mode : Mode
  pub write : Option WriteView
  pub written : ℕ
  -- the token of its RUN; in a transaction none, for there the token is the transaction's
  pub token : Token

-- the result if none is open: no rows, mode `r`, no write, no token
abbrev pub no_result : Open
no_result = record { rows = []; mode = Read; write = None; written = 0; token = None }

-- the open transaction
pub record Tx : Type 0 where
  pub mode : Mode
  pub writes : List WriteView
  -- the token of its BEGIN
  pub token : Token

-- the transaction if none is open: mode `w`, no writes, no token
abbrev pub no_tx : Tx
no_tx = record { mode = Write; writes = []; token = None }

-- what a step commits: writes, and the token under which they are known again
pub record Change : Type 0 where
  pub writes : List WriteView
  pub token : Token

-- what the last summary of a result commits outside a transaction
abbrev pub change_alone : Open → Change
change_alone left = record { writes = option_to_list left.write; token = left.token }

-- what a COMMIT commits
abbrev pub change_inside : Tx → Change
change_inside tx = record { writes = tx.writes; token = tx.token }

-- one step's answer: a row, or a verdict with its response, what is open then, and what it commits; or none at all
pub data Reply : Type 0 where
  OneRow : List Tree → Open → Reply
  Summary : Verdict → ResponseView → Open → Tx → Option Change → Reply
  Bye : Reply

-- the FAILURE of this fault, after which nothing is open
abbrev pub fails : Fault → Reply
fails f = Summary Verdict.Failure (response_of_summary (failure f)) no_result no_tx None

-- a success with this response, after which nothing is open
abbrev pub succeeds : ResponseView → Reply
succeeds m = Summary Verdict.Success m no_result no_tx None

-- how many rows a count takes at most, if it doesn't take all
abbrev pub rows_of : ℤ → ℕ
rows_of (pos n) = n
rows_of (negsuc n) = 0

-- the count of a PULL is used up
abbrev pub used_up : Count → ℕ → Bool
used_up All n = false
used_up (Of z) n = nat_le (rows_of z) n

-- how many rows a count takes at most, if there are so many
abbrev pub count_at : Count → ℕ → ℕ
count_at All all = all
count_at (Of z) all = rows_of z

-- the rows that a count leaves
abbrev pub left_after : Count → List (List Tree) → List (List Tree)
left_after All rows = []
left_after (Of z) rows = drop (rows_of z) rows

-- the states in which a transaction is open
abbrev pub in_transaction : State → Bool
in_transaction State.TxReady = true
in_transaction State.TxStreaming = true
in_transaction _ = false

-- How a commit is answered, by what a ledger of so many entries has of it: where it adds an entry, or the entry was there, by the
-- SUCCESS that tells the entry's place; where other writes have its token, by a FAILURE.
abbrev pub commits_as : ℕ → Change → (ℕ → ResponseView) → Found → Reply
commits_as len change said Free = Summary Verdict.Success (said (len + 1)) no_result no_tx (Some change)
commits_as len change said (There n) = Summary Verdict.Success (said n) no_result no_tx None
commits_as len change said Other = fails fault.TokenClash

-- a commit over a ledger
abbrev pub commits_over : List EntryView → Change → (ℕ → ResponseView) → Reply
commits_over ledger change said =
    commits_as (length ledger) change said (found_in change.token change.writes ledger)

-- the last summary of a result
abbrev pub close_last : State → List EntryView → Open → Tx → Reply
close_last State.Streaming ledger left tx =
    commits_over ledger (change_alone left)
    (λ n. response_of_summary (Closing (Some n) left.mode))
close_last _ ledger left tx =
    Summary Verdict.Success (response_of_summary (Closing None left.mode)) no_result tx None

-- the summary of a PULL or DISCARD that leaves these rows
abbrev pub close : State → List EntryView → List (List Tree) → Open → Tx → Reply
close s ledger (r ∷ rs) left tx =
    Summary Verdict.More (response_of_summary RowsLeft)
    (record left { rows = r ∷ rs; written = 0 }) tx None
close s ledger [] left tx = close_last s ledger left tx

-- why a response isn't written
abbrev pub unwritable : Result (List ℕ) MsgFault → Fault
unwritable (Ok b) = fault.NotInVersion
unwritable (Err e) = of_writer e

-- the response, if it can be written, and else a failure
abbrev pub if_fits : Version → ResponseView → Reply → Reply
if_fits v m reply = if fits v m then reply else fails (unwritable (response_spelling v m))

-- a step of a PULL: the next row, or a failure if it can't be written; the summary if no row is left or
-- the count is used up
abbrev pub pull : Version → State → List EntryView → Count → List (List Tree) → Open → Tx → Reply
pull v s ledger n [] left tx = close s ledger [] left tx
pull v s ledger n (r ∷ rs) left tx =
    if used_up n left.written then close s ledger (r ∷ rs) left tx
    else if_fits v (ResponseView.Record r)
    (OneRow r (record left { rows = rs; written = suc left.written }))

-- the answer to who the client is: this response where the gate lets it in, by the one scheme of this product
abbrev pub reply_to_login : Setting → AuthView → ResponseView → Reply
reply_to_login S a m =
    if bytes_eq a.scheme (codes "basic") && S.welcome.accepts a.principal a.credentials then succeeds m
    else fails fault.Unauthorized

-- a transaction with one more write
abbrev pub with_write : Tx → Option WriteView → Tx
with_write tx w = record tx { writes = tx.writes ++ option_to_list w }

-- a request's mode, as the engine has it
abbrev pub query_mode : Mode → QueryMode
query_mode Read = query.Read
query_mode Write = query.Write

-- the engine's mode, as messages have it
abbrev pub result_mode : QueryMode → Mode
result_mode query.Read = Read
result_mode query.Write = Write

-- what the SUCCESS of a RUN tells
abbrev pub fields_told : List (List ℕ) → Metadata
fields_told names =
    (codes "fields", list (trees_of (map text names))) ∷ (codes "t_first", int (pos 0)) ∷ []

-- the SUCCESS of a RUN
abbrev pub fields_said : List (List ℕ) → ResponseView
fields_said names = ResponseView.Success (fields_told names)

-- rows with each cell fitted to a version
abbrev pub rows_fitted : Version → List (List Tree) → List (List Tree)
rows_fitted v rows = map (map (fitted v)) rows

-- the result that an answer opens
abbrev pub result_of_answer : Version → State → Token → AnswerView → Open
result_of_answer v s token a =
    record {
      rows = rows_fitted v a.rows;
      mode = result_mode a.mode;
      write = if in_transaction s then None else a.write;
      written = 0;
      token = if in_transaction s then None else token;
    }

-- the SUCCESS of a RUN whose answer is opened
abbrev pub opened : Version → State → Tx → Token → AnswerView → Reply
opened v s tx token a =
    Summary Verdict.Success (fields_said a.fields) (result_of_answer v s token a)
    (if in_transaction s then with_write tx a.write else no_tx) None

-- the reply to a RUN whose answer is opened, if the SUCCESS with its fields can be written
abbrev pub opens : Version → State → Tx → Token → AnswerView → Reply
opens v s tx token a = if_fits v (fields_said a.fields) (opened v s tx token a)

-- the reply to a RUN, by what the engine answers
abbrev pub reply_to_run : Version → State → Tx → Token → Result AnswerView QueryFault → Reply
reply_to_run v s tx token (Err e) = fails (of_query e)
reply_to_run v s tx token (Ok a) =
    if in_transaction s && (is_some a.write && nat_le max_writes (length tx.writes)) then
    fails fault.TooManyWrites
    else opens v s tx token a

-- the reply to a HELLO that logs on, by who the client says it is
abbrev pub reply_to_hello : Setting → Option AuthView → ResponseView → Reply
reply_to_hello S None m = fails fault.Unauthorized
reply_to_hello S (Some a) m = reply_to_login S a m

-- a HELLO, which logs on where it carries who the client is
abbrev pub greets : Setting → Version → ℕ → Option AuthView → Reply
greets S v c auth =
    if hello_has_login v then reply_to_hello S auth (response_of_summary (Greeting S.welcome.agent c))
    else succeeds (response_of_summary (Greeting S.welcome.agent c))

-- a request that has a row in its state
abbrev pub perform : Setting → Version → ℕ → List EntryView → State → Open → Tx → RequestView
    → Reply
perform S v c ledger s left tx (RequestView.Hello agent auth) = greets S v c auth
perform S v c ledger s left tx (RequestView.Logon a) =
    reply_to_login S a (response_of_summary Plain)
perform S v c ledger s left tx (RequestView.Run query params mode token) =
    if in_transaction s
    then reply_to_run v s tx token (S.run ledger tx.writes query params (query_mode tx.mode))
    else reply_to_run v s tx token (S.run ledger [] query params (query_mode mode))
perform S v c ledger s left tx (RequestView.Begin mode token) =
    Summary Verdict.Success (response_of_summary Plain) no_result
    (record { mode = mode; writes = []; token = token }) None
perform S v c ledger s left tx RequestView.Commit =
    commits_over ledger (change_inside tx) (λ n. response_of_summary (Committed n))
perform S v c ledger s left tx (RequestView.Pull n) = pull v s ledger n left.rows left tx
perform S v c ledger s left tx (RequestView.Discard n) =
    close s ledger (left_after n left.rows) left tx
perform S v c ledger s left tx _ = succeeds (response_of_summary Plain)

-- Failed and Interrupted
abbrev pub is_halted : State → Bool
is_halted State.Failed = true
is_halted State.Interrupted = true
is_halted _ = false

-- in Failed and Interrupted: a RESET, which comes to be worked in Interrupted alone, and every other request but GOODBYE
abbrev pub passed_over : Bool → Reply
passed_over is_reset = if is_reset then succeeds (response_of_summary Plain)
    else Summary Verdict.Ignored (response_of_summary Passed) no_result no_tx None

-- what the session does with the first waiting request
abbrev pub serve : Setting → Version → ℕ → List EntryView → State → Open → Tx → RequestView → Reply
serve S v c ledger s left tx q =
    if is_goodbye (kind_of q) then Bye
    else (if is_halted s
    then passed_over (is_reset (kind_of q))
    else (if is_some (row_at v s (kind_of q) Verdict.Success) then perform S v c ledger s left tx q
    else Summary Verdict.Invalid (response_of_summary (failure fault.Invalid)) no_result no_tx
    None))
