-- What a step decides before it changes anything, and what it leaves.
use Rattle.std.specs.Prelude.{◌≡◌, if◌then◌else◌, ℕ, suc, ◌+◌, ◌<◌, ◌≤◌, List, [], ◌∷◌, ◌++◌, length, drop, Option, Some, None, option_map, is_some, Result, Ok, Err, Bool, true, false, not, ◌&&◌, ◌==◌}
use Rattle.packstream.specs.Tree.{Tree}
use Rattle.wire.specs.declared.Version.{Version}
use Rattle.messages.specs.View.{RequestView, ResponseView}
use Rattle.messages.specs.Summaries as messages
use Rattle.messages.specs.Summaries.{response_of_summary}
use Rattle.messages.specs.Writing.{response_spelling}
use Rattle.wire.specs.Texts.{written_run}
use Rattle.messages.specs.Arrivals.{run_of_result, Arrival, Asked, Unread, TooLong}
use Rattle.machine.specs.declared.states.State.{State}
use Rattle.machine.specs.declared.kinds.Kind.{Kind}
use Rattle.machine.specs.declared.rows.Verdict.{Verdict}
use Rattle.engine.specs.declared.ledger.Commit.{Commit}
use Rattle.engine.specs.declared.ledger.Commit.TheVariants.{Added, Repeat, Clash}
use Rattle.engine.specs.declared.answer.Mode.{Mode as QueryMode}
use Rattle.engine.specs.declared.answer.Rows.{Rows}
use Rattle.engine.specs.declared.ledger.Write.{Write}
use Rattle.engine.specs.Tokens.{Free, found_in}
use Rattle.engine.specs.Views.{Token, rows_view, write_view, WriteView, ParameterView, EntryView, AnswerView, QueryFault, unknown_text}
use Rattle.server_session.specs.declared.waiting.Waiting.{Waiting}
use Rattle.server_session.specs.declared.waiting.Waiting.TheVariants as waiting
use Rattle.server_session.specs.declared.kinds.Cause.{Cause}
use Rattle.server_session.specs.declared.kinds.Cause.TheVariants as cause
use Rattle.server_session.specs.declared.kinds.Worked.{Worked}
use Rattle.server_session.specs.declared.acts.Turn.{Turn}
use Rattle.server_session.specs.declared.acts.Turn.TheVariants as turn
use Rattle.server_session.specs.declared.acts.Act.{Act}
use Rattle.server_session.specs.declared.acts.After.{After}
use Rattle.server_session.specs.declared.acts.After.TheVariants as after
use Rattle.server_session.specs.declared.summary.Summary.{Summary}
use Rattle.server_session.specs.declared.summary.Summary.TheVariants as summary
use Rattle.messages.specs.declared.fault.MsgFault.{MsgFault}
use Rattle.messages.specs.declared.fault.MsgFault.TheVariants as writer
use Rattle.server_session.specs.declared.fault.Fault.{Fault}
use Rattle.server_session.specs.declared.fault.Fault.TheVariants as fault
use Rattle.server_session.specs.declared.spelling.Unwritten.{Unwritten}
use Rattle.server_session.specs.declared.spelling.Unwritten.TheVariants as unwritten
use Rattle.server_session.specs.Faults.{failure}
use Rattle.server_session.specs.Said.{fits}
use Rattle.machine.specs.Following.{interruptible}
use Rattle.machine.specs.Rows.{row_at}
use Rattle.server_session.specs.Session.{Open, no_result, Tx, no_tx, Change, change_alone, change_inside, Reply, fails, if_fits, used_up, unwritable, in_transaction, query_mode}
use Rattle.server_session.specs.Rest.{Kept, Step, version_of, worked_of, commit_entries, reset_among}
use Rattle.wire.specs.Limits.{max_message}
use Rattle.engine.specs.Limits.{ledger_bound}

-- a summary, as the definitions of messages have it
abbrev pub summary_of : Summary → messages.Summary
summary_of (summary.Greeting agent conn) = messages.Greeting agent.name.now conn
summary_of summary.RowsLeft = messages.RowsLeft
summary_of (summary.Closing len mode) = messages.Closing len mode
summary_of (summary.Committed len) = messages.Committed len
summary_of summary.Plain = messages.Plain
summary_of (summary.Failure fault) = failure fault
summary_of summary.Passed = messages.Passed

-- a summary that always tells the same: no number, and no failure
abbrev pub is_ready : Summary → Bool
is_ready summary.RowsLeft = true
is_ready (summary.Closing None mode) = true
is_ready summary.Plain = true
is_ready summary.Passed = true
is_ready _ = false

-- the spelling of a response, as a message of the wire
pub record IsBody (v : Version) (m : ResponseView) (b : List ℕ) : Type 0 where
  pub text : response_spelling v m ≡ Ok b
  pub some : 0 < length b
  pub few : length b ≤ max_message

-- the run of a response
abbrev pub IsRun : Version → ResponseView → List ℕ → Type 0
IsRun v m run = run ≡ run_of_result (response_spelling v m)

-- A response was said: what fits is its spelling, whose written run stands behind what was there.
pub record IsPut (v : Version) (m : ResponseView) (old new : List ℕ) : Type 0 where
  pub body : List ℕ
  pub spelled : IsBody v m body
  pub fits : fits v m ≡ true
  pub run : new ≡ old ++ written_run body

-- why a writer wrote nothing
abbrev pub unwritten_of : MsgFault → Unwritten
unwritten_of writer.Memory = unwritten.Memory
unwritten_of writer.Size = unwritten.Because fault.RowTooLarge
unwritten_of _ = unwritten.Because fault.NotInVersion

-- It can't be written, and this is why.
pub record IsRefused (v : Version) (m : ResponseView) (f : Fault) : Type 0 where
  pub misfit : fits v m ≡ false
  pub why : unwritable (response_spelling v m) ≡ f

-- the same, if it isn't for want of memory
abbrev pub Refuses : Version → ResponseView → Unwritten → Type 0
Refuses v m unwritten.Memory = Unit {0}
Refuses v m (unwritten.Because f) = IsRefused v m f

-- this is the reply that fails so, if it isn't for want of memory
abbrev pub FailsBy : Unwritten → Reply → Type 0
FailsBy unwritten.Memory reply = Unit {0}
FailsBy (unwritten.Because f) reply = fails f ≡ reply

-- the result that is open after a summary, by the one that was open before
abbrev pub left_result : After → Open → Open
left_result (after.Rest n) left = record left { rows = drop n left.rows; written = 0 }
left_result _ left = no_result

-- the transaction that is open after a summary, by the one that was open before; token: the request's
abbrev pub left_tx : After → Token → Tx → Tx
left_tx (after.Begun mode) token tx = record { mode = mode; writes = []; token = token }
left_tx (after.Rest n) token tx = tx
left_tx after.Transaction token tx = tx
left_tx _ token tx = no_tx

-- what a summary adds to the ledger, if it does: the change of the result or of the transaction open before
abbrev pub left_entry : After → Open → Tx → Option Change
left_entry after.CommitsResult left tx = Some (change_alone left)
left_entry after.CommitsTransaction left tx = Some (change_inside tx)
left_entry _ left tx = None

-- these writes under this token, as a change
abbrev pub change_of : List WriteView → Token → Change
change_of writes token = record { writes = writes; token = token }

-- what a request with this token is answered, by what was decided
abbrev pub reply_of : Open → Tx → Token → Act → Reply
reply_of left tx token act =
    Reply.Summary act.verdict (response_of_summary (summary_of act.summary)) (left_result act.after left)
    (left_tx act.after token tx) (left_entry act.after left tx)

-- the states in which a result is open
abbrev pub streams : State → Bool
streams State.Streaming = true
streams State.TxStreaming = true
streams _ = false

-- a row is owed to a PULL whose count isn't used up, if one is left
abbrev pub owes_row : State → Open → RequestView → Bool
owes_row s left (RequestView.Pull n) =
    streams s && (not (used_up n left.written) && not (length left.rows == 0))
owes_row s left q = false

-- the request is a RUN that has a row in the state
abbrev pub runs : Version → State → RequestView → Bool
runs v s (RequestView.Run query params mode token) = is_some (row_at v s Kind.Run Verdict.Success)
runs v s q = false

-- what a RUN asks of the engine: over a transaction's own writes and in its mode, or over none in the mode of the RUN
abbrev pub asked_by : (List EntryView → List WriteView → List ℕ → List ParameterView → QueryMode
    → Result AnswerView QueryFault) → List EntryView → State → Tx → RequestView
    → Result AnswerView QueryFault
asked_by run ledger s tx (RequestView.Run query params mode token) =
    if in_transaction s then run ledger tx.writes query params (query_mode tx.mode)
    else run ledger [] query params (query_mode mode)
asked_by run ledger s tx q = Err unknown_text

-- the token of a RUN or of a BEGIN
abbrev pub token_of : RequestView → Token
token_of (RequestView.Run query params mode token) = token
token_of (RequestView.Begin mode token) = token
token_of q = None

-- the same of the first that waits
abbrev pub first_token : List Arrival → Token
first_token (Asked q ∷ later) = token_of q
first_token _ = None

-- an answer, by its parts
abbrev pub answer_by : List (List ℕ) → Rows → Option Write → QueryMode → AnswerView
answer_by names rows write mode = record {
  fields = names;
  rows = rows_view rows;
  write = option_map write_view write;
  mode = mode;
}

-- the first of these rows, or the FAILURE if it can't be written
abbrev pub row_reply : Version → List (List Tree) → Open → Reply
row_reply v [] left = Reply.Bye
row_reply v (r ∷ rs) left = if_fits v (ResponseView.Record r)
    (Reply.OneRow r (record left { rows = rs; written = suc left.written }))

-- what a reply adds to the ledger, if it does
abbrev pub entry_in : Reply → Option Change
entry_in (Reply.Summary d m left tx entry) = entry
entry_in _ = None

-- how a commit is answered, by what its engine would answer to it
abbrev pub commits_by : Change → (ℕ → ResponseView) → Commit → Reply
commits_by change said (Added n) = Reply.Summary Verdict.Success (said n) no_result no_tx (Some change)
commits_by change said (Repeat n) = Reply.Summary Verdict.Success (said n) no_result no_tx None
commits_by change said Clash = fails fault.TokenClash

-- What is to be added is free: the ledger has nothing under its token.
abbrev pub IsFree : List EntryView → Option Change → Type 0
IsFree ledger None = Unit {0}
IsFree ledger (Some change) = found_in change.token change.writes ledger ≡ Free

-- one row fewer
abbrev pub one_less : Open → Open
one_less left = record left { rows = drop 1 left.rows; written = suc left.written }

-- a message may have these bytes
abbrev pub IsSized : List ℕ → Type 0
IsSized b = (0 < length b) × (length b ≤ max_message)

-- what the first that waits is for a step
abbrev pub turn_in : List Arrival → Turn
turn_in (Asked q ∷ later) = turn.Serves
turn_in (Unread e ∷ later) = turn.Ends cause.Malformed
turn_in (TooLong ∷ later) = turn.Ends cause.TooBig
turn_in _ = turn.Nothing

-- the same of one that waits
abbrev pub turn_of_one : Waiting → Turn
turn_of_one (waiting.Asked request) = turn.Serves
turn_of_one (waiting.Unread e) = turn.Ends cause.Malformed
turn_of_one waiting.TooLong = turn.Ends cause.TooBig

-- the same of the first that waits, if there is one
abbrev pub turn_by : Option Waiting → Turn
turn_by None = turn.Nothing
turn_by (Some w) = turn_of_one w

-- a summary was written, whose run is this
abbrev pub after_summary : State → Option Cause → Open → Tx → List ℕ → Kept → Kept
after_summary state ended left tx run k =
    record {
      version = k.version;
      state = state;
      ended = ended;
      first = suc k.first;
      waiting = drop 1 k.waiting;
      result = left;
      tx = tx;
      unsent = k.unsent ++ run;
    }

-- a row was written
abbrev pub after_bytes : List ℕ → Kept → Kept
after_bytes body k = record k { result = one_less k.result; unsent = k.unsent ++ written_run body }

-- the first row was sent
abbrev pub SendsRow : Kept → Kept → Type 0
SendsRow old new = (row : List Tree) (rest : List (List Tree)) → old.result.rows ≡ row ∷ rest
    → (IsPut (version_of old) (ResponseView.Record row) old.unsent new.unsent)
    × (new ≡ record old { result = one_less old.result; unsent = new.unsent })

-- what is open once so many rows were written
abbrev pub passed : ℕ → Open → Open
passed n left = record left { rows = drop n left.rows; written = n + left.written }

-- So many rows are owed to the request, one after the other.
abbrev pub OwesRows : ℕ → State → Open → RequestView → Type 0
OwesRows n s left q = (i : ℕ) → i < n → owes_row s (passed i left) q ≡ true

-- They are owed to the first that waits, if it isn't interrupted.
pub record AreOwed (n : ℕ) (k : Kept) : Type 0 where
  pub request : RequestView
  pub later : List Arrival
  pub goes : k.ended ≡ None
  pub waits : k.waiting ≡ Asked request ∷ later
  pub heard : (reset_among k.waiting && interruptible k.state) ≡ false
  pub owed : OwesRows n k.state k.result request

-- the ledger's length after it, if it commits
abbrev pub length_after : List EntryView → Option Change → Option ℕ
length_after ledger entry = option_map (λ _. length ledger + 1) entry

-- a ledger may have this length, if there is one
abbrev pub IsBelow : Option ℕ → Type 0
IsBelow None = Unit {0}
IsBelow (Some n) = n < ledger_bound

-- the state in which the first that waits is worked
abbrev pub work_state : Kept → State
work_state k = if reset_among k.waiting && interruptible k.state then State.Interrupted else k.state

-- What a step told, what is kept after it, and the ledger, are those of the model.
pub record Steps (d : Step) (conn first : ℕ) (w : Worked) (new : Kept)
    (before after : List EntryView) : Type 0 where
  pub told : worked_of d.answer ≡ w
  pub kept : d.kept ≡ new
  pub ledger : after ≡ before ++ commit_entries conn first d.commit

-- The same of a step that answers a request of this kind, the first, by a summary, and adds this entry.
abbrev pub Answers : Step → ℕ → ℕ → Kind → Option ℕ → Kept → List EntryView → List EntryView → Type 0
Answers d conn first kind entry new before after =
    Steps d conn first (Worked.Wrote first kind new.state entry) new before after
