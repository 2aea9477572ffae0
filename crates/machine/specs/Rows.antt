-- The table of states: which states a request leads to, by its verdict.
use Rattle.std.specs.Prelude.{Bool, true, false, not, ◌&&◌, is_some, if◌then◌else◌, Option, Some, None, option_map, option_and_then, option_to_list, flat_map, ◌++◌, List, [], ◌∷◌, find}
use Rattle.std.specs.List.{list_any}
use Rattle.std.specs.Option.{option_or}
use Rattle.wire.specs.declared.Version.{Version}
use Rattle.wire.specs.Versions.{every_version, hello_has_login, has_logon}
use Rattle.machine.specs.declared.states.State.{State}
use Rattle.machine.specs.declared.states.State.TheVariants.{Fresh, Unauth, Ready, Streaming, TxReady, TxStreaming, Failed, Interrupted, Defunct}
use Rattle.machine.specs.declared.kinds.Kind.{Kind}
use Rattle.machine.specs.declared.kinds.Kind.TheVariants.{Hello, Logon, Logoff, Goodbye, Reset, Run, Begin, Commit, Rollback, Discard, Pull}
use Rattle.machine.specs.declared.rows.Verdict.{Verdict}
use Rattle.machine.specs.declared.rows.Verdict.TheVariants.{Success, More, Failure, Ignored, Invalid, Gone}
use Rattle.machine.specs.States.{same_state}
use Rattle.machine.specs.Asks.{is_of, same_kind}

-- a place of the table: no row; the state that the row leads to; one that a commit leads to; one where HELLO carries who the
-- client is, and one where it doesn't
pub data Next : Type 0 where
  Nowhere : Next
  To : State → Next
  Commits : State → Next
  Split : State → State → Next

-- a line of the table: at the versions that pass its test, in each of these states, for each of these requests
pub record Line : Type 0 where
  pub versions : Version → Bool
  pub states : List State
  pub kinds : List Kind
  pub success : Next
  pub more : Next
  pub failure : Next

-- a line by its parts
abbrev pub line : (Version → Bool) → List State → List Kind → Next → Next → Next → Line
line vs ss ks success more failure =
    record {
      versions = vs;
      states = ss;
      kinds = ks;
      success = success;
      more = more;
      failure = failure;
    }

-- the rows by versions, states, requests, and the states after Success, More and Failure
abbrev pub lines : List Line
lines =
    line every_version (Fresh ∷ []) (Hello ∷ []) (Split Ready Unauth) Nowhere (To Defunct)
    ∷ line has_logon (Unauth ∷ []) (Logon ∷ []) (To Ready) Nowhere (To Defunct)
    ∷ line every_version (Ready ∷ []) (Run ∷ []) (To Streaming) Nowhere (To Failed)
    ∷ line every_version (Ready ∷ []) (Begin ∷ []) (To TxReady) Nowhere (To Failed)
    ∷ line has_logon (Ready ∷ []) (Logoff ∷ []) (To Unauth) Nowhere (To Failed)
    ∷ line every_version (Streaming ∷ []) (Pull ∷ Discard ∷ []) (Commits Ready) (To Streaming)
    (To Failed)
    ∷ line every_version (TxReady ∷ []) (Run ∷ []) (To TxStreaming) Nowhere (To Failed)
    ∷ line every_version (TxReady ∷ []) (Commit ∷ []) (Commits Ready) Nowhere (To Failed)
    ∷ line every_version (TxReady ∷ []) (Rollback ∷ []) (To Ready) Nowhere (To Failed)
    ∷ line every_version (TxStreaming ∷ []) (Pull ∷ Discard ∷ []) (To TxReady) (To TxStreaming)
    (To Failed)
    ∷ line every_version (Ready ∷ Streaming ∷ TxReady ∷ TxStreaming ∷ Failed ∷ Interrupted ∷ [])
    (Reset ∷ []) (To Ready) Nowhere Nowhere
    ∷ []

-- whether a line is for a request in a state; the versions come last, so that a row which stands at every version computes without one
abbrev pub covers : Line → Version → State → Kind → Bool
covers x v s k = list_any (same_state s) x.states
    && (list_any (same_kind k) x.kinds && x.versions v)

-- the line of a request in a state, if there is one
abbrev pub line_of : Version → State → Kind → Option Line
line_of v s k = find (λ x. covers x v s k) lines

-- the requests that one of the other rows is for
pub data Requests : Type 0 where
  Only AllBut : List Kind → Requests
  WithNoRowAbove : Requests

-- one of the other rows: in each of these states, for these requests, a verdict and the state that follows
pub record Other : Type 0 where
  pub states : List State
  pub requests : Requests
  pub verdict : Verdict
  pub next : State

-- one of the other rows by its parts
abbrev pub other : List State → Requests → Verdict → State → Other
other ss requests verdict next =
    record { states = ss; requests = requests; verdict = verdict; next = next }

-- the other rows by states, requests, verdict, and the state that follows
abbrev pub others : List Other
others =
    other (Fresh ∷ Unauth ∷ Ready ∷ Streaming ∷ TxReady ∷ TxStreaming ∷ Failed ∷ Interrupted ∷ [])
    (Only (Goodbye ∷ [])) Gone Defunct
    ∷ other (Failed ∷ []) (AllBut (Reset ∷ Goodbye ∷ [])) Ignored Failed
    ∷ other (Interrupted ∷ []) (AllBut (Reset ∷ Goodbye ∷ [])) Ignored Interrupted
    ∷ other (Fresh ∷ Unauth ∷ Ready ∷ Streaming ∷ TxReady ∷ TxStreaming ∷ []) WithNoRowAbove Invalid
    Defunct
    ∷ []

-- whether these are requests that one of the other rows is for
abbrev pub is_for : Requests → Version → State → Kind → Bool
is_for (Only ks) v s k = list_any (same_kind k) ks
is_for (AllBut ks) v s k = not (list_any (same_kind k) ks)
is_for WithNoRowAbove v s k = not (is_some (line_of v s k)) && not (same_kind k Goodbye)

-- two names of one verdict
abbrev pub same_verdict : Verdict → Verdict → Bool
same_verdict Success Success = true
same_verdict More More = true
same_verdict Failure Failure = true
same_verdict Ignored Ignored = true
same_verdict Invalid Invalid = true
same_verdict Gone Gone = true
same_verdict _ _ = false

-- whether one of the other rows is for a request in a state at a verdict
abbrev pub stands : Other → Version → State → Kind → Verdict → Bool
stands x v s k d = same_verdict d x.verdict
    && (list_any (same_state s) x.states && is_for x.requests v s k)

-- the other row of a request in a state at a verdict, if there is one
abbrev pub other_of : Version → State → Kind → Verdict → Option Other
other_of v s k d = find (λ x. stands x v s k d) others

-- the state that a place of the table leads to
abbrev pub goal : Version → Next → Option State
goal v Nowhere = None
goal v (To s) = Some s
goal v (Commits s) = Some s
goal v (Split s t) = if hello_has_login v then Some s else Some t

-- the place of a line for a verdict
abbrev pub column : Verdict → Line → Next
column Success x = x.success
column More x = x.more
column Failure x = x.failure
column _ x = Nowhere

-- the rows, also for a kind that isn't of the version
abbrev pub row_of : Version → State → Kind → Verdict → Option State
row_of v s k d = option_or (option_and_then (λ x. goal v (column d x)) (line_of v s k))
    (option_map (λ x. x.next) (other_of v s k d))

-- all the places of the tables where a request has a next state at a verdict
abbrev pub nexts_of : Version → State → Kind → Verdict → List State
nexts_of v s k d =
    flat_map (λ x. if covers x v s k then option_to_list (goal v (column d x)) else []) lines
    ++ flat_map (λ x. if stands x v s k d then x.next ∷ [] else []) others

-- the rows of a version
abbrev pub row_at : Version → State → Kind → Verdict → Option State
row_at v s k d = if is_of v k then row_of v s k d else None
