-- The codes of the C calls, as `bolt.h` names them, and what each call does.
use Rattle.std.specs.Prelude.{◌≡◌, ℕ, Bool, true, false, if◌then◌else◌, eqb, Option, Some, None, Result, Ok, Err, List, length}
use Rattle.wire.specs.declared.Version.{Version}
use Rattle.wire.specs.declared.Version.TheVariants as version
use Rattle.wire.specs.declared.Wish.{Wish}
use Rattle.wire.specs.declared.Wish.TheVariants as wish
use Rattle.messages.specs.View.{ResponseView}
use Rattle.machine.specs.declared.Phase.{Phase}
use Rattle.machine.specs.declared.Phase.TheVariants as phase
use Rattle.client.specs.declared.heard.Outcome.{Outcome}
use Rattle.client.specs.declared.heard.Outcome.TheVariants as outcome
use Rattle.client.specs.Held.{is_too_large}
use Rattle.client.specs.Rest.{Rest, begun, taken_out, losses, after_drop, awaits}
use Rattle.client_tracking.specs.declared.faults.FeedFault.{FeedFault}
use Rattle.client_tracking.specs.declared.faults.FeedFault.TheVariants as feed_fault
use Rattle.client_tracking.specs.Account.{untold, with_losses, outcome_of, response_of, rows_of, left_of, rows_taken, settled}
use Rattle.client_tracking.specs.Feeding.{is_idle}
use Rattle.bolt_c.specs.declared.answers.Refusal.{Refusal}
use Rattle.bolt_c.specs.declared.answers.Refusal.TheVariants as refusal
use Rattle.bolt_c.specs.declared.answers.MessageFault.{MessageFault}
use Rattle.bolt_c.specs.declared.answers.MessageFault.TheVariants as message_fault
use Rattle.bolt_c.specs.declared.codes.Asked.{Asked as Told}
use Rattle.bolt_c.specs.declared.codes.Standing.{Standing}
use Rattle.bolt_c.specs.declared.held.Held.{Held}
use Rattle.bolt_c.specs.declared.values.Value.{Value}
use Rattle.bolt_c.specs.Rules.{broken, broken_in}
use Rattle.bolt_c.specs.Answers.{TakesRequest, Writes, Tells, held_rest, held_account, message_of, row_at}
use Rattle.bolt_c.specs.Feeding.{stand_of, FeedsAll}

-- the wish of a number
abbrev pub wish_of : ℕ → Option Wish
wish_of n =
    if eqb n 0 then Some wish.Newest
    else (if eqb n 44 then Some (wish.Only version.V44)
    else (if eqb n 50 then Some (wish.Only version.V50)
    else (if eqb n 51 then Some (wish.Only version.V51) else None)))

-- the number of a version, 0 for none
abbrev pub version_code : Option Version → ℕ
version_code None = 0
version_code (Some version.V44) = 44
version_code (Some version.V50) = 50
version_code (Some version.V51) = 51

-- the number of a phase
abbrev pub phase_code : Phase → ℕ
phase_code phase.Fresh = 0
phase_code phase.Unauth = 1
phase_code phase.Ready = 2
phase_code phase.Streaming = 3
phase_code phase.TxReady = 4
phase_code phase.TxStreaming = 5
phase_code phase.Halted = 6
phase_code phase.Defunct = 7

-- the number of an outcome, 6 if none is known
abbrev pub outcome_code : Option Outcome → ℕ
outcome_code (Some outcome.Done) = 0
outcome_code (Some outcome.Committed) = 1
outcome_code (Some outcome.Refused) = 2
outcome_code (Some outcome.Ignored) = 3
outcome_code (Some outcome.Lost) = 4
outcome_code (Some outcome.Unknown) = 5
outcome_code None = 6

-- the number of a refusal
abbrev pub refusal_code : Refusal → ℕ
refusal_code refusal.NotAllowed = 1
refusal_code refusal.PipelineFull = 2
refusal_code refusal.Size = 3
refusal_code refusal.Closed = 4
refusal_code refusal.Memory = 5
refusal_code (refusal.Unwritable u) = 7
refusal_code (refusal.NoRequest e) = 8

-- The number of why no more of a piece is used: of a piece of which none is left, or if rows have to be dropped first, that of success.
-- A bad answer that is a message of more than 65,536 bytes has a number of its own.
abbrev pub stop_code : Bool → Option FeedFault → ℕ
stop_code large None = 0
stop_code large (Some feed_fault.Full) = 0
stop_code large (Some feed_fault.Closed) = 4
stop_code large (Some feed_fault.Memory) = 5
stop_code large (Some feed_fault.BadPeer) = if large then 12 else 6

-- the number of why a message isn't told
abbrev pub message_fault_code : MessageFault → ℕ
message_fault_code message_fault.Memory = 5
message_fault_code message_fault.Unwritable = 7
message_fault_code message_fault.NotHeard = 9

-- the code of an answer: 0, or the fault's number
abbrev pub code_by : {A E : Type 0} → (E → ℕ) → Result A E → ℕ
code_by f (Ok x) = 0
code_by f (Err e) = f e

-- what a call fills in: nothing if it tells a fault
abbrev pub filled : {A E : Type 0} → Result A E → A → A
filled (Ok x) before = x
filled (Err e) before = before

-- with the rule that a message breaks, and where
abbrev pub with_rule : Told → ℕ × ℕ → Told
with_rule s b = record { ordinal = s.ordinal; rule = b.0; place = b.1 }

-- what a refusal fills in: the rule that the message breaks and where, if it is refused for one
abbrev pub refused_in : Refusal → Told → Told
refused_in (refusal.Unwritable u) s = with_rule s (broken_in u)
refused_in (refusal.NoRequest e) s = with_rule s (broken e)
refused_in e s = s

-- what `bolt_ask` fills in
abbrev pub asked_in : Result ℕ Refusal → Told → Told
asked_in (Ok n) s = record { ordinal = n; rule = 0; place = 0 }
asked_in (Err e) s = refused_in e s

-- What a call makes of what a handle holds; of an empty one it is nothing, and this holds.
abbrev pub OnHeld : Option Held → Option Held → Type 0 → (Held → Held → Type 0) → Type 0
OnHeld None None empty moves = empty
OnHeld (Some old) (Some new) empty moves = moves old new
OnHeld old new empty moves = ⊥

-- there is a new client for the wish, which keeps so many rows of a request
abbrev pub Opened : Wish → ℕ → Option Held → Type 0
Opened w rows None = ⊥
Opened w rows (Some new) = (held_rest new ≡ begun w) × (held_account new ≡ untold rows)

-- `bolt_open`: a new client for the wish; else nothing has changed
abbrev pub Opens : Option Held → Option Wish → ℕ → ℕ → Option Held → Type 0
Opens old None rows n new = (n ≡ 10) × (new ≡ old)
Opens old (Some w) rows n new =
    (n ≡ 0 → Opened w rows new) × ((n ≡ 0 → ⊥) → (n ≡ 5) × (new ≡ old))

-- `bolt_ask` of the bytes of a message: its code, and what it fills in, are those of the driver's answer
abbrev pub Asking : List ℕ → ℕ → Told → Told → Held → Held → Type 0
Asking bytes n before after old new =
    (answer : Result ℕ Refusal) × TakesRequest old bytes answer new
    × (n ≡ code_by refusal_code answer) × (after ≡ asked_in answer before)

-- `bolt_unsent` into a buffer: the bytes that aren't sent, and how many there are
abbrev pub Unsending : List ℕ → ℕ → List ℕ → ℕ → Held → Held → Type 0
Unsending into n written count old new =
    (n ≡ 0) × (new ≡ old) × (count ≡ length (held_rest old).unsent)
    × Writes (held_rest old).unsent into written

-- `bolt_sent` of so many bytes
abbrev pub Sending : ℕ → ℕ → Held → Held → Type 0
Sending count n old new =
    (n ≡ 0) × (held_rest new ≡ taken_out (held_rest old) count) × (held_account new ≡ held_account old)

-- `bolt_feed` of a piece: so many bytes are used whatever the code
abbrev pub Feeding : List ℕ → ℕ → ℕ → Held → Held → Type 0
Feeding piece n used old new =
    (stop : Option FeedFault) × FeedsAll (stand_of old) piece used stop (stand_of new)
    × (n ≡ stop_code (is_too_large (held_rest new).item) stop)

-- `bolt_outcome` of a request
abbrev pub Concluding : ℕ → ℕ → ℕ → Held → Held → Type 0
Concluding i n outcome old new =
    (n ≡ 0) × (new ≡ old) × (outcome ≡ outcome_code (outcome_of (held_account old) i))

-- `bolt_response` and `bolt_row` into a buffer: nothing else has changed
abbrev pub Messaging : (Held → Option ResponseView) → List ℕ → ℕ → List ℕ → ℕ → ℕ → Held → Held
    → Type 0
Messaging said into n written before after old new =
    (answer : Result ℕ MessageFault) × (new ≡ old)
    × Tells (message_of (held_rest old).knows.version (said old)) into answer written
    × (n ≡ code_by message_fault_code answer) × (after ≡ filled answer before)

-- the summary of a request
abbrev pub response_in : ℕ → Held → Option ResponseView
response_in i h = response_of (held_account h) i

-- the row at an index of those that are held of a request
abbrev pub row_in : ℕ → ℕ → Held → Option ResponseView
row_in i index h = row_at (rows_of (held_rest h).knows.first (held_account h) i) index

-- `bolt_rows` of a request: how many are held, and how many came behind them
abbrev pub Counting : ℕ → ℕ → ℕ → ℕ → Held → Held → Type 0
Counting i n held left old new =
    (n ≡ 0) × (new ≡ old)
    × (held ≡ length (rows_of (held_rest old).knows.first (held_account old) i))
    × (left ≡ left_of (held_rest old).knows.first (held_account old) i)

-- `bolt_drop_rows` of a request
abbrev pub Dropping : ℕ → ℕ → Held → Held → Type 0
Dropping i n old new =
    (n ≡ 0) × (held_rest new ≡ held_rest old)
    × (held_account new ≡ rows_taken (held_rest old).knows.first (held_account old) i)

-- `bolt_value_at`: the value with the place behind it; if there is none nothing has changed
abbrev pub Reading : Option (Value × ℕ) → ℕ → ℕ → Value → ℕ → Value → Type 0
Reading None n at value at_now value_now = (n ≡ 11) × (at_now ≡ at) × (value_now ≡ value)
Reading (Some x) n at value at_now value_now = (n ≡ 0) × (at_now ≡ x.1) × (value_now ≡ x.0)

-- `bolt_lose`
abbrev pub Losing : ℕ → Held → Held → Type 0
Losing n old new =
    (n ≡ 0) × (held_rest new ≡ after_drop (held_rest old))
    × (held_account new ≡ with_losses (held_account old) (losses (held_rest old).knows))

-- `bolt_settle`: the account is forgotten, if no request waits
abbrev pub Settling : ℕ → Held → Held → Type 0
Settling n old new =
    (n ≡ (if is_idle (held_rest old).knows then 0 else 1))
    × (held_rest new ≡ held_rest old)
    × (held_account new ≡ (if is_idle (held_rest old).knows then settled (held_account old) else held_account old))

-- a truth as a number
abbrev pub flag : Bool → ℕ
flag false = 0
flag true = 1

-- `bolt_state` at a rest of a run
pub record StandsAt (r : Rest) (s : Standing) : Type 0 where
  pub first : s.first ≡ r.knows.first
  pub pending : s.pending ≡ length r.knows.waiting
  pub phase : s.phase ≡ phase_code r.knows.phase
  pub version : s.version ≡ version_code r.knows.version
  pub has_ended : s.has_ended ≡ flag r.knows.over
  pub awaits : s.awaits ≡ flag (awaits r.knows)
