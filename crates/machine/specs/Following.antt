-- Which phases may follow requests: by the rows over every verdict, and by a table of its own.
use Rattle.std.specs.Prelude.{ℕ, Bool, true, false, not, ◌&&◌, ◌||◌, is_some, if◌then◌else◌, Option, Some, None, option_map, option_to_list, List, [], ◌∷◌, ◌++◌, flat_map, filter, take, slice_get}
use Rattle.std.specs.List.{list_any, list_all}
use Rattle.wire.specs.declared.Version.{Version}
use Rattle.messages.specs.View.{RequestView}
use Rattle.machine.specs.declared.states.State.{State}
use Rattle.machine.specs.declared.states.Phase.{Phase}
use Rattle.machine.specs.declared.states.Phase.TheVariants.{Fresh, Unauth, Ready, Streaming, TxReady, TxStreaming, Halted, Defunct}
use Rattle.machine.specs.declared.kinds.Kind.{Kind}
use Rattle.machine.specs.declared.kinds.Kind.TheVariants.{Goodbye, Reset, Commit, Discard, Pull}
use Rattle.machine.specs.declared.rows.Verdict.{Verdict}
use Rattle.machine.specs.declared.rows.Verdict.TheVariants.{Success, More, Failure, Ignored, Invalid, Gone}
use Rattle.machine.specs.States.{phase_of, same_state, same_phase}
use Rattle.machine.specs.Asks.{kind_of, in_part, is_of, same_kind}
use Rattle.machine.specs.Rows.{row_of, row_at}

-- whether a phase is in a set; a set of phases is a list of them
abbrev pub has : Phase → List Phase → Bool
has p ps = list_any (same_phase p) ps

-- the eight phases, each once
abbrev pub every_phase : List Phase
every_phase = Fresh ∷ Unauth ∷ Ready ∷ Streaming ∷ TxReady ∷ TxStreaming ∷ Halted ∷ Defunct ∷ []

-- the nine states, each once
abbrev pub every_state : List State
every_state = State.Fresh ∷ State.Unauth ∷ State.Ready ∷ State.Streaming ∷ State.TxReady
    ∷ State.TxStreaming ∷ State.Failed ∷ State.Interrupted ∷ State.Defunct ∷ []

-- the phases that pass a test, each once, in the order of `every_phase`
abbrev pub set_of : (Phase → Bool) → List Phase
set_of holds = filter holds every_phase

-- the phases that one or the other of two sets has
abbrev pub union : List Phase → List Phase → List Phase
union ps qs = set_of (λ x. has x ps || has x qs)

-- the set of a list's phases: each once, in the order of `every_phase`
abbrev pub as_set : List Phase → List Phase
as_set ps = set_of (λ x. has x ps)

-- the five states that a RESET interrupts
abbrev pub interruptible : State → Bool
interruptible s = list_any (same_state s)
    (State.Ready ∷ State.Streaming ∷ State.TxReady ∷ State.TxStreaming ∷ State.Failed ∷ [])

-- the states whose phase this is: two of Halted, and one of each other
abbrev pub states_of : Phase → List State
states_of p = filter (λ s. same_phase (phase_of s) p) every_state

-- the states in which a request may be worked if the last summary told this phase: its own, and Interrupted where a RESET can interrupt
abbrev pub worked_in : Phase → List State
worked_in p = states_of p
    ++ (if list_any interruptible (states_of p) then State.Interrupted ∷ [] else [])

-- every verdict, but rows are left by a count of some rows alone
abbrev pub verdicts : Bool → List Verdict
verdicts part = Success ∷ (if part then More ∷ [] else []) ++ Failure ∷ Ignored ∷ Invalid ∷ Gone
    ∷ []

-- the phases of all next states over every verdict; what is over stays so
abbrev pub next : Version → Phase → Kind → Bool → List Phase
next v Defunct k part = Defunct ∷ []
next v p k part = flat_map
    (λ s. flat_map (λ d. option_to_list (option_map phase_of (row_of v s k d))) (verdicts part))
    (worked_in p)

-- the phases that may follow one request, from a set of phases
abbrev pub follow : Version → List Phase → RequestView → List Phase
follow v ps a = set_of (λ x. list_any (λ p. has x (next v p (kind_of a) (in_part a))) ps)

-- the phases that may follow requests
abbrev pub possible : Version → List Phase → List RequestView → List Phase
possible v ps [] = ps
possible v ps (a ∷ rest) = possible v (follow v ps a) rest

-- a SUCCESS that leaves no rows commits: a PULL or DISCARD outside a transaction, or a COMMIT
abbrev pub commits : Phase → Kind → Bool
commits Streaming Pull = true
commits Streaming Discard = true
commits TxReady Commit = true
commits _ _ = false

-- whether there is a request, and from one of these phases its SUCCESS may commit
abbrev pub any_commits : List Phase → Option RequestView → Bool
any_commits ps None = false
any_commits ps (Some a) = list_any (λ p. commits p (kind_of a)) ps

-- some row could have committed the request with this place among the requests
abbrev pub could : Version → List Phase → List RequestView → ℕ → Bool
could v ps asks i = any_commits (possible v ps (take i asks)) (slice_get asks i)

-- Failed stands for Halted
abbrev pub state_of : Phase → State
state_of Fresh = State.Fresh
state_of Unauth = State.Unauth
state_of Ready = State.Ready
state_of Streaming = State.Streaming
state_of TxReady = State.TxReady
state_of TxStreaming = State.TxStreaming
state_of Halted = State.Failed
state_of Defunct = State.Defunct

-- the phase of a state that may be there, as a set of one or of none
abbrev pub phases_of : Option State → List Phase
phases_of o = option_to_list (option_map phase_of o)

-- the table of what may follow, Defunct: it stays
abbrev pub after_defunct : List Phase
after_defunct = Defunct ∷ []

-- Halted
abbrev pub after_halted : Kind → List Phase
after_halted Reset = Ready ∷ []
after_halted Goodbye = Defunct ∷ []
after_halted _ = Halted ∷ []

-- Fresh and Unauth: a request with no row, GOODBYE among them; the states of its rows of Success and Failure
abbrev pub after_greeting : Option State → Option State → List Phase
after_greeting None failure = Defunct ∷ []
after_greeting (Some s) failure = phase_of s ∷ phases_of failure

-- a request with no row; one with a row of Success, and perhaps of More
abbrev pub after_row : Option State → Option State → List Phase
after_row None more = Defunct ∷ Halted ∷ []
after_row (Some s) more = phase_of s ∷ phases_of more ++ Halted ∷ []

-- Ready, Streaming, TxReady and TxStreaming
abbrev pub after_serving : Version → State → Kind → Bool → List Phase
after_serving v s Reset part = Ready ∷ []
after_serving v s Goodbye part = Defunct ∷ []
after_serving v s k part =
    after_row (row_at v s k Success) (if part then row_at v s k More else None)

-- the table of what may follow one request, phase by phase
abbrev pub table : Version → Phase → Kind → Bool → List Phase
table v Defunct k part = after_defunct
table v Halted k part = after_halted k
table v Fresh k part = after_greeting (row_at v State.Fresh k Success)
    (row_at v State.Fresh k Failure)
table v Unauth k part = after_greeting (row_at v State.Unauth k Success)
    (row_at v State.Unauth k Failure)
table v Ready k part = after_serving v State.Ready k part
table v Streaming k part = after_serving v State.Streaming k part
table v TxReady k part = after_serving v State.TxReady k part
table v TxStreaming k part = after_serving v State.TxStreaming k part

-- the table of a set is the tables of its members, joined
abbrev pub set_after : Version → List Phase → RequestView → List Phase
set_after v ps a = set_of (λ x. list_any (λ p. has x (table v p (kind_of a) (in_part a))) ps)

-- whether the phase is that of a session that has ended
abbrev pub is_defunct : Phase → Bool
is_defunct p = same_phase p Defunct

-- Halted allows every kind of the version, and Defunct none; another phase GOODBYE, and what has a row of Success
abbrev pub allows : Version → Phase → Kind → Bool
allows v Defunct k = false
allows v Halted k = is_of v k
allows v p k = same_kind k Goodbye || is_some (row_at v (state_of p) k Success)

-- a phase other than Defunct is there, and each such phase allows the kind
abbrev pub allowed_in : Version → List Phase → Kind → Bool
allowed_in v ps k = list_any (λ p. not (is_defunct p)) ps
    && list_all (λ p. is_defunct p || allows v p k) ps
