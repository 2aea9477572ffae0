-- What holds of the rows and of the phases that may follow.
use Rattle.std.specs.Prelude.{◌≡◌, ℕ, ◌&&◌, Bool, true, false, not, if◌then◌else◌, is_some, None, Some, option_to_list, List, [], ◌∷◌, ◌++◌, length, filter}
use Rattle.std.specs.List.{list_any}
use Rattle.wire.specs.declared.Version.{Version}
use Rattle.messages.specs.View.{RequestView}
use Rattle.machine.specs.declared.states.State.{State}
use Rattle.machine.specs.declared.states.Phase.{Phase}
use Rattle.machine.specs.declared.kinds.Kind.{Kind}
use Rattle.machine.specs.declared.rows.Verdict.{Verdict}
use Rattle.machine.specs.States.{phase_of, same_state}
use Rattle.machine.specs.Asks.{is_of}
use Rattle.machine.specs.Rows.{Next, Commits, line_of, row_of, row_at, nexts_of}
use Rattle.machine.specs.Following.{has, next, table, set_after, follow, possible, commits, could, interruptible, allowed_in}

-- each phase of the first is one of the second
abbrev pub IsWithin : List Phase → List Phase → Type 0
IsWithin ps qs = (x : Phase) → has x ps ≡ true → has x qs ≡ true

-- the table of what may follow says what the rows say over every verdict
abbrev pub TableIsRows : Type 0
TableIsRows = (v : Version) (p : Phase) (k : Kind) (part : Bool) (x : Phase)
    → has x (next v p k part) ≡ has x (table v p k part)

-- so it does of sets
abbrev pub JoinedIsFollow : Type 0
JoinedIsFollow = (v : Version) (ps : List Phase) (a : RequestView)
    → set_after v ps a ≡ follow v ps a

-- more may follow more phases
abbrev pub AfterGrows : Type 0
AfterGrows = (v : Version) (ps qs : List Phase) (a : RequestView) → IsWithin ps qs
    → IsWithin (set_after v ps a) (set_after v qs a)

-- more may follow a list of requests from more phases
abbrev pub PossibleGrows : Type 0
PossibleGrows = (v : Version) (ps qs : List Phase) (asks : List RequestView) → IsWithin ps qs
    → IsWithin (possible v ps asks) (possible v qs asks)

-- and what could have committed from fewer phases could have from more
abbrev pub CouldGrows : Type 0
CouldGrows = (v : Version) (ps qs : List Phase) (asks : List RequestView) (i : ℕ) → IsWithin ps qs
    → could v ps asks i ≡ true → could v qs asks i ≡ true

-- what may follow requests in two parts is what may follow the second from what may follow the first
abbrev pub PossibleInTurn : Type 0
PossibleInTurn = (v : Version) (ps : List Phase) (first second : List RequestView)
    → possible v ps (first ++ second) ≡ possible v (possible v ps first) second

-- the place is marked: what leads there commits
abbrev pub is_marked : Next → Bool
is_marked (Commits s) = true
is_marked _ = false

-- whether the place of Success is marked in the line of a request in a state
abbrev pub marked_in : Version → State → Kind → Bool
marked_in v s k = list_any (λ x. is_marked x.success) (option_to_list (line_of v s k))

-- the rows that commit are those marked in the table
abbrev pub CommitsAreMarked : Type 0
CommitsAreMarked = (v : Version) (s : State) (k : Kind) → commits (phase_of s) k ≡ marked_in v s k

-- no two places of the tables are for one request at one verdict
abbrev pub OneNext : Type 0
OneNext = (v : Version) (s : State) (k : Kind) (d : Verdict)
    → nexts_of v s k d ≡ option_to_list (row_of v s k d)

-- the ways in which a request may be met in a state: worked, passed over, refused, or not answered at all
abbrev pub ways : Version → State → Kind → List Verdict
ways v s k = filter (λ d. is_some (row_at v s k d))
    (Verdict.Success ∷ Verdict.Ignored ∷ Verdict.Invalid ∷ Verdict.Gone ∷ [])

-- each kind of the version has exactly one of them in each state that isn't over, and otherwise none
abbrev pub OneWay : Type 0
OneWay = (v : Version) (s : State) (k : Kind)
    → length (ways v s k) ≡ (if is_of v k && not (same_state s State.Defunct) then 1 else 0)

-- what is allowed in a set is refused as invalid in no state of the set
abbrev pub AllowedIsValid : Type 0
AllowedIsValid = (v : Version) (ps : List Phase) (s : State) (k : Kind) → allowed_in v ps k ≡ true
    → has (phase_of s) ps ≡ true → row_at v s k Verdict.Invalid ≡ None

-- what a row leads to is among what may follow, if no RESET has interrupted
abbrev pub RowsFollow : Type 0
RowsFollow =
    (v : Version) (s t : State) (k : Kind) (d : Verdict) (part : Bool)
    → (d ≡ Verdict.More → part ≡ true) → row_at v s k d ≡ Some t
    → has (phase_of t) (next v (phase_of s) k part) ≡ true

-- and where one has
abbrev pub InterruptedRowsFollow : Type 0
InterruptedRowsFollow =
    (v : Version) (s t : State) (k : Kind) (d : Verdict) (part : Bool)
    → (d ≡ Verdict.More → part ≡ true) → interruptible s ≡ true
    → row_at v State.Interrupted k d ≡ Some t → has (phase_of t) (next v (phase_of s) k part) ≡ true
