-- A server of any make with a unique marker, and what a caller may report of its attempts. A COMMIT may be processed
-- late, others may write the marker at any time, and a read may miss it.
use Rattle.std.specs.Prelude.{◌≡◌, ◌≤◌, ◌⊎◌, ℕ, suc, Bool, true, false, ◌&&◌, if◌then◌else◌, List, [], ◌∷◌, ◌++◌, length}
use Rattle.decider.specs.declared.policy.Retry.TheVariants as retry
use Rattle.decider.specs.declared.policy.Before.{Before}
use Rattle.decider.specs.declared.policy.Before.TheVariants as before
use Rattle.decider.specs.declared.policy.Policy.{Policy}
use Rattle.decider.specs.declared.steps.TokenSupport.TheVariants as support
use Rattle.decider.specs.declared.steps.MarkerRow.{MarkerRow}
use Rattle.decider.specs.declared.steps.MarkerRow.TheVariants as row
use Rattle.decider.specs.declared.steps.StepResult.{StepResult}
use Rattle.decider.specs.declared.steps.StepResult.TheVariants as result
use Rattle.decider.specs.declared.fate.Fate.{Fate}
use Rattle.decider.specs.declared.fate.Fate.TheVariants as fate
use Rattle.decider.specs.Rules.{is_attempt, is_doubt, fate_of}
use Rattle.decider.specs.Attempts.{Attempt, HasNot, is_waiting}

-- A committed transaction that writes the marker: the row that it wrote, and whether it is one of the caller's
-- attempts.
pub record Marked : Type 0 where
  pub shows : MarkerRow
  pub mine : Bool

-- The committed transactions that write the marker, oldest first; the attempt that the caller waits for; how many
-- attempts it no longer waits for whose COMMIT may yet be processed; and the reported results.
pub record MarkerServer : Type 0 where
  pub committed : List Marked
  pub attempt : Attempt
  pub late : ℕ
  pub results : List StepResult

-- The caller sends an attempt; its COMMIT is processed, while it waits or later; others write the marker or a
-- tombstone; the caller reports a result.
pub data Event : Type 0 where
  Send : Event
  Commit : Event
  CommitLate : Event
  OthersWrite : MarkerRow → Event
  Report : StepResult → Event

-- an attempt of the caller
abbrev pub ours : Marked
ours = record { shows = row.Ours; mine = true }

-- a transaction of others
abbrev pub theirs : MarkerRow → Marked
theirs m = record { shows = m; mine = false }

-- the unique constraint: a transaction that writes the marker commits only if none has
abbrev pub put : Marked → List Marked → List Marked
put w [] = w ∷ []
put w (x ∷ xs) = x ∷ xs

-- no transaction has the marker
abbrev pub is_free : List Marked → Bool
is_free [] = true
is_free (x ∷ xs) = false

-- one transaction that writes the marker is committed, with this row
abbrev pub Shows : MarkerRow → List Marked → Type 0
Shows m [] = ⊥
Shows m (w ∷ []) = w.shows ≡ m
Shows m (w ∷ x ∷ xs) = ⊥

-- none of them is one of the caller's attempts
abbrev pub NoneMine : List Marked → Type 0
NoneMine [] = Unit {0}
NoneMine (w ∷ ws) = (w.mine ≡ false) × NoneMine ws

-- The results that the caller may report. An attempt is Committed only if it has committed. That it never will is
-- reported only if it has not, and then it is not processed later. A doubt may be reported at any time. A read returns
-- a row only if it is there, and may miss it. A tombstone is written only if one is there.
abbrev pub MayReport : MarkerServer → StepResult → Type 0
MayReport s (result.Committed commit) = s.attempt ≡ Attempt.Done true
MayReport s (result.PermanentFailure ordinal) = HasNot s.attempt
MayReport s result.TransientFailure = HasNot s.attempt
MayReport s (result.InvalidRequest ordinal) = HasNot s.attempt
MayReport s result.NoCommitSent = HasNot s.attempt
MayReport s (result.Marker m) = Shows m s.committed
MayReport s result.TombstoneWritten = Shows row.Tombstone s.committed
MayReport s t = Unit {0}

-- the caller reported this result
abbrev pub reported : StepResult → MarkerServer → MarkerServer
reported t s = record {
  committed = s.committed;
  attempt = if is_attempt t then Attempt.Idle else s.attempt;
  late = if is_doubt retry.Marker t && is_waiting s.attempt then suc s.late else s.late;
  results = s.results ++ t ∷ [];
}

-- one event leads from the first to the second
abbrev pub Step : MarkerServer → Event → MarkerServer → Type 0
Step s Event.Send n = (s.attempt ≡ Attempt.Idle) × (n ≡ record s { attempt = Attempt.Waiting })
Step s Event.Commit n =
    (s.attempt ≡ Attempt.Waiting)
    × (n ≡ record s { committed = put ours s.committed; attempt = Attempt.Done (is_free s.committed) })
Step s Event.CommitLate n =
    (left : ℕ) × (s.late ≡ suc left) × (n ≡ record s { committed = put ours s.committed; late = left })
Step s (Event.OthersWrite m) n = n ≡ record s { committed = put (theirs m) s.committed }
Step s (Event.Report t) n = MayReport s t × (n ≡ reported t s)

-- these events lead from the first to the second
abbrev pub RunsTo : MarkerServer → List Event → MarkerServer → Type 0
RunsTo s [] n = s ≡ n
RunsTo s (e ∷ es) n = (m : MarkerServer) × Step s e m × RunsTo m es n

-- The start: no transaction has the marker, or one of others. If the transaction is in doubt before the first attempt,
-- it may have committed, or may yet commit.
abbrev pub Starts : Before → MarkerServer → Type 0
Starts before.Nothing s =
    (s.attempt ≡ Attempt.Idle) × (s.results ≡ []) × (s.late ≡ 0)
    × ((s.committed ≡ []) ⊎ ((m : MarkerRow) × (s.committed ≡ theirs m ∷ [])))
Starts before.InDoubt s =
    (s.attempt ≡ Attempt.Idle) × (s.results ≡ [])
    × ((s.committed ≡ []) ⊎ ((s.committed ≡ ours ∷ []) ⊎ ((m : MarkerRow) × (s.committed ≡ theirs m ∷ []))))

-- the meaning of a fate
abbrev pub Means : Fate → MarkerServer → Type 0
Means fate.Committed s = Shows row.Ours s.committed
Means fate.Conflict s = Shows row.Other s.committed
Means fate.Refused s = NoneMine s.committed
Means fate.NotCommitted s = NoneMine s.committed
Means fate.Unknown s = Unit {0}

-- Whenever the caller sends, whatever others write, and however late COMMITs are processed: of all transactions that
-- write the marker at most one commits, and the fate is true at any moment. pending: an attempt is under way, at least
-- from its sending to its result. Since more events may follow, the fate stays true while the caller sends nothing
-- more.
abbrev pub FateWithMarker : Type 0
FateWithMarker =
    (b : Before) (tries : ℕ) (first last : MarkerServer) (events : List Event) (pending : Bool)
    → Starts b first → RunsTo first events last → (pending ≡ false → last.attempt ≡ Attempt.Idle)
    → (length last.committed ≤ 1)
    × Means (fate_of (record { retry = retry.Marker; before = b; tries = tries }) last.results pending) last

-- Two runs of the model

-- a transaction that was never sent, with at most three attempts
abbrev pub first_time : Policy
first_time = record { retry = retry.Marker; before = before.Nothing; tries = 3 }

-- nothing is sent, and no transaction has the marker
abbrev pub empty : MarkerServer
empty = record { committed = []; attempt = Attempt.Idle; late = 0; results = [] }

-- the first attempt is in doubt, and no row is read; while the second waits, the first commits late; the second is in
-- doubt, and the row is read
abbrev pub late_commit : List Event
late_commit =
    Event.Send ∷ Event.Report (result.InDoubt support.Unknown) ∷ Event.Report result.NoMarker ∷ Event.Send
    ∷ Event.CommitLate ∷ Event.Commit ∷ Event.Report (result.InDoubt support.Unknown)
    ∷ Event.Report (result.Marker row.Ours) ∷ []

-- the only attempt is in doubt, and no row is read; the tombstone commits before the attempt is processed
abbrev pub tombstone : List Event
tombstone =
    Event.Send ∷ Event.Report (result.InDoubt support.Unknown) ∷ Event.Report result.NoMarker
    ∷ Event.OthersWrite row.Tombstone ∷ Event.Report result.TombstoneWritten ∷ Event.CommitLate ∷ []

-- each of these runs exists, and has this fate
abbrev pub MarkerExamples : Type 0
MarkerExamples =
    ((last : MarkerServer) × RunsTo empty late_commit last × (fate_of first_time last.results false ≡ fate.Committed))
    ×
    ((last : MarkerServer) × RunsTo empty tombstone last × (fate_of first_time last.results false ≡ fate.NotCommitted))
