-- Laws over every list of results, oldest first. b: an attempt is under way.
use Rattle.std.specs.Prelude.{◌≡◌, ◌≢◌, ◌≤◌, ◌+◌, ◌*◌, ◌⊎◌, Bool, true, false, Some, List, [], ◌∷◌, ◌++◌, Any, length}
use Rattle.decider.specs.declared.policy.Retry.{Retry}
use Rattle.decider.specs.declared.policy.Retry.TheVariants as retry
use Rattle.decider.specs.declared.policy.Before.TheVariants as before
use Rattle.decider.specs.declared.policy.Policy.{Policy}
use Rattle.decider.specs.declared.steps.TokenSupport.TheVariants as support
use Rattle.decider.specs.declared.steps.StepResult.{StepResult}
use Rattle.decider.specs.declared.steps.StepResult.TheVariants as result
use Rattle.decider.specs.declared.steps.Next.{Next}
use Rattle.decider.specs.declared.steps.Next.TheVariants as next
use Rattle.decider.specs.declared.fate.Fate.TheVariants as fate
use Rattle.decider.specs.Rules.{is_commit, is_doubt, has_tombstone, is_refusal, is_attempt, is_tombstone_write, count, last_of, in_doubt, unprotected, all_results, next_of, fate_of}

-- Fates

-- no result is a doubt
abbrev pub NoDoubt : Retry → List StepResult → Type 0
NoDoubt r [] = Unit {0}
NoDoubt r (t ∷ ts) = (is_doubt r t ≡ false) × NoDoubt r ts

-- nothing is in doubt: not before the first attempt, by no result, and no attempt is under way
abbrev pub NeverInDoubt : Policy → List StepResult → Bool → Type 0
NeverInDoubt p ts b = (p.before ≡ before.Nothing) × NoDoubt p.retry ts × (b ≡ false)

-- a tombstone was written or read
abbrev pub HasTombstone : Policy → List StepResult → Type 0
HasTombstone p ts = Any (λ t. has_tombstone p.retry t ≡ true) ts

-- Committed only if a COMMIT was answered SUCCESS, or the marker was read with the transaction's hash
abbrev pub CommittedWasReported : Type 0
CommittedWasReported =
    (p : Policy) (ts : List StepResult) (b : Bool) → fate_of p ts b ≡ fate.Committed → Any (λ t. is_commit t ≡ true) ts

-- NotCommitted and Refused only if nothing is in doubt, or if there is a tombstone
abbrev pub NotCommittedIsCertain : Type 0
NotCommittedIsCertain =
    (p : Policy) (ts : List StepResult) (b : Bool) → (fate_of p ts b ≡ fate.NotCommitted)
    ⊎ (fate_of p ts b ≡ fate.Refused)
    → NeverInDoubt p ts b ⊎ HasTombstone p ts

-- Refused only if a request was refused for good or can't be encoded
abbrev pub RefusedWasReported : Type 0
RefusedWasReported =
    (p : Policy) (ts : List StepResult) (b : Bool) → fate_of p ts b ≡ fate.Refused → Any (λ t. is_refusal t ≡ true) ts

-- without a marker, a transaction that is in doubt before the first attempt is never NotCommitted or Refused
abbrev pub StaysInDoubt : Type 0
StaysInDoubt =
    (p : Policy) (ts : List StepResult) (b : Bool) → p.retry ≢ retry.Marker → p.before ≡ before.InDoubt
    → (fate_of p ts b ≢ fate.NotCommitted) × (fate_of p ts b ≢ fate.Refused)

-- a committed transaction stays committed, whatever is reported
abbrev pub CommittedStays : Type 0
CommittedStays =
    (p : Policy) (ts more : List StepResult) (b c : Bool) → fate_of p ts b ≡ fate.Committed
    → fate_of p (ts ++ more) c ≡ fate.Committed

-- An attempt under way

-- while an attempt is under way the fate is Unknown
abbrev pub AttemptIsUnknown : Type 0
AttemptIsUnknown = (p : Policy) (ts : List StepResult) → next_of p ts ≡ next.Attempt → fate_of p ts true ≡ fate.Unknown

-- an attempt without a result is in doubt, at a server that is not known to keep tokens, once a further step begins
abbrev pub UnreportedIsInDoubt : Type 0
UnreportedIsInDoubt =
    (p : Policy) (ts : List StepResult) → (in_doubt p (all_results ts true) ≡ true)
    × (unprotected p (all_results ts true) ≡ true)

-- The next step

-- something is in doubt: before the first attempt, or by a result
abbrev pub WasInDoubt : Policy → List StepResult → Type 0
WasInDoubt p ts = (p.before ≡ before.InDoubt) ⊎ Any (λ t. is_doubt p.retry t ≡ true) ts

-- with Never, nothing follows a doubt
abbrev pub NeverSendsAfterDoubt : Type 0
NeverSendsAfterDoubt =
    (p : Policy) (ts : List StepResult) → p.retry ≡ retry.Never → WasInDoubt p ts → next_of p ts ≡ next.End

-- with Detect, an attempt follows a doubt only over a connection whose greeting was the last result and said that the
-- server keeps tokens, and only if each doubt was left by such a server
abbrev pub DetectNeedsTokens : Type 0
DetectNeedsTokens =
    (p : Policy) (ts : List StepResult) → p.retry ≡ retry.Detect → WasInDoubt p ts → next_of p ts ≡ next.Attempt
    → (last_of ts ≡ Some (result.Greeted support.Supported)) × (unprotected p ts ≡ false)

-- it may be the result of the step
abbrev pub answers : Next → StepResult → Bool
answers next.End t = false
answers n result.Stopped = true
answers next.Attempt t = is_attempt t
answers next.Greet (result.Greeted s) = true
answers next.Greet result.NoCommitSent = true
answers next.Greet result.TransientFailure = true
answers next.Greet (result.PermanentFailure ordinal) = true
answers next.Greet (result.InvalidRequest ordinal) = true
answers next.ReadMarker (result.Marker m) = true
answers next.ReadMarker result.NoMarker = true
answers next.ReadMarker result.MarkerNotRead = true
answers next.WriteTombstone t = is_tombstone_write t
answers n t = false

-- After the results `before`, the caller made each next step and reported these results.
abbrev pub Follows : Policy → List StepResult → List StepResult → Type 0
Follows p before [] = Unit {0}
Follows p before (t ∷ ts) = (answers (next_of p before) t ≡ true) × Follows p (before ++ t ∷ []) ts

-- a caller that makes each next step makes at most `tries` attempts, and writes at most as many tombstones
abbrev pub FewAttempts : Type 0
FewAttempts =
    (p : Policy) (ts : List StepResult) → Follows p [] ts
    → (count is_attempt ts ≤ p.tries) × (count is_tombstone_write ts ≤ p.tries)

-- and it ends: it makes at most four steps for each of the tries, and two more
abbrev pub FewSteps : Type 0
FewSteps = (p : Policy) (ts : List StepResult) → Follows p [] ts → length ts ≤ 4 * p.tries + 2

-- nothing follows once it is committed or in conflict
abbrev pub EndsOnceKnown : Type 0
EndsOnceKnown =
    (p : Policy) (ts : List StepResult) (b : Bool) → (fate_of p ts b ≡ fate.Committed)
    ⊎ (fate_of p ts b ≡ fate.Conflict)
    → next_of p ts ≡ next.End

-- once it is refused, at most the marker is read
abbrev pub EndsOnceRefused : Type 0
EndsOnceRefused =
    (p : Policy) (ts : List StepResult) (b : Bool) → fate_of p ts b ≡ fate.Refused
    → (next_of p ts ≡ next.End) ⊎ ((p.retry ≡ retry.Marker) × (next_of p ts ≡ next.ReadMarker))
