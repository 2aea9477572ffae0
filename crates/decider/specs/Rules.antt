-- The rules: what is known by all results, and the next step. Results are listed oldest first.
use Rattle.std.specs.Prelude.{◌-◌, ◌==◌, ℕ, zero, suc, Bool, true, false, not, ◌&&◌, ◌||◌, if◌then◌else◌, Option, Some, None, List, [], ◌∷◌, ◌++◌}
use Rattle.std.specs.List.{list_any}
use Rattle.std.specs.Option.{option_or}
use Rattle.decider.specs.declared.policy.Retry.{Retry}
use Rattle.decider.specs.declared.policy.Retry.TheVariants as retry
use Rattle.decider.specs.declared.policy.Before.{Before}
use Rattle.decider.specs.declared.policy.Before.TheVariants as before
use Rattle.decider.specs.declared.policy.Policy.{Policy}
use Rattle.decider.specs.declared.steps.TokenSupport.{TokenSupport}
use Rattle.decider.specs.declared.steps.TokenSupport.TheVariants as support
use Rattle.decider.specs.declared.steps.MarkerRow.TheVariants as row
use Rattle.decider.specs.declared.steps.StepResult.{StepResult}
use Rattle.decider.specs.declared.steps.StepResult.TheVariants as result
use Rattle.decider.specs.declared.steps.Next.{Next}
use Rattle.decider.specs.declared.steps.Next.TheVariants as next
use Rattle.decider.specs.declared.fate.Fate.{Fate}
use Rattle.decider.specs.declared.fate.Fate.TheVariants as fate
use Rattle.decider.specs.declared.fate.EndReason.{EndReason}
use Rattle.decider.specs.declared.fate.EndReason.TheVariants as reason

-- One result

-- a marker prevents a second commit
abbrev pub uses_marker : Retry → Bool
uses_marker retry.Marker = true
uses_marker r = false

-- the transaction is in doubt before the first attempt
abbrev pub starts_in_doubt : Before → Bool
starts_in_doubt before.InDoubt = true
starts_in_doubt before.Nothing = false

-- the transaction is committed: its COMMIT was answered SUCCESS, or the marker was read with its hash
abbrev pub is_commit : StepResult → Bool
is_commit (result.Committed commit) = true
is_commit (result.Marker row.Ours) = true
is_commit t = false

-- a transaction with other writes has the token or the marker. With a marker, no code of a FAILURE says so.
abbrev pub is_conflict : Retry → StepResult → Bool
is_conflict retry.Marker result.Conflict = false
is_conflict r result.Conflict = true
is_conflict r (result.Marker row.Other) = true
is_conflict r t = false

-- a tombstone is committed, so no attempt can commit any more
abbrev pub has_tombstone : Retry → StepResult → Bool
has_tombstone retry.Marker (result.Marker row.Tombstone) = true
has_tombstone retry.Marker result.TombstoneWritten = true
has_tombstone r t = false

-- an attempt may have committed, or may yet commit
abbrev pub is_doubt : Retry → StepResult → Bool
is_doubt r (result.InDoubt s) = true
is_doubt retry.Marker result.Conflict = true
is_doubt r t = false

-- the doubt was left by a server that is not known to keep tokens, so a token does not prevent a second commit
abbrev pub is_unprotected : StepResult → Bool
is_unprotected (result.InDoubt support.Unsupported) = true
is_unprotected (result.InDoubt support.Unknown) = true
is_unprotected t = false

-- the transaction was refused for good or can't be encoded
abbrev pub is_refusal : StepResult → Bool
is_refusal (result.PermanentFailure ordinal) = true
is_refusal (result.InvalidRequest ordinal) = true
is_refusal t = false

-- it can't be encoded
abbrev pub is_invalid : StepResult → Bool
is_invalid (result.InvalidRequest ordinal) = true
is_invalid t = false

-- the caller stopped
abbrev pub is_stop : StepResult → Bool
is_stop result.Stopped = true
is_stop t = false

-- it is the result of an attempt
abbrev pub is_attempt : StepResult → Bool
is_attempt (result.Committed commit) = true
is_attempt result.Conflict = true
is_attempt (result.PermanentFailure ordinal) = true
is_attempt result.TransientFailure = true
is_attempt (result.InvalidRequest ordinal) = true
is_attempt result.NoCommitSent = true
is_attempt (result.InDoubt s) = true
is_attempt t = false

-- it is the result of writing a tombstone
abbrev pub is_tombstone_write : StepResult → Bool
is_tombstone_write result.TombstoneWritten = true
is_tombstone_write result.TombstoneUnconfirmed = true
is_tombstone_write t = false

-- All results

-- how many results have this property
abbrev pub count : (StepResult → Bool) → List StepResult → ℕ
count f [] = zero
count f (t ∷ ts) = if f t then suc (count f ts) else count f ts

-- the last result
abbrev pub last_of : List StepResult → Option StepResult
last_of [] = None
last_of (t ∷ []) = Some t
last_of (t ∷ u ∷ ts) = last_of (u ∷ ts)

-- the ordinal of the first COMMIT that was answered SUCCESS
abbrev pub commit_of : List StepResult → Option ℕ
commit_of [] = None
commit_of (result.Committed commit ∷ ts) = Some commit
commit_of (t ∷ ts) = commit_of ts

-- the ordinal of a request that was refused for good or can't be encoded
abbrev pub fault_in : StepResult → Option ℕ
fault_in (result.PermanentFailure ordinal) = Some ordinal
fault_in (result.InvalidRequest ordinal) = Some ordinal
fault_in t = None

-- the ordinal of the last of these requests
abbrev pub fault_of : List StepResult → Option ℕ
fault_of [] = None
fault_of (t ∷ ts) = option_or (fault_of ts) (fault_in t)

-- something is in doubt: before the first attempt or by a result
abbrev pub in_doubt : Policy → List StepResult → Bool
in_doubt p ts = starts_in_doubt p.before || list_any (is_doubt p.retry) ts

-- something is in doubt at a server that is not known to keep tokens; nothing is known of the server of a doubt of
-- before
abbrev pub unprotected : Policy → List StepResult → Bool
unprotected p ts = starts_in_doubt p.before || list_any is_unprotected ts

-- a marker, a tombstone or a COMMIT says what became of it
abbrev pub is_known : Policy → List StepResult → Bool
is_known p ts = list_any is_commit ts || (list_any (is_conflict p.retry) ts || list_any (has_tombstone p.retry) ts)

-- it is known, or the caller stopped
abbrev pub is_settled : Policy → List StepResult → Bool
is_settled p ts =
    list_any is_commit ts
    || (list_any (is_conflict p.retry) ts || (list_any (has_tombstone p.retry) ts || list_any is_stop ts))

-- some are left
abbrev pub is_left : ℕ → Bool
is_left n = not (n == 0)

-- how many attempts are left
abbrev pub attempts_left : Policy → List StepResult → ℕ
attempts_left p ts = p.tries - count is_attempt ts

-- how many tombstones are left
abbrev pub tombstones_left : Policy → List StepResult → ℕ
tombstones_left p ts = p.tries - count is_tombstone_write ts

-- how many results of attempts were reported, at most `tries`
abbrev pub attempts_made : Policy → List StepResult → ℕ
attempts_made p ts = p.tries - attempts_left p ts

-- The fate

-- by: it is committed; others have the token or the marker; there is a tombstone; something is in doubt; it was refused
-- for good
abbrev pub fate_by : Bool → Bool → Bool → Bool → Bool → Fate
fate_by true conflict tombstone doubt refused = fate.Committed
fate_by false true tombstone doubt refused = fate.Conflict
fate_by false false true doubt true = fate.Refused
fate_by false false true doubt false = fate.NotCommitted
fate_by false false false true refused = fate.Unknown
fate_by false false false false true = fate.Refused
fate_by false false false false false = fate.NotCommitted

-- The fate after these results. pending: an attempt is under way, which is a doubt.
abbrev pub fate_of : Policy → List StepResult → Bool → Fate
fate_of p ts pending =
    fate_by (list_any is_commit ts) (list_any (is_conflict p.retry) ts) (list_any (has_tombstone p.retry) ts)
    (in_doubt p ts || pending) (list_any is_refusal ts)

-- The next step

-- the support in the greeting, if it was the last result
abbrev pub greeted : Option StepResult → Option TokenSupport
greeted (Some (result.Greeted s)) = Some s
greeted t = None

-- The transaction may be sent: always if nothing is in doubt, else only if sending it again can't commit twice.
-- by: something is in doubt; at a server that is not known to keep tokens; what the greeting said, as greeted
abbrev pub may_send : Retry → Bool → Bool → Option TokenSupport → Bool
may_send r false unprotected s = true
may_send retry.Tokens true unprotected s = true
may_send retry.Marker true unprotected s = true
may_send retry.Detect true false (Some support.Supported) = true
may_send r true unprotected s = false

-- it may not be sent yet, and a greeting decides whether it may
abbrev pub needs_greeting : Retry → Bool → Option TokenSupport → Bool
needs_greeting retry.Detect false None = true
needs_greeting r unprotected s = false

-- With a marker, it has to be read: after a refusal or a doubt; and while something is in doubt, before the first step
-- and after an attempt that left nothing.
abbrev pub needs_read : Bool → Option StepResult → Bool
needs_read doubt (Some result.TransientFailure) = true
needs_read doubt (Some (result.PermanentFailure ordinal)) = true
needs_read doubt (Some (result.InDoubt s)) = true
needs_read doubt (Some result.Conflict) = true
needs_read doubt (Some result.TombstoneUnconfirmed) = true
needs_read doubt (Some result.NoCommitSent) = doubt
needs_read doubt (Some (result.InvalidRequest ordinal)) = doubt
needs_read doubt None = doubt
needs_read doubt t = false

-- The next step if a marker prevents a second commit: read it if it has to be read; else an attempt; else, if the
-- attempts are used up or it was refused for good, and something is in doubt, a tombstone. attempts, tombstones: some
-- are left.
abbrev pub next_with_marker : Bool → Bool → Bool → Bool → Option StepResult → Next
next_with_marker doubt refused attempts tombstones last =
    if needs_read doubt last then next.ReadMarker
    else (if attempts && not refused then next.Attempt
    else (if doubt && tombstones then next.WriteTombstone
    else next.End))

-- The next step if there is no marker. Without a doubt, a refusal for good ends it; after a doubt, only an invalid
-- request does.
abbrev pub next_without_marker : Retry → Bool → Bool → Bool → Bool → Bool → Option StepResult → Next
next_without_marker r doubt unprotected refused invalid attempts last =
    if not attempts || (if doubt then invalid else refused) then next.End
    else (if may_send r doubt unprotected (greeted last) then next.Attempt
    else (if needs_greeting r unprotected (greeted last) then next.Greet
    else next.End))

-- the next step by what it depends on
abbrev pub next_by : Bool → Bool → Retry → Bool → Bool → Bool → Bool → Bool → Bool → Option StepResult → Next
next_by settled marker r doubt unprotected refused invalid attempts tombstones last =
    if settled then next.End
    else (if marker then next_with_marker doubt refused attempts tombstones last
    else next_without_marker r doubt unprotected refused invalid attempts last)

-- the next step after these results
abbrev pub next_of : Policy → List StepResult → Next
next_of p ts =
    next_by (is_settled p ts) (uses_marker p.retry) p.retry (in_doubt p ts) (unprotected p ts) (list_any is_refusal ts)
    (list_any is_invalid ts) (is_left (attempts_left p ts)) (is_left (tombstones_left p ts)) (last_of ts)

-- An attempt under way

-- the step sends the transaction
abbrev pub sends : Next → Bool
sends next.Attempt = true
sends n = false

-- the results once a further step begins: an attempt without a result is in doubt, at a server of unknown kind
abbrev pub all_results : List StepResult → Bool → List StepResult
all_results ts pending = if pending then ts ++ result.InDoubt support.Unknown ∷ [] else ts

-- the step that begins after these results
abbrev pub next_at : Policy → List StepResult → Bool → Next
next_at p ts pending = next_of p (all_results ts pending)

-- The end

-- it is End
abbrev pub is_end : Next → Bool
is_end next.End = true
is_end n = false

-- Why no further step is made, by: the next step is End; it is known; the caller stopped; a request is invalid; it was
-- refused without a doubt; only the attempts or tombstones can be used up.
abbrev pub end_reason_by : Bool → Bool → Bool → Bool → Bool → Bool → Option EndReason
end_reason_by false known stopped invalid refused used_up = None
end_reason_by true true stopped invalid refused used_up = Some reason.Known
end_reason_by true false true invalid refused used_up = Some reason.Stopped
end_reason_by true false false true refused used_up = Some reason.InvalidRequest
end_reason_by true false false false true used_up = Some reason.Refused
end_reason_by true false false false false true = Some reason.TriesUsedUp
end_reason_by true false false false false false = Some reason.UnsafeToRetry

-- why no further step is made after these results
abbrev pub end_reason : Policy → List StepResult → Option EndReason
end_reason p ts =
    end_reason_by (is_end (next_of p ts)) (is_known p ts) (list_any is_stop ts) (list_any is_invalid ts)
    (not (in_doubt p ts) && list_any is_refusal ts) (uses_marker p.retry || not (is_left (attempts_left p ts)))
