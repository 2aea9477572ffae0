-- When an attempt follows without a marker.
use Rattle.std.proofs.Common.{◌≡◌, ◌≢◌, ◌⊎◌, inl, inr, refl, ap, subst, Bool, true, false, Option, Some, List, [], ◌∷◌}
use Rattle.std.specs.List.{list_any}
use Rattle.decider.specs.declared.policy.Retry.{Retry}
use Rattle.decider.specs.declared.policy.Retry.TheVariants as retry
use Rattle.decider.specs.declared.policy.Policy.{Policy}
use Rattle.decider.specs.declared.steps.TokenSupport.TheVariants as support
use Rattle.decider.specs.declared.steps.StepResult.{StepResult}
use Rattle.decider.specs.declared.steps.StepResult.TheVariants as result
use Rattle.decider.specs.declared.steps.Next.TheVariants as next
use Rattle.decider.specs.Rules.{is_doubt, is_unprotected, starts_in_doubt, in_doubt, unprotected, sends, last_of, next_by, next_of, uses_marker}
use Rattle.decider.proofs.Bools.{or_left, or_right, or_false}
use Rattle.decider.proofs.Facts.{Facts, facts}
use Rattle.decider.proofs.Attempts.{detects, greeting}

-- a result that is no doubt is no unprotected doubt
one_unprotected : (r : Retry) (t : StepResult) → is_doubt r t ≡ false → is_unprotected t ≡ false
one_unprotected r (result.InDoubt s) h = let no : true ≡ false = h in cc
one_unprotected r (result.Committed n) h = refl
one_unprotected r result.Conflict h = refl
one_unprotected r (result.PermanentFailure n) h = refl
one_unprotected r result.TransientFailure h = refl
one_unprotected r (result.InvalidRequest n) h = refl
one_unprotected r result.NoCommitSent h = refl
one_unprotected r (result.Greeted s) h = refl
one_unprotected r (result.Marker m) h = refl
one_unprotected r result.NoMarker h = refl
one_unprotected r result.MarkerNotRead h = refl
one_unprotected r result.TombstoneWritten h = refl
one_unprotected r result.TombstoneUnconfirmed h = refl
one_unprotected r result.Stopped h = refl

none_unprotected : (r : Retry) (ts : List StepResult) → list_any (is_doubt r) ts ≡ false
    → list_any is_unprotected ts ≡ false
none_unprotected r [] h = refl
none_unprotected r (t ∷ ts) h =
    or_false (is_unprotected t) (list_any is_unprotected ts)
    (one_unprotected r t (or_left (is_doubt r t) (list_any (is_doubt r) ts) h))
    (none_unprotected r ts (or_right (is_doubt r t) (list_any (is_doubt r) ts) h))

pub protected : (p : Policy) (ts : List StepResult) → in_doubt p ts ≡ false → unprotected p ts ≡ false
protected p ts h =
    or_false (starts_in_doubt p.before) (list_any is_unprotected ts)
    (or_left (starts_in_doubt p.before) (list_any (is_doubt p.retry) ts) h)
    (none_unprotected p.retry ts (or_right (starts_in_doubt p.before) (list_any (is_doubt p.retry) ts) h))

-- with Never, no attempt follows a doubt
never_by : (s d u r i n v : Bool) (last : Option StepResult) → d ≡ true
    → sends (next_by s false retry.Never d u r i n v last) ≡ true → ⊥
never_by s false u r i n v last e h = let no : false ≡ true = e in cc
never_by true true u r i n v last e h = let no : false ≡ true = h in cc
never_by false true u r i false v last e h = let no : false ≡ true = h in cc
never_by false true u r true true v last e h = let no : false ≡ true = h in cc
never_by false true u r false true v last e h = let no : false ≡ true = h in cc

-- why an attempt may follow: nothing is in doubt; the policy is Tokens; or each doubt was left by a server that keeps
-- tokens, and the last result is the greeting of one
pub data Reason (p : Policy) (ts : List StepResult) : Type 0 where
  NoDoubt : in_doubt p ts ≡ false → Reason p ts
  Tokens : p.retry ≡ retry.Tokens → Reason p ts
  Greeted : unprotected p ts ≡ false → last_of ts ≡ Some (result.Greeted support.Supported) → Reason p ts

pub truth : (b : Bool) → (b ≡ true) ⊎ (b ≡ false)
truth true = inl refl
truth false = inr refl

by_doubt : (p : Policy) (ts : List StepResult) (r : Retry) → p.retry ≡ r → r ≢ retry.Marker → in_doubt p ts ≡ true
    → next_of p ts ≡ next.Attempt → Reason p ts
by_doubt p ts retry.Marker e m d h = absurd (m refl)
by_doubt p ts retry.Tokens e m d h = Reason.Tokens e
by_doubt p ts retry.Detect e m d h =
    let at = detects (facts p ts) e d h in
    Reason.Greeted at.1 (greeting (last_of ts) at.0)
by_doubt p ts retry.Never e m d h =
    let f : Facts = facts p ts in
    absurd (never_by f.settled f.doubt f.unprotected f.refused f.invalid f.attempts f.tombstones f.last d
    (subst
    (λ (z : Retry). sends (next_by f.settled (uses_marker z) z f.doubt f.unprotected f.refused f.invalid f.attempts
    f.tombstones f.last) ≡ true) e (ap sends h)))

pub reason : (p : Policy) (ts : List StepResult) → p.retry ≢ retry.Marker → next_of p ts ≡ next.Attempt → Reason p ts
reason p ts m h = elim (truth (in_doubt p ts)) [
  | inl d ↦ by_doubt p ts p.retry refl m d h
  | inr d ↦ Reason.NoDoubt d
]
