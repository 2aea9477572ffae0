-- Laws of the next step, and how many attempts a caller makes.
use Rattle.std.proofs.Common.{◌≡◌, ◌≤◌, ◌<◌, ◌+◌, ◌-◌, refl, sym, ap, subst, ℕ, zero, suc, Bool, true, false, not, ◌&&◌, ◌||◌, if◌then◌else◌, Option, Some, None, List, [], ◌∷◌, ◌++◌, arith, append_assoc, append-nil}
use Rattle.decider.specs.declared.policy.Retry.{Retry}
use Rattle.decider.specs.declared.policy.Retry.TheVariants as retry
use Rattle.decider.specs.declared.policy.Policy.{Policy}
use Rattle.decider.specs.declared.steps.TokenSupport.{TokenSupport}
use Rattle.decider.specs.declared.steps.TokenSupport.TheVariants as support
use Rattle.decider.specs.declared.steps.StepResult.{StepResult}
use Rattle.decider.specs.declared.steps.StepResult.TheVariants as result
use Rattle.decider.specs.declared.steps.Next.{Next}
use Rattle.decider.specs.declared.steps.Next.TheVariants as next
use Rattle.decider.specs.Rules.{is_attempt, is_tombstone_write, is_left, count, greeted, may_send, needs_greeting, needs_read, next_by, next_of, sends, uses_marker}
use Rattle.decider.specs.Laws.{DetectNeedsTokens, answers, Follows, FewAttempts}
use Rattle.decider.proofs.Appending.{count_more}
use Rattle.decider.proofs.Facts.{Facts, facts, next_from}
use Rattle.decider.proofs.Fates.{was_in_doubt}

is_detect : Retry → Bool
is_detect retry.Detect = true
is_detect r = false

-- the last result is a greeting of a server that keeps tokens
pub is_supported : Option TokenSupport → Bool
is_supported (Some support.Supported) = true
is_supported s = false

-- with Detect, an attempt after a doubt has such a greeting before it, and each doubt was left by such a server
detects_by : (s d u r i n v : Bool) (q : Retry) (last : Option StepResult) → is_detect q ≡ true → d ≡ true
    → sends (next_by s (uses_marker q) q d u r i n v last) ≡ true → (is_supported (greeted last) ≡ true) × (u ≡ false)
unfolding is_detect is_supported
detects_by s d u r i n v retry.Tokens last q e h = let no : false ≡ true = q in cc
detects_by s d u r i n v retry.Marker last q e h = let no : false ≡ true = q in cc
detects_by s d u r i n v retry.Never last q e h = let no : false ≡ true = q in cc
detects_by s false u r i n v retry.Detect last q e h = let no : false ≡ true = e in cc
detects_by true true u r i n v retry.Detect last q e h = let no : false ≡ true = h in cc
detects_by false true u r true n v retry.Detect last q e h = at n h
  where
    at : (n : Bool) → sends (next_by false false retry.Detect true u r true n v last) ≡ true
        → (is_supported (greeted last) ≡ true) × (u ≡ false)
    at true h = let no : false ≡ true = h in cc
    at false h = let no : false ≡ true = h in cc
detects_by false true u r false false v retry.Detect last q e h = let no : false ≡ true = h in cc
detects_by false true u r false true v retry.Detect last q e h = at u (greeted last) h
  where
    at : (u : Bool) (g : Option TokenSupport)
        → sends (if may_send retry.Detect true u g then next.Attempt
        else (if needs_greeting retry.Detect u g then next.Greet else next.End)) ≡ true
        → (is_supported g ≡ true) × (u ≡ false)
    at true None h = let no : false ≡ true = h in cc
    at true (Some g) h = let no : false ≡ true = h in cc
    at false None h = let no : false ≡ true = h in cc
    at false (Some support.Supported) h = (refl, refl)
    at false (Some support.Unsupported) h = let no : false ≡ true = h in cc
    at false (Some support.Unknown) h = let no : false ≡ true = h in cc

by_detect : (r : Retry) → r ≡ retry.Detect → is_detect r ≡ true
unfolding is_detect
by_detect r e = ap is_detect e

pub detects : (f : Facts) → f.retry ≡ retry.Detect → f.doubt ≡ true → next_from f ≡ next.Attempt
    → (is_supported (greeted f.last) ≡ true) × (f.unprotected ≡ false)
detects f q d h =
    detects_by f.settled f.doubt f.unprotected f.refused f.invalid f.attempts f.tombstones f.retry f.last
    (by_detect f.retry q) d (ap sends h)

-- then the last result is that greeting
pub greeting : (last : Option StepResult) → is_supported (greeted last) ≡ true
    → last ≡ Some (result.Greeted support.Supported)
unfolding is_supported
greeting None h = let no : false ≡ true = h in cc
greeting (Some (result.Greeted support.Supported)) h = refl
greeting (Some (result.Greeted support.Unsupported)) h = let no : false ≡ true = h in cc
greeting (Some (result.Greeted support.Unknown)) h = let no : false ≡ true = h in cc
greeting (Some (result.Committed n)) h = let no : false ≡ true = h in cc
greeting (Some result.Conflict) h = let no : false ≡ true = h in cc
greeting (Some (result.PermanentFailure n)) h = let no : false ≡ true = h in cc
greeting (Some result.TransientFailure) h = let no : false ≡ true = h in cc
greeting (Some (result.InvalidRequest n)) h = let no : false ≡ true = h in cc
greeting (Some result.NoCommitSent) h = let no : false ≡ true = h in cc
greeting (Some (result.InDoubt s)) h = let no : false ≡ true = h in cc
greeting (Some (result.Marker m)) h = let no : false ≡ true = h in cc
greeting (Some result.NoMarker) h = let no : false ≡ true = h in cc
greeting (Some result.MarkerNotRead) h = let no : false ≡ true = h in cc
greeting (Some result.TombstoneWritten) h = let no : false ≡ true = h in cc
greeting (Some result.TombstoneUnconfirmed) h = let no : false ≡ true = h in cc
greeting (Some result.Stopped) h = let no : false ≡ true = h in cc

pub detect_needs_tokens : DetectNeedsTokens
detect_needs_tokens p ts q w h =
    let at = detects (facts p ts) q (was_in_doubt p ts w) h in
    (greeting (facts p ts).last at.0, at.1)

-- How many

-- the step leads to a result of an attempt
leads_to_attempt : Next → Bool
leads_to_attempt next.Attempt = true
leads_to_attempt next.Greet = true
leads_to_attempt n = false

writes_tombstone : Next → Bool
writes_tombstone next.WriteTombstone = true
writes_tombstone n = false

marked_attempts : (w r d n v : Bool)
    → leads_to_attempt (if w then next.ReadMarker
    else (if n && not r then next.Attempt else (if d && v then next.WriteTombstone else next.End))) ≡ true → n ≡ true
unfolding leads_to_attempt
marked_attempts true r d n v h = let no : false ≡ true = h in cc
marked_attempts false r d true v h = refl
marked_attempts false r true false true h = h
marked_attempts false r true false false h = h
marked_attempts false r false false v h = h

attempts_by : (s m : Bool) (q : Retry) (d u r i n v : Bool) (last : Option StepResult)
    → leads_to_attempt (next_by s m q d u r i n v last) ≡ true → n ≡ true
unfolding leads_to_attempt
attempts_by true m q d u r i n v last h = let no : false ≡ true = h in cc
attempts_by false true q d u r i n v last h = marked_attempts (needs_read d last) r d n v h
attempts_by false false q d u r i true v last h = refl
attempts_by false false q d u r i false v last h = h

attempts_if : (f : Facts) → leads_to_attempt (next_from f) ≡ true → f.attempts ≡ true
attempts_if f h =
    attempts_by f.settled
    (uses_marker f.retry) f.retry f.doubt f.unprotected f.refused f.invalid f.attempts f.tombstones
    f.last h

marked_tombstones : (w r d n v : Bool)
    → writes_tombstone (if w then next.ReadMarker
    else (if n && not r then next.Attempt else (if d && v then next.WriteTombstone else next.End))) ≡ true → v ≡ true
unfolding writes_tombstone
marked_tombstones true r d n v h = let no : false ≡ true = h in cc
marked_tombstones false r d n true h = refl
marked_tombstones false true true true false h = h
marked_tombstones false true false true false h = h
marked_tombstones false false d true false h = h
marked_tombstones false r true false false h = h
marked_tombstones false r false false false h = h

plain_tombstones : (b a c : Bool)
    → writes_tombstone
    (if b then next.End else (if a then next.Attempt else (if c then next.Greet else next.End))) ≡ true → ⊥
unfolding writes_tombstone
plain_tombstones true a c h = let no : false ≡ true = h in cc
plain_tombstones false true c h = let no : false ≡ true = h in cc
plain_tombstones false false true h = let no : false ≡ true = h in cc
plain_tombstones false false false h = let no : false ≡ true = h in cc

tombstones_by : (s m : Bool) (q : Retry) (d u r i n v : Bool) (last : Option StepResult)
    → writes_tombstone (next_by s m q d u r i n v last) ≡ true → v ≡ true
unfolding writes_tombstone
tombstones_by true m q d u r i n v last h = let no : false ≡ true = h in cc
tombstones_by false true q d u r i n v last h = marked_tombstones (needs_read d last) r d n v h
tombstones_by false false q d u r i n v last h =
    absurd
    (plain_tombstones (not n || (if d then i else r)) (may_send q d u (greeted last))
    (needs_greeting q u (greeted last)) h)

tombstones_if : (f : Facts) → writes_tombstone (next_from f) ≡ true → f.tombstones ≡ true
tombstones_if f h =
    tombstones_by f.settled
    (uses_marker f.retry) f.retry f.doubt f.unprotected f.refused f.invalid f.attempts f.tombstones
    f.last h

asked_attempt : (n : Next) (t : StepResult) → answers n t ≡ true → is_attempt t ≡ true → leads_to_attempt n ≡ true
unfolding leads_to_attempt
asked_attempt next.Attempt t a h = refl
asked_attempt next.Greet t a h = refl
asked_attempt next.End t a h = a
asked_attempt next.ReadMarker (result.Marker m) a h = h
asked_attempt next.ReadMarker result.NoMarker a h = h
asked_attempt next.ReadMarker result.MarkerNotRead a h = h
asked_attempt next.ReadMarker result.Stopped a h = h
asked_attempt next.ReadMarker (result.Committed n) a h = a
asked_attempt next.ReadMarker result.Conflict a h = a
asked_attempt next.ReadMarker (result.PermanentFailure n) a h = a
asked_attempt next.ReadMarker result.TransientFailure a h = a
asked_attempt next.ReadMarker (result.InvalidRequest n) a h = a
asked_attempt next.ReadMarker result.NoCommitSent a h = a
asked_attempt next.ReadMarker (result.InDoubt s) a h = a
asked_attempt next.ReadMarker (result.Greeted s) a h = a
asked_attempt next.ReadMarker result.TombstoneWritten a h = a
asked_attempt next.ReadMarker result.TombstoneUnconfirmed a h = a
asked_attempt next.WriteTombstone result.TombstoneWritten a h = h
asked_attempt next.WriteTombstone result.TombstoneUnconfirmed a h = h
asked_attempt next.WriteTombstone result.Stopped a h = h
asked_attempt next.WriteTombstone t a h = a

asked_tombstone : (n : Next) (t : StepResult) → answers n t ≡ true → is_tombstone_write t ≡ true
    → writes_tombstone n ≡ true
unfolding writes_tombstone
asked_tombstone next.WriteTombstone t a h = refl
asked_tombstone next.End t a h = a
asked_tombstone n result.TombstoneWritten a h = a
asked_tombstone n result.TombstoneUnconfirmed a h = a
asked_tombstone n t a h = h

left_lt : (k : ℕ) → is_left k ≡ true → 0 < k
left_lt zero h = let no : false ≡ true = h in cc
left_lt (suc k) h = omega arith

below : (n c : ℕ) → is_left (n - c) ≡ true → c < n
below n c h = let l : 0 < n - c = left_lt (n - c) h in omega (arith, l)

one_fits : (b : Bool) (c n : ℕ) → c ≤ n → (b ≡ true → c < n) → c + (if b then 1 else 0) ≤ n
one_fits true c n l h = let k : c < n = h refl in omega (arith, k)
one_fits false c n l h = omega (arith, l)

few : (p : Policy) (done ts : List StepResult) → Follows p done ts
    → count is_attempt done ≤ p.tries → count is_tombstone_write done ≤ p.tries
    → (count is_attempt (done ++ ts) ≤ p.tries) × (count is_tombstone_write (done ++ ts) ≤ p.tries)
few p done [] f a b = (
  subst (λ (z : List StepResult). count is_attempt z ≤ p.tries) (sym (append-nil done)) a,
  subst (λ (z : List StepResult). count is_tombstone_write z ≤ p.tries) (sym (append-nil done)) b,
)
few p done (t ∷ ts) f a b =
    let attempts : is_attempt t ≡ true → count is_attempt done < p.tries =
    λ e.
    below p.tries (count is_attempt done) (attempts_if (facts p done) (asked_attempt (next_of p done) t f.0 e)) in
    let tombstones : is_tombstone_write t ≡ true → count is_tombstone_write done < p.tries =
    λ e.
    below p.tries (count is_tombstone_write done)
    (tombstones_if (facts p done) (asked_tombstone (next_of p done) t f.0 e)) in
    subst (λ (z : List StepResult). (count is_attempt z ≤ p.tries) × (count is_tombstone_write z ≤ p.tries))
    (append_assoc done (t ∷ []) ts)
    (few p (done ++ t ∷ []) ts f.1
    (subst (λ (z : ℕ). z ≤ p.tries) (sym (count_more is_attempt done t))
    (one_fits (is_attempt t) (count is_attempt done) p.tries a attempts))
    (subst (λ (z : ℕ). z ≤ p.tries) (sym (count_more is_tombstone_write done t))
    (one_fits (is_tombstone_write t) (count is_tombstone_write done) p.tries b tombstones)))

pub few_attempts : FewAttempts
few_attempts p ts f = few p [] ts f (omega arith) (omega arith)
