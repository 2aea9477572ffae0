-- Laws of fates.
use Rattle.std.proofs.Common.{◌≡◌, ◌≢◌, ◌⊎◌, inl, inr, refl, sym, ◌∙◌, ap, Bool, true, false, not, ◌&&◌, ◌||◌, if◌then◌else◌, Option, List, [], ◌∷◌}
use Rattle.std.specs.List.{list_any}
use Rattle.std.proofs.lemmas.List.Folds.{Any-from_list_any, list_any-from_Any}
use Rattle.decider.specs.declared.policy.Retry.{Retry}
use Rattle.decider.specs.declared.policy.Retry.TheVariants as retry
use Rattle.decider.specs.declared.policy.Before.{Before}
use Rattle.decider.specs.declared.policy.Before.TheVariants as before
use Rattle.decider.specs.declared.policy.Policy.{Policy}
use Rattle.decider.specs.declared.steps.TokenSupport.TheVariants as support
use Rattle.decider.specs.declared.steps.StepResult.{StepResult}
use Rattle.decider.specs.declared.steps.StepResult.TheVariants as result
use Rattle.decider.specs.declared.steps.Next.{Next}
use Rattle.decider.specs.declared.steps.Next.TheVariants as next
use Rattle.decider.specs.declared.fate.Fate.{Fate}
use Rattle.decider.specs.declared.fate.Fate.TheVariants as fate
use Rattle.decider.specs.Rules.{is_commit, is_conflict, is_doubt, starts_in_doubt, has_tombstone, is_refusal, is_stop, in_doubt, unprotected, is_settled, sends, next_of, fate_by, fate_of, uses_marker, next_by, needs_read, is_invalid, is_left, attempts_left, tombstones_left, last_of}
use Rattle.decider.specs.Laws.{WasInDoubt, NoDoubt, CommittedWasReported, NotCommittedIsCertain, RefusedWasReported, StaysInDoubt, AttemptIsUnknown, UnreportedIsInDoubt, EndsOnceRefused}
use Rattle.decider.proofs.Bools.{or_left, or_right, or_true_left, or_true_right}
use Rattle.decider.proofs.Appending.{doubt_more, unprotected_more}

is_committed : Fate → Bool
is_committed fate.Committed = true
is_committed f = false

is_none : Fate → Bool
is_none fate.Refused = true
is_none fate.NotCommitted = true
is_none f = false

is_refused : Fate → Bool
is_refused fate.Refused = true
is_refused f = false

committed_by : (a b c d e : Bool) → is_committed (fate_by a b c d e) ≡ true → a ≡ true
unfolding is_committed
committed_by true b c d e h = refl
committed_by false true c d e h = h
committed_by false false true d true h = h
committed_by false false true d false h = h
committed_by false false false true e h = h
committed_by false false false false true h = h
committed_by false false false false false h = h

none_by : (a b c d e : Bool) → is_none (fate_by a b c d e) ≡ true → (d ≡ false) ⊎ (c ≡ true)
unfolding is_none
none_by true b c d e h = let no : false ≡ true = h in cc
none_by false true c d e h = let no : false ≡ true = h in cc
none_by false false true d e h = inr refl
none_by false false false true e h = let no : false ≡ true = h in cc
none_by false false false false e h = inl refl

refused_by : (a b c d e : Bool) → is_refused (fate_by a b c d e) ≡ true → e ≡ true
unfolding is_refused
refused_by true b c d e h = let no : false ≡ true = h in cc
refused_by false true c d e h = let no : false ≡ true = h in cc
refused_by false false true d true h = refl
refused_by false false true d false h = h
refused_by false false false true e h = let no : false ≡ true = h in cc
refused_by false false false false true h = refl
refused_by false false false false false h = h

fate_is_committed : (f : Fate) → f ≡ fate.Committed → is_committed f ≡ true
unfolding is_committed
fate_is_committed f e = ap is_committed e

fate_is_refused : (f : Fate) → f ≡ fate.Refused → is_refused f ≡ true
unfolding is_refused
fate_is_refused f e = ap is_refused e

fate_is_none : (f : Fate) → (f ≡ fate.NotCommitted) ⊎ (f ≡ fate.Refused) → is_none f ≡ true
unfolding is_none
fate_is_none f (inl e) = ap is_none e
fate_is_none f (inr e) = ap is_none e

pub committed_was_reported : CommittedWasReported
committed_was_reported p ts b h =
    Any-from_list_any is_commit ts
    (committed_by (list_any is_commit ts) (list_any (is_conflict p.retry) ts) (list_any (has_tombstone p.retry) ts)
    (in_doubt p ts || b) (list_any is_refusal ts) (fate_is_committed (fate_of p ts b) h))

pub refused_was_reported : RefusedWasReported
refused_was_reported p ts b h =
    Any-from_list_any is_refusal ts
    (refused_by (list_any is_commit ts) (list_any (is_conflict p.retry) ts) (list_any (has_tombstone p.retry) ts)
    (in_doubt p ts || b) (list_any is_refusal ts) (fate_is_refused (fate_of p ts b) h))

none_or : (p : Policy) (ts : List StepResult) (b : Bool)
    → (fate_of p ts b ≡ fate.NotCommitted) ⊎ (fate_of p ts b ≡ fate.Refused)
    → ((in_doubt p ts || b) ≡ false) ⊎ (list_any (has_tombstone p.retry) ts ≡ true)
none_or p ts b h =
    none_by (list_any is_commit ts) (list_any (is_conflict p.retry) ts) (list_any (has_tombstone p.retry) ts)
    (in_doubt p ts || b) (list_any is_refusal ts) (fate_is_none (fate_of p ts b) h)

-- Doubts

not_before : (b : Before) → starts_in_doubt b ≡ false → b ≡ before.Nothing
not_before before.Nothing h = refl
not_before before.InDoubt h = let no : true ≡ false = h in cc

none_all : (r : Retry) (ts : List StepResult) → list_any (is_doubt r) ts ≡ false → NoDoubt r ts
none_all r [] h = tt
none_all r (t ∷ ts) h = (
  or_left (is_doubt r t) (list_any (is_doubt r) ts) h,
  none_all r ts
      (or_right (is_doubt r t) (list_any (is_doubt r) ts) h),
)

pub not_committed_is_certain : NotCommittedIsCertain
not_committed_is_certain p ts b h = elim (none_or p ts b h) [
  | inl e ↦
      let d : in_doubt p ts ≡ false = or_left (in_doubt p ts) b e in
      inl (
        not_before p.before (or_left (starts_in_doubt p.before) (list_any (is_doubt p.retry) ts) d),
        none_all p.retry ts (or_right (starts_in_doubt p.before) (list_any (is_doubt p.retry) ts) d),
        or_right (in_doubt p ts) b e,
      )
  | inr e ↦ inr (Any-from_list_any (has_tombstone p.retry) ts e)
]

-- without a marker there is no tombstone
no_tombstone : (r : Retry) → r ≢ retry.Marker → (t : StepResult) → has_tombstone r t ≡ false
no_tombstone retry.Marker h t = absurd (h refl)
no_tombstone retry.Detect h t = refl
no_tombstone retry.Tokens h t = refl
no_tombstone retry.Never h t = refl

pub no_tombstones : (r : Retry) → r ≢ retry.Marker → (ts : List StepResult) → list_any (has_tombstone r) ts ≡ false
no_tombstones r h [] = refl
no_tombstones r h (t ∷ ts) = ap (λ z. z || list_any (has_tombstone r) ts) (no_tombstone r h t) ∙ no_tombstones r h ts

doubt_before : (p : Policy) (ts : List StepResult) → p.before ≡ before.InDoubt → in_doubt p ts ≡ true
doubt_before p ts h = ap (λ b. starts_in_doubt b || list_any (is_doubt p.retry) ts) h

not_none : (p : Policy) (ts : List StepResult) (b : Bool) → p.retry ≢ retry.Marker → p.before ≡ before.InDoubt
    → (fate_of p ts b ≡ fate.NotCommitted) ⊎ (fate_of p ts b ≡ fate.Refused) → ⊥
not_none p ts b m d h = elim (none_or p ts b h) [
  | inl e ↦ let no : false ≡ true = sym (or_left (in_doubt p ts) b e) ∙ doubt_before p ts d in cc
  | inr e ↦ let no : false ≡ true = sym (no_tombstones p.retry m ts) ∙ e in cc
]

pub stays_in_doubt : StaysInDoubt
stays_in_doubt p ts b m d = (λ h. not_none p ts b m d (inl h), λ h. not_none p ts b m d (inr h))

pub was_in_doubt : (p : Policy) (ts : List StepResult) → WasInDoubt p ts → in_doubt p ts ≡ true
was_in_doubt p ts (inl b) = doubt_before p ts b
was_in_doubt p ts (inr a) =
    or_true_right (starts_in_doubt p.before) (list_any (is_doubt p.retry) ts)
    (list_any-from_Any (is_doubt p.retry) ts a)

-- An attempt under way

pub unreported_is_in_doubt : UnreportedIsInDoubt
unreported_is_in_doubt p ts = (
  doubt_more p ts (result.InDoubt support.Unknown) ∙ or_true_right (in_doubt p ts) true refl,
  unprotected_more p ts (result.InDoubt support.Unknown) ∙ or_true_right (unprotected p ts) true refl,
)

-- an attempt follows only if nothing is settled
pub open_if : (s : Bool) (n : Next) → sends (if s then next.End else n) ≡ true → s ≡ false
open_if true n h = let no : false ≡ true = h in cc
open_if false n h = refl

pub sends_unsettled : (p : Policy) (ts : List StepResult) → next_of p ts ≡ next.Attempt → is_settled p ts ≡ false
sends_unsettled p ts h = open_if (is_settled p ts) _ (ap sends h)

-- so it is not committed, there is no conflict, and no tombstone
pub unsettled : (p : Policy) (ts : List StepResult) → is_settled p ts ≡ false
    → (list_any is_commit ts ≡ false) × (list_any (is_conflict p.retry) ts ≡ false)
    × (list_any (has_tombstone p.retry) ts ≡ false)
unsettled p ts h =
    let a : Bool = list_any is_commit ts in
    let b : Bool = list_any (is_conflict p.retry) ts in
    let c : Bool = list_any (has_tombstone p.retry) ts in
    let d : Bool = list_any is_stop ts in
    let h2 : (b || (c || d)) ≡ false = or_right a (b || (c || d)) h in
    (or_left a (b || (c || d)) h, or_left b (c || d) h2, or_left c d (or_right b (c || d) h2))

unknown_by : (a b c d e : Bool) → a ≡ false → b ≡ false → c ≡ false → d ≡ true → fate_by a b c d e ≡ fate.Unknown
unknown_by true b c d e x y z h = let no : true ≡ false = x in cc
unknown_by false true c d e x y z h = let no : true ≡ false = y in cc
unknown_by false false true d e x y z h = let no : true ≡ false = z in cc
unknown_by false false false true e x y z h = refl
unknown_by false false false false e x y z h = let no : false ≡ true = h in cc

pub attempt_is_unknown : AttemptIsUnknown
attempt_is_unknown p ts h =
    let u = unsettled p ts (sends_unsettled p ts h) in
    unknown_by (list_any is_commit ts) (list_any (is_conflict p.retry) ts) (list_any (has_tombstone p.retry) ts)
    (in_doubt p ts || true) (list_any is_refusal ts) u.0 u.1 u.2 (or_true_right (in_doubt p ts) true refl)

-- once it is refused, at most the marker is read
refused_by_marker : (m n v : Bool)
    → ((if m then next.ReadMarker else (if n && false then next.Attempt else next.End)) ≡ next.End)
    ⊎ ((if m then next.ReadMarker else (if n && false then next.Attempt else next.End)) ≡ next.ReadMarker)
refused_by_marker true n v = inr refl
refused_by_marker false true v = inl refl
refused_by_marker false false v = inl refl

ends_if : (n : Bool) (other : Next) → (if not n || true then next.End else other) ≡ next.End
ends_if true other = refl
ends_if false other = refl

refused_next : (s : Bool) (q : Retry) (d u r i n v : Bool) (last : Option StepResult) → r ≡ true
    → (d ≡ false) ⊎ (s ≡ true)
    → (next_by s (uses_marker q) q d u r i n v last ≡ next.End)
    ⊎ ((q ≡ retry.Marker) × (next_by s (uses_marker q) q d u r i n v last ≡ next.ReadMarker))
refused_next true q d u r i n v last e h = inl refl
refused_next false q d u false i n v last e h = let no : false ≡ true = e in cc
refused_next false q d u true i n v last e (inr h) = let no : false ≡ true = h in cc
refused_next false q true u true i n v last e (inl h) = let no : true ≡ false = h in cc
refused_next false retry.Marker false u true i n v last e (inl h) =
    elim (refused_by_marker (needs_read false last) n v) [
      | inl k ↦ inl k
      | inr k ↦ inr (refl, k)
    ]
refused_next false retry.Detect false u true i n v last e (inl h) = inl (ends_if n _)
refused_next false retry.Tokens false u true i n v last e (inl h) = inl (ends_if n _)
refused_next false retry.Never false u true i n v last e (inl h) = inl (ends_if n _)

tombstone_settles : (p : Policy) (ts : List StepResult) → list_any (has_tombstone p.retry) ts ≡ true
    → is_settled p ts ≡ true
tombstone_settles p ts h =
    or_true_right (list_any is_commit ts) _ (or_true_right (list_any (is_conflict p.retry) ts) _
    (or_true_left (list_any (has_tombstone p.retry) ts) (list_any is_stop ts) h))

pub ends_once_refused : EndsOnceRefused
ends_once_refused p ts b h =
    refused_next (is_settled p ts) p.retry (in_doubt p ts) (unprotected p ts) (list_any is_refusal ts)
    (list_any is_invalid ts)
    (is_left (attempts_left p ts)) (is_left (tombstones_left p ts)) (last_of ts)
    (refused_by (list_any is_commit ts) (list_any (is_conflict p.retry) ts) (list_any (has_tombstone p.retry) ts)
    (in_doubt p ts || b) (list_any is_refusal ts) (fate_is_refused (fate_of p ts b) h))
    (elim (none_or p ts b (inr h)) [
      | inl e ↦ inl (or_left (in_doubt p ts) b e)
      | inr e ↦ inr (tombstone_settles p ts e)
    ])
