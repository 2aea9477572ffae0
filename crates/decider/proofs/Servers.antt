-- The fate is true of servers with and without tokens.
use Rattle.std.proofs.Common.{◌≡◌, ◌≢◌, ◌≤◌, ◌+◌, ◌⊎◌, inl, inr, refl, sym, ◌∙◌, ap, subst, ℕ, suc, Bool, true, false, not, ◌&&◌, ◌||◌, if◌then◌else◌, Some, List, [], ◌∷◌, length, arith}
use Rattle.std.specs.List.{list_any}
use Rattle.decider.specs.declared.policy.Retry.{Retry}
use Rattle.decider.specs.declared.policy.Retry.TheVariants as retry
use Rattle.decider.specs.declared.policy.Before.{Before}
use Rattle.decider.specs.declared.policy.Before.TheVariants as before
use Rattle.decider.specs.declared.policy.Policy.{Policy}
use Rattle.decider.specs.declared.steps.TokenSupport.TheVariants as support
use Rattle.decider.specs.declared.steps.StepResult.{StepResult}
use Rattle.decider.specs.declared.steps.StepResult.TheVariants as result
use Rattle.decider.specs.declared.steps.Next.TheVariants as next
use Rattle.decider.specs.Rules.{is_commit, is_conflict, is_doubt, is_unprotected, starts_in_doubt, has_tombstone, is_refusal, is_attempt, in_doubt, unprotected, next_of, fate_by, last_of}
use Rattle.decider.specs.Attempts.{Attempt, HasNot, is_waiting}
use Rattle.decider.specs.Servers.{Entry, Servers, Event, own, others, put, Is, IsOther, Among, mine, HasCommitted, MayReport, reported, MaySend, Step, RunsTo, Starts, Means, FateAtServers}
use Rattle.decider.proofs.Bools.{or_left, or_right, or_cases}
use Rattle.decider.proofs.Appending.{any_more, doubt_more, unprotected_more}
use Rattle.decider.proofs.Fates.{unsettled, sends_unsettled, no_tombstones}
use Rattle.decider.proofs.Sending.{Reason, reason, protected, truth}

-- the attempt that the caller waits for was answered so
AttemptIs : Attempt → Bool → ℕ → List Entry → ℕ → Type 0
AttemptIs (Attempt.Done true) k w es n = HasCommitted k w es n
AttemptIs (Attempt.Done false) k w es n = IsOther w es
AttemptIs a k w es n = Unit {0}

-- no attempt has committed in the ledger, except perhaps this one
MineOnly : Attempt → List Entry → Type 0
MineOnly (Attempt.Done true) es = Unit {0}
MineOnly a es = mine es ≡ 0

-- no attempt has committed at a server that keeps no tokens, except perhaps this one
PlainOnly : Attempt → Bool → ℕ → Type 0
PlainOnly (Attempt.Done true) false n = Unit {0}
PlainOnly a k n = n ≡ 0

-- how many may yet commit of the attempt that the caller waits for, at a server that keeps no tokens
open_plain : Attempt → Bool → ℕ
open_plain Attempt.Waiting false = 1
open_plain a k = 0

-- it may yet commit in the ledger
open_kept : Attempt → Bool → Bool
open_kept Attempt.Waiting true = true
open_kept a k = false

-- At servers without tokens, none of the attempts has committed or may commit; or one, and then none in the ledger.
Apart : List Entry → ℕ → Bool → Attempt → List ℕ → ℕ → Type 0
Apart es n k a late lp =
    (n + lp + open_plain a k ≡ 0)
    ⊎ ((n + lp + open_plain a k ≡ 1) × (mine es ≡ 0) × (late ≡ []) × (open_kept a k ≡ false))

-- the invariant of each moment
record Sound (p : Policy) (es : List Entry) (n : ℕ) (w : ℕ) (k : Bool) (a : Attempt) (late : List ℕ) (lp : ℕ)
    (ts : List StepResult) : Type 0 where
  one : length es ≤ 1
  done : AttemptIs a k w es n
  commits : list_any is_commit ts ≡ true → HasCommitted k w es n
  conflicts : list_any (is_conflict p.retry) ts ≡ true → IsOther w es × (a ≡ Attempt.Idle)
  sure : in_doubt p ts ≡ false → list_any is_commit ts ≡ false → (late ≡ []) × MineOnly a es
  safe : unprotected p ts ≡ false → list_any is_commit ts ≡ false → (lp ≡ 0) × PlainOnly a k n
  apart : Apart es n k a late lp
  tokens : p.retry ≡ retry.Tokens → (n + lp ≡ 0) × (is_waiting a ≡ true → k ≡ true)

abbrev SoundAt : Policy → Servers → Type 0
SoundAt p s = Sound p s.entries s.plain s.writes s.keeps s.attempt s.late s.late_plain s.results

-- Entries

put_one : (e : Entry) (es : List Entry) → length es ≤ 1 → length (put e es) ≤ 1
put_one e [] h = omega arith
put_one e (x ∷ xs) h = h

put_is : (e : Entry) (w : ℕ) (es : List Entry) → Is w es → Is w (put e es)
put_is e w [] h = absurd h
put_is e w (x ∷ xs) h = h

put_in : (e : Entry) (k : Bool) (w : ℕ) (es : List Entry) (n : ℕ) → HasCommitted k w es n
    → HasCommitted k w (put e es) n
put_in e true w es n h = put_is e w es h
put_in e false w es n h = h

put_other : (e : Entry) (w : ℕ) (es : List Entry) → IsOther w es → IsOther w (put e es)
put_other e w [] h = absurd h
put_other e w (x ∷ xs) h = h

put_none : (x : ℕ) (es : List Entry) → mine es ≡ 0 → mine (put (others x) es) ≡ 0
put_none x [] h = refl
put_none x (e ∷ es) h = h

put_attempt : (e : Entry) (a : Attempt) (k : Bool) (w : ℕ) (es : List Entry) (n : ℕ)
    → AttemptIs a k w es n → AttemptIs a k w (put e es) n
unfolding AttemptIs
put_attempt e (Attempt.Done true) k w es n h = put_in e k w es n h
put_attempt e (Attempt.Done false) k w es n h = put_other e w es h
put_attempt e Attempt.Idle k w es n h = tt
put_attempt e Attempt.Waiting k w es n h = tt

put_only : (x : ℕ) (a : Attempt) (es : List Entry) → MineOnly a es → MineOnly a (put (others x) es)
unfolding MineOnly
put_only x (Attempt.Done true) es h = tt
put_only x (Attempt.Done false) es h = put_none x es h
put_only x Attempt.Idle es h = put_none x es h
put_only x Attempt.Waiting es h = put_none x es h

mine_few : (es : List Entry) → mine es ≤ length es
mine_few [] = omega arith
mine_few (e ∷ es) = at e.mine (mine_few es)
  where
    at : (b : Bool) → mine es ≤ length es → (if b then suc (mine es) else mine es) ≤ suc (length es)
    at true h = omega (arith, h)
    at false h = omega (arith, h)

not_empty : (late : List ℕ) (x : ℕ) → Among late x → late ≡ [] → ⊥
not_empty late x c e = subst (λ (z : List ℕ). Among z x) e c

-- Others write, and COMMITs are processed

others_write : (p : Policy) (x : ℕ) (es : List Entry) (n w : ℕ) (k : Bool) (a : Attempt) (late : List ℕ) (lp : ℕ)
    (ts : List StepResult)
    → Sound p es n w k a late lp ts → Sound p (put (others x) es) n w k a late lp ts
unfolding Apart
others_write p x es n w k a late lp ts s = record {
  one = put_one (others x) es s.one;
  done = put_attempt (others x) a k w es n s.done;
  commits = λ h. put_in (others x) k w es n (s.commits h);
  conflicts = λ h. (put_other (others x) w es (s.conflicts h).0, (s.conflicts h).1);
  sure = λ d c. let at = s.sure d c in (at.0, put_only x a es at.1);
  safe = s.safe;
  apart = elim s.apart [
    | inl h ↦ inl h
    | inr h ↦ inr (h.0, put_none x es h.1, h.2, h.3)
  ];
  tokens = s.tokens;
}

commit_late : (p : Policy) (x : ℕ) (es : List Entry) (n w : ℕ) (k : Bool) (a : Attempt) (late : List ℕ) (lp : ℕ)
    (ts : List StepResult)
    → Among late x → Sound p es n w k a late lp ts → Sound p (put (own x) es) n w k a late lp ts
unfolding Apart
commit_late p x es n w k a late lp ts c s = record {
  one = put_one (own x) es s.one;
  done = put_attempt (own x) a k w es n s.done;
  commits = λ h. put_in (own x) k w es n (s.commits h);
  conflicts = λ h. (put_other (own x) w es (s.conflicts h).0, (s.conflicts h).1);
  sure = λ d e. absurd (not_empty late x c (s.sure d e).0);
  safe = s.safe;
  apart = elim s.apart [
    | inl h ↦ inl h
    | inr h ↦ absurd (not_empty late x c h.2)
  ];
  tokens = s.tokens;
}

-- one that is late leaves no place for another
late_in : (k : Bool) (w : ℕ) (es : List Entry) (n left o : ℕ) → n + suc left + o ≤ 1 → HasCommitted k w es n
    → HasCommitted k w es (suc n)
late_in true w es n left o h i = i
late_in false w es n left o h i = absurd (omega (arith, h, i))

late_attempt : (a : Attempt) (k : Bool) (w : ℕ) (es : List Entry) (n left o : ℕ) → n + suc left + o ≤ 1
    → AttemptIs a k w es n → AttemptIs a k w es (suc n)
unfolding AttemptIs
late_attempt (Attempt.Done true) k w es n left o h i = late_in k w es n left o h i
late_attempt (Attempt.Done false) k w es n left o h i = i
late_attempt Attempt.Idle k w es n left o h i = tt
late_attempt Attempt.Waiting k w es n left o h i = tt

apart_one : (es : List Entry) (n : ℕ) (k : Bool) (a : Attempt) (late : List ℕ) (lp : ℕ) → Apart es n k a late lp
    → n + lp + open_plain a k ≤ 1
unfolding Apart
apart_one es n k a late lp (inl h) = omega (arith, h)
apart_one es n k a late lp (inr h) = let e : n + lp + open_plain a k ≡ 1 = h.0 in omega (arith, e)

apart_late : (es : List Entry) (n : ℕ) (k : Bool) (a : Attempt) (late : List ℕ) (left : ℕ)
    → Apart es n k a late (suc left)
    → Apart es (suc n) k a late left
unfolding Apart
apart_late es n k a late left (inl h) = absurd (omega (arith, h))
apart_late es n k a late left (inr h) =
    let e : n + suc left + open_plain a k ≡ 1 = h.0 in
    inr (omega (arith, e), h.1, h.2, h.3)

commit_late_plain : (p : Policy) (es : List Entry) (n w : ℕ) (k : Bool) (a : Attempt) (late : List ℕ) (left : ℕ)
    (ts : List StepResult)
    → Sound p es n w k a late (suc left) ts → Sound p es (suc n) w k a late left ts
commit_late_plain p es n w k a late left ts s =
    let few : n + suc left + open_plain a k ≤ 1 = apart_one es n k a late (suc left) s.apart in
    record {
      one = s.one;
      done = late_attempt a k w es n left (open_plain a k) few s.done;
      commits = λ h. late_in k w es n left (open_plain a k) few (s.commits h);
      conflicts = s.conflicts;
      sure = s.sure;
      safe = λ u c. let e : suc left ≡ 0 = (s.safe u c).0 in absurd (omega (arith, e));
      apart = apart_late es n k a late left s.apart;
      tokens = λ t. let e : n + suc left ≡ 0 = (s.tokens t).0 in absurd (omega (arith, e));
    }

waits_not : Attempt.Waiting ≡ Attempt.Idle → ⊥
waits_not e = let no : true ≡ false = ap is_waiting e in cc

apart_kept : (es fs : List Entry) (n : ℕ) (b : Bool) (late : List ℕ) (lp : ℕ) → Apart es n true Attempt.Waiting late lp
    → Apart fs n true (Attempt.Done b) late lp
unfolding Apart open_plain open_kept
apart_kept es fs n b late lp (inl h) = inl h
apart_kept es fs n b late lp (inr h) = let no : true ≡ false = h.3 in cc

commit : (p : Policy) (es : List Entry) (n w : ℕ) (late : List ℕ) (lp : ℕ) (ts : List StepResult)
    → Is w (put (own w) es)
    → Sound p es n w true Attempt.Waiting late lp ts → Sound p (put (own w) es) n w true (Attempt.Done true) late lp ts
unfolding AttemptIs MineOnly PlainOnly
commit p es n w late lp ts i s = record {
  one = put_one (own w) es s.one;
  done = i;
  commits = λ h. i;
  conflicts = λ h. absurd (waits_not (s.conflicts h).1);
  sure = λ d c. ((s.sure d c).0, tt);
  safe = s.safe;
  apart = apart_kept es (put (own w) es) n true late lp s.apart;
  tokens = λ t. ((s.tokens t).0, λ h. refl);
}

refuse : (p : Policy) (es : List Entry) (n w : ℕ) (late : List ℕ) (lp : ℕ) (ts : List StepResult) → IsOther w es
    → Sound p es n w true Attempt.Waiting late lp ts → Sound p es n w true (Attempt.Done false) late lp ts
unfolding AttemptIs MineOnly PlainOnly
refuse p es n w late lp ts i s = record {
  one = s.one;
  done = i;
  commits = s.commits;
  conflicts = λ h. absurd (waits_not (s.conflicts h).1);
  sure = s.sure;
  safe = s.safe;
  apart = apart_kept es es n false late lp s.apart;
  tokens = λ t. ((s.tokens t).0, λ h. refl);
}

apart_plain : (es : List Entry) (n : ℕ) (late : List ℕ) (lp : ℕ) → Apart es n false Attempt.Waiting late lp
    → (n ≡ 0) × Apart es (suc n) false (Attempt.Done true) late lp
unfolding Apart open_plain open_kept
apart_plain es n late lp (inl h) = absurd (omega (arith, h))
apart_plain es n late lp (inr h) =
    let e : n + lp + 1 ≡ 1 = h.0 in
    (omega (arith, e), inr (omega (arith, e), h.1, h.2, refl))

commit_plain : (p : Policy) (es : List Entry) (n w : ℕ) (late : List ℕ) (lp : ℕ) (ts : List StepResult)
    → Sound p es n w false Attempt.Waiting late lp ts → Sound p es (suc n) w false (Attempt.Done true) late lp ts
unfolding AttemptIs MineOnly PlainOnly
commit_plain p es n w late lp ts s =
    let at = apart_plain es n late lp s.apart in
    let none : n ≡ 0 = at.0 in
    record {
      one = s.one;
      done = ap (λ (z : ℕ). suc z) none;
      commits = λ h. ap (λ (z : ℕ). suc z) none;
      conflicts = λ h. absurd (waits_not (s.conflicts h).1);
      sure = λ d c. ((s.sure d c).0, tt);
      safe = λ u c. ((s.safe u c).0, tt);
      apart = at.1;
      tokens = λ t. let no : false ≡ true = (s.tokens t).1 refl in cc;
    }

-- An attempt is sent

sent : (p : Policy) (es : List Entry) (n w x : ℕ) (k l : Bool) (late : List ℕ) (lp : ℕ) (ts : List StepResult)
    → next_of p ts ≡ next.Attempt → (p.retry ≡ retry.Tokens → l ≡ true) → Apart es n l Attempt.Waiting late lp
    → Sound p es n w k Attempt.Idle late lp ts → Sound p es n x l Attempt.Waiting late lp ts
unfolding AttemptIs MineOnly PlainOnly
sent p es n w x k l late lp ts h t i s =
    let u = unsettled p ts (sends_unsettled p ts h) in
    record {
      one = s.one;
      done = tt;
      commits = λ e. let no : false ≡ true = sym u.0 ∙ e in cc;
      conflicts = λ e. let no : false ≡ true = sym u.1 ∙ e in cc;
      sure = s.sure;
      safe = s.safe;
      apart = i;
      tokens = λ e. ((s.tokens e).0, λ g. t e);
    }

-- if nothing is in doubt at a server without tokens, none is counted there
plain_none : (p : Policy) (es : List Entry) (n w : ℕ) (k : Bool) (late : List ℕ) (lp : ℕ) (ts : List StepResult)
    → next_of p ts ≡ next.Attempt → unprotected p ts ≡ false → Sound p es n w k Attempt.Idle late lp ts
    → (n ≡ 0) × (lp ≡ 0)
unfolding PlainOnly
plain_none p es n w k late lp ts h u s =
    let at = s.safe u (unsettled p ts (sends_unsettled p ts h)).0 in
    (at.1, at.0)

kept_none : (p : Policy) (es : List Entry) (n w : ℕ) (k : Bool) (late : List ℕ) (lp : ℕ) (ts : List StepResult)
    → next_of p ts ≡ next.Attempt → in_doubt p ts ≡ false → Sound p es n w k Attempt.Idle late lp ts
    → (mine es ≡ 0) × (late ≡ [])
unfolding MineOnly
kept_none p es n w k late lp ts h d s =
    let at = s.sure d (unsettled p ts (sends_unsettled p ts h)).0 in
    (at.1, at.0)

apart_sent : (es : List Entry) (n : ℕ) (l : Bool) (late : List ℕ) (lp : ℕ) → n ≡ 0 → lp ≡ 0
    → (l ≡ false → (mine es ≡ 0) × (late ≡ [])) → Apart es n l Attempt.Waiting late lp
unfolding Apart open_plain open_kept
apart_sent es n true late lp e f g = inl (omega (arith, e, f))
apart_sent es n false late lp e f g = inr (omega (arith, e, f), (g refl).0, (g refl).1, refl)

not_false : (l : Bool) → l ≡ true → l ≡ false → ⊥
not_false l e f = let no : true ≡ false = sym e ∙ f in cc

send_by : (p : Policy) (es : List Entry) (n w : ℕ) (k l : Bool) (late : List ℕ) (lp : ℕ) (ts : List StepResult)
    → next_of p ts ≡ next.Attempt → (p.retry ≡ retry.Tokens → l ≡ true)
    → (last_of ts ≡ Some (result.Greeted support.Supported) → l ≡ true)
    → Sound p es n w k Attempt.Idle late lp ts → Reason p ts → Apart es n l Attempt.Waiting late lp
send_by p es n w k l late lp ts h t g s (Reason.NoDoubt d) =
    let none = plain_none p es n w k late lp ts h (protected p ts d) s in
    apart_sent es n l late lp none.0 none.1 (λ e. kept_none p es n w k late lp ts h d s)
send_by p es n w k l late lp ts h t g s (Reason.Tokens e) =
    let none : n + lp ≡ 0 = (s.tokens e).0 in
    apart_sent es n l late lp (omega (arith, none)) (omega (arith, none)) (λ f. absurd (not_false l (t e) f))
send_by p es n w k l late lp ts h t g s (Reason.Greeted u e) =
    let none = plain_none p es n w k late lp ts h u s in
    apart_sent es n l late lp none.0 none.1 (λ f. absurd (not_false l (g e) f))

-- A result is reported

says_commit : (s : Servers) (t : StepResult) → MayReport s t → AttemptIs s.attempt s.keeps s.writes s.entries s.plain
    → is_commit t ≡ true → HasCommitted s.keeps s.writes s.entries s.plain
unfolding AttemptIs
says_commit s (result.Committed n) m h e = subst (λ (z : Attempt). AttemptIs z s.keeps s.writes s.entries s.plain) m h
says_commit s (result.Marker r) m h e = absurd m
says_commit s result.Conflict m h e = let no : false ≡ true = e in cc
says_commit s (result.PermanentFailure n) m h e = let no : false ≡ true = e in cc
says_commit s result.TransientFailure m h e = let no : false ≡ true = e in cc
says_commit s (result.InvalidRequest n) m h e = let no : false ≡ true = e in cc
says_commit s result.NoCommitSent m h e = let no : false ≡ true = e in cc
says_commit s (result.InDoubt k) m h e = let no : false ≡ true = e in cc
says_commit s (result.Greeted k) m h e = let no : false ≡ true = e in cc
says_commit s result.NoMarker m h e = let no : false ≡ true = e in cc
says_commit s result.MarkerNotRead m h e = let no : false ≡ true = e in cc
says_commit s result.TombstoneWritten m h e = let no : false ≡ true = e in cc
says_commit s result.TombstoneUnconfirmed m h e = let no : false ≡ true = e in cc
says_commit s result.Stopped m h e = let no : false ≡ true = e in cc

says_conflict : (s : Servers) (t : StepResult) → MayReport s t → AttemptIs s.attempt s.keeps s.writes s.entries s.plain
    → is_conflict retry.Never t ≡ true → IsOther s.writes s.entries × (is_attempt t ≡ true)
unfolding AttemptIs
says_conflict s result.Conflict m h e =
    (subst (λ (z : Attempt). AttemptIs z s.keeps s.writes s.entries s.plain) m h, refl)
says_conflict s (result.Marker r) m h e = absurd m
says_conflict s (result.Committed n) m h e = let no : false ≡ true = e in cc
says_conflict s (result.PermanentFailure n) m h e = let no : false ≡ true = e in cc
says_conflict s result.TransientFailure m h e = let no : false ≡ true = e in cc
says_conflict s (result.InvalidRequest n) m h e = let no : false ≡ true = e in cc
says_conflict s result.NoCommitSent m h e = let no : false ≡ true = e in cc
says_conflict s (result.InDoubt k) m h e = let no : false ≡ true = e in cc
says_conflict s (result.Greeted k) m h e = let no : false ≡ true = e in cc
says_conflict s result.NoMarker m h e = let no : false ≡ true = e in cc
says_conflict s result.MarkerNotRead m h e = let no : false ≡ true = e in cc
says_conflict s result.TombstoneWritten m h e = let no : false ≡ true = e in cc
says_conflict s result.TombstoneUnconfirmed m h e = let no : false ≡ true = e in cc
says_conflict s result.Stopped m h e = let no : false ≡ true = e in cc

refused_not : (a : Attempt) → a ≡ Attempt.Done false → HasNot a
refused_not a e = subst (λ (z : Attempt). HasNot z) (sym e) tt

-- a result of an attempt that is neither a commit nor a doubt says that it has not committed
says_not : (s : Servers) (t : StepResult) → MayReport s t → is_commit t ≡ false → is_doubt retry.Never t ≡ false
    → is_attempt t ≡ true → HasNot s.attempt
says_not s (result.Committed n) m c d e = let no : true ≡ false = c in cc
says_not s (result.InDoubt k) m c d e = let no : true ≡ false = d in cc
says_not s result.Conflict m c d e = refused_not s.attempt m
says_not s (result.PermanentFailure n) m c d e = m
says_not s result.TransientFailure m c d e = m
says_not s (result.InvalidRequest n) m c d e = m
says_not s result.NoCommitSent m c d e = m
says_not s (result.Marker r) m c d e = absurd m
says_not s (result.Greeted k) m c d e = let no : false ≡ true = e in cc
says_not s result.NoMarker m c d e = let no : false ≡ true = e in cc
says_not s result.MarkerNotRead m c d e = let no : false ≡ true = e in cc
says_not s result.TombstoneWritten m c d e = let no : false ≡ true = e in cc
says_not s result.TombstoneUnconfirmed m c d e = let no : false ≡ true = e in cc
says_not s result.Stopped m c d e = let no : false ≡ true = e in cc

-- a doubt is a result of an attempt; and a protected one was left by a server that keeps tokens
says_kept : (s : Servers) (t : StepResult) → MayReport s t → is_doubt retry.Never t ≡ true
    → (is_attempt t ≡ true) × (is_unprotected t ≡ false → s.keeps ≡ true)
says_kept s (result.InDoubt support.Supported) m d = (refl, λ u. m)
says_kept s (result.InDoubt support.Unsupported) m d = (refl, λ u. let no : true ≡ false = u in cc)
says_kept s (result.InDoubt support.Unknown) m d = (refl, λ u. let no : true ≡ false = u in cc)
says_kept s (result.Committed n) m d = let no : false ≡ true = d in cc
says_kept s result.Conflict m d = let no : false ≡ true = d in cc
says_kept s (result.PermanentFailure n) m d = let no : false ≡ true = d in cc
says_kept s result.TransientFailure m d = let no : false ≡ true = d in cc
says_kept s (result.InvalidRequest n) m d = let no : false ≡ true = d in cc
says_kept s result.NoCommitSent m d = let no : false ≡ true = d in cc
says_kept s (result.Marker r) m d = absurd m
says_kept s (result.Greeted k) m d = let no : false ≡ true = d in cc
says_kept s result.NoMarker m d = let no : false ≡ true = d in cc
says_kept s result.MarkerNotRead m d = let no : false ≡ true = d in cc
says_kept s result.TombstoneWritten m d = let no : false ≡ true = d in cc
says_kept s result.TombstoneUnconfirmed m d = let no : false ≡ true = d in cc
says_kept s result.Stopped m d = let no : false ≡ true = d in cc

-- the changes by a result: it is the result of an attempt, and it is a doubt
attempt_if : (b : Bool) (a : Attempt) (k : Bool) (w : ℕ) (es : List Entry) (n : ℕ) → AttemptIs a k w es n
    → AttemptIs (if b then Attempt.Idle else a) k w es n
unfolding AttemptIs
attempt_if true a k w es n h = tt
attempt_if false a k w es n h = h

idle_if : (b : Bool) (a : Attempt) → a ≡ Attempt.Idle → (if b then Attempt.Idle else a) ≡ Attempt.Idle
idle_if true a e = refl
idle_if false a e = e

now_idle : (b : Bool) (a : Attempt) → b ≡ true → (if b then Attempt.Idle else a) ≡ Attempt.Idle
now_idle true a e = refl
now_idle false a e = let no : false ≡ true = e in cc

late_if : (d o k : Bool) (w : ℕ) (late : List ℕ) → d ≡ false → (if (d && o) && k then w ∷ late else late) ≡ late
late_if true o k w late e = let no : true ≡ false = e in cc
late_if false o k w late e = refl

late_plain_if : (d o k : Bool) (lp : ℕ) → (d ≡ true → k ≡ true) → (if (d && o) && not k then suc lp else lp) ≡ lp
late_plain_if true true true lp e = refl
late_plain_if true false true lp e = refl
late_plain_if true o false lp e = let no : false ≡ true = e refl in cc
late_plain_if false o k lp e = refl

mine_if : (b : Bool) (a : Attempt) (es : List Entry) → (b ≡ true → HasNot a) → MineOnly a es
    → MineOnly (if b then Attempt.Idle else a) es
unfolding MineOnly
mine_if false a es h m = m
mine_if true (Attempt.Done true) es h m = absurd (h refl)
mine_if true (Attempt.Done false) es h m = m
mine_if true Attempt.Idle es h m = m
mine_if true Attempt.Waiting es h m = m

plain_if : (b : Bool) (a : Attempt) (k : Bool) (n : ℕ) → (b ≡ true → HasNot a ⊎ (k ≡ true)) → PlainOnly a k n
    → PlainOnly (if b then Attempt.Idle else a) k n
unfolding PlainOnly
plain_if false a k n h m = m
plain_if true (Attempt.Done true) true n h m = m
plain_if true (Attempt.Done true) false n h m = elim (h refl) [
  | inl x ↦ absurd x
  | inr e ↦ let no : false ≡ true = e in cc
]
plain_if true (Attempt.Done false) k n h m = m
plain_if true Attempt.Idle k n h m = m
plain_if true Attempt.Waiting k n h m = m

apart_if : (b d : Bool) (es : List Entry) (n : ℕ) (k : Bool) (a : Attempt) (w : ℕ) (late : List ℕ) (lp : ℕ)
    → (d ≡ true → b ≡ true) → Apart es n k a late lp
    → Apart es n k (if b then Attempt.Idle else a) (if (d && is_waiting a) && k then w ∷ late else late)
    (if (d && is_waiting a) && not k then suc lp else lp)
unfolding Apart open_plain open_kept
apart_if false true es n k a w late lp e h = let no : false ≡ true = e refl in cc
apart_if false false es n k a w late lp e h = h
apart_if true d es n k Attempt.Idle w late lp e h = apart_still d
  where
    apart_still : (d : Bool)
        → Apart es n k Attempt.Idle (if (d && false) && k then w ∷ late else late)
        (if (d && false) && not k then suc lp else lp)
    apart_still true = h
    apart_still false = h
apart_if true d es n k (Attempt.Done x) w late lp e h = apart_still d
  where
    apart_still : (d : Bool)
        → Apart es n k Attempt.Idle (if (d && false) && k then w ∷ late else late)
        (if (d && false) && not k then suc lp else lp)
    apart_still true = h
    apart_still false = h
apart_if true true es n true Attempt.Waiting w late lp e (inl h) = inl h
apart_if true true es n true Attempt.Waiting w late lp e (inr h) = let no : true ≡ false = h.3 in cc
apart_if true true es n false Attempt.Waiting w late lp e (inl h) = absurd (omega (arith, h))
apart_if true true es n false Attempt.Waiting w late lp e (inr h) =
    let x : n + lp + 1 ≡ 1 = h.0 in
    inr (omega (arith, x), h.1, h.2, refl)
apart_if true false es n true Attempt.Waiting w late lp e (inl h) = inl h
apart_if true false es n true Attempt.Waiting w late lp e (inr h) = let no : true ≡ false = h.3 in cc
apart_if true false es n false Attempt.Waiting w late lp e (inl h) = absurd (omega (arith, h))
apart_if true false es n false Attempt.Waiting w late lp e (inr h) =
    let x : n + lp + 1 ≡ 1 = h.0 in
    inl (omega (arith, x))

tokens_if : (b d : Bool) (n : ℕ) (k : Bool) (a : Attempt) (lp : ℕ) → (n + lp ≡ 0) × (is_waiting a ≡ true → k ≡ true)
    → (n + (if (d && is_waiting a) && not k then suc lp else lp) ≡ 0)
    × (is_waiting (if b then Attempt.Idle else a) ≡ true → k ≡ true)
tokens_if b d n k a lp h = (
  subst (λ (z : ℕ). n + z ≡ 0) (sym (same d (is_waiting a) k h.1)) h.0,
  waits b h.1,
)
  where
    same : (d o k : Bool) → (o ≡ true → k ≡ true) → (if (d && o) && not k then suc lp else lp) ≡ lp
    same true true true f = refl
    same true true false f = let no : false ≡ true = f refl in cc
    same true false k f = refl
    same false o k f = refl

    waits : (b : Bool) → (is_waiting a ≡ true → k ≡ true) → is_waiting (if b then Attempt.Idle else a) ≡ true → k ≡ true
    waits true f e = let no : false ≡ true = e in cc
    waits false f e = f e

-- without a marker, doubts and conflicts don't depend on the policy
same_doubt : (r : Retry) → r ≢ retry.Marker → (t : StepResult) → is_doubt r t ≡ is_doubt retry.Never t
same_doubt retry.Marker m t = absurd (m refl)
same_doubt retry.Never m t = refl
same_doubt retry.Detect m t = refl
same_doubt retry.Tokens m t = refl

same_conflict : (r : Retry) → r ≢ retry.Marker → (t : StepResult) → is_conflict r t ≡ is_conflict retry.Never t
same_conflict retry.Marker m t = absurd (m refl)
same_conflict retry.Never m t = refl
same_conflict retry.Detect m t = refl
same_conflict retry.Tokens m t = refl

report_sound : (p : Policy) → p.retry ≢ retry.Marker → (s : Servers) (t : StepResult) → MayReport s t → SoundAt p s
    → SoundAt p (reported t s)
report_sound p r s t m h =
    let b : Bool = is_attempt t in
    let d : Bool = is_doubt retry.Never t in
    record {
      one = h.one;
      done = attempt_if b s.attempt s.keeps s.writes s.entries s.plain h.done;
      commits =
          λ e. elim (or_cases (list_any is_commit s.results) (is_commit t) (sym (any_more is_commit s.results t) ∙ e)) [
            | inl k ↦ h.commits k
            | inr k ↦ says_commit s t m h.done k
          ];
      conflicts = λ e.
          elim (or_cases (list_any (is_conflict p.retry) s.results) (is_conflict p.retry t)
          (sym (any_more (is_conflict p.retry) s.results t) ∙ e)) [
            | inl k ↦ ((h.conflicts k).0, idle_if b s.attempt (h.conflicts k).1)
            | inr k ↦
                let at = says_conflict s t m h.done (sym (same_conflict p.retry r t) ∙ k) in
                (at.0, now_idle b s.attempt at.1)
          ];
      sure = λ e c.
          let doubts : (in_doubt p s.results || is_doubt p.retry t) ≡ false = sym (doubt_more p s.results t) ∙ e in
          let commits : (list_any is_commit s.results || is_commit t) ≡ false =
          sym (any_more is_commit s.results t) ∙ c in
          let no_doubt : d ≡ false =
          sym (same_doubt p.retry r t) ∙ or_right (in_doubt p s.results) (is_doubt p.retry t) doubts in
          let no_commit : is_commit t ≡ false = or_right (list_any is_commit s.results) (is_commit t) commits in
          let at = h.sure (or_left (in_doubt p s.results) (is_doubt p.retry t) doubts)
          (or_left (list_any is_commit s.results) (is_commit t) commits) in (
            late_if d (is_waiting s.attempt) s.keeps s.writes s.late no_doubt ∙ at.0,
            mine_if b s.attempt s.entries (λ x. says_not s t m no_commit no_doubt x) at.1,
          );
      safe = λ e c.
          let doubts : (unprotected p s.results || is_unprotected t) ≡ false =
          sym (unprotected_more p s.results t) ∙ e in
          let commits : (list_any is_commit s.results || is_commit t) ≡ false =
          sym (any_more is_commit s.results t) ∙ c in
          let no_doubt : is_unprotected t ≡ false = or_right (unprotected p s.results) (is_unprotected t) doubts in
          let no_commit : is_commit t ≡ false = or_right (list_any is_commit s.results) (is_commit t) commits in
          let kept : d ≡ true → s.keeps ≡ true = λ x. (says_kept s t m x).1 no_doubt in
          let at = h.safe (or_left (unprotected p s.results) (is_unprotected t) doubts)
          (or_left (list_any is_commit s.results) (is_commit t) commits) in (
            late_plain_if d (is_waiting s.attempt) s.keeps s.late_plain kept ∙ at.0,
            plain_if b s.attempt s.keeps s.plain
                (λ x. elim (truth d) [
                  | inl y ↦ inr (kept y)
                  | inr y ↦ inl (says_not s t m no_commit y x)
                ]) at.1,
          );
      apart =
          apart_if b d s.entries s.plain s.keeps s.attempt s.writes s.late s.late_plain
          (λ x. (says_kept s t m x).0) h.apart;
      tokens = λ e. tokens_if b d s.plain s.keeps s.attempt s.late_plain (h.tokens e);
    }

-- Each event

idle_at : (p : Policy) (s : Servers) (a : Attempt) → s.attempt ≡ a → SoundAt p s
    → Sound p s.entries s.plain s.writes s.keeps a s.late s.late_plain s.results
idle_at p s a e h =
    subst (λ (z : Attempt). Sound p s.entries s.plain s.writes s.keeps z s.late s.late_plain s.results) e h

keeps_at : (p : Policy) (s : Servers) (k : Bool) → s.attempt ≡ Attempt.Waiting → s.keeps ≡ k → SoundAt p s
    → Sound p s.entries s.plain s.writes k Attempt.Waiting s.late s.late_plain s.results
keeps_at p s k e f h =
    subst (λ (z : Bool). Sound p s.entries s.plain s.writes z Attempt.Waiting s.late s.late_plain s.results) f
    (idle_at p s Attempt.Waiting e h)

keeps_back : (p : Policy) (s : Servers) (es : List Entry) (n : ℕ) (a : Attempt) (k : Bool) → s.keeps ≡ k
    → Sound p es n s.writes k a s.late s.late_plain s.results
    → Sound p es n s.writes s.keeps a s.late s.late_plain s.results
keeps_back p s es n a k e h =
    subst (λ (z : Bool). Sound p es n s.writes z a s.late s.late_plain s.results) (sym e) h

step : (p : Policy) → p.retry ≢ retry.Marker → (s n : Servers) (e : Event) → Step p s e n → SoundAt p s → SoundAt p n
step p r s n (Event.Send w k) h so =
    let m : MaySend p s k = h.0 in
    let at = idle_at p s Attempt.Idle m.idle so in
    subst (SoundAt p) (sym h.1)
    (sent p s.entries s.plain s.writes w s.keeps k s.late s.late_plain s.results m.is_next m.tokens
    (send_by p s.entries s.plain s.writes s.keeps k s.late s.late_plain s.results m.is_next m.tokens m.greeted at
    (reason p s.results r m.is_next)) at)
step p r s n Event.Commit h so =
    subst (SoundAt p) (sym h.3)
    (keeps_back p s (put (own s.writes) s.entries) s.plain (Attempt.Done true) true h.1
    (commit p s.entries s.plain s.writes s.late s.late_plain s.results h.2 (keeps_at p s true h.0 h.1 so)))
step p r s n Event.CommitPlain h so =
    subst (SoundAt p) (sym h.2)
    (keeps_back p s s.entries (suc s.plain) (Attempt.Done true) false h.1
    (commit_plain p s.entries s.plain s.writes s.late s.late_plain s.results (keeps_at p s false h.0 h.1 so)))
step p r s n Event.Refuse h so =
    subst (SoundAt p) (sym h.3)
    (keeps_back p s s.entries s.plain (Attempt.Done false) true h.1
    (refuse p s.entries s.plain s.writes s.late s.late_plain s.results h.2 (keeps_at p s true h.0 h.1 so)))
step p r s n (Event.CommitLate w) h so =
    subst (SoundAt p) (sym h.1)
    (commit_late p w s.entries s.plain s.writes s.keeps s.attempt s.late s.late_plain s.results h.0 so)
step p r s n Event.CommitLatePlain h so =
    subst (SoundAt p) (sym h.2)
    (commit_late_plain p s.entries s.plain s.writes s.keeps s.attempt s.late h.0 s.results
    (subst (λ (z : ℕ). Sound p s.entries s.plain s.writes s.keeps s.attempt s.late z s.results) h.1 so))
step p r s n (Event.OthersWrite w) h so =
    subst (SoundAt p) (sym h)
    (others_write p w s.entries s.plain s.writes s.keeps s.attempt s.late s.late_plain s.results so)
step p r s n (Event.Report t) h so = subst (SoundAt p) (sym h.1) (report_sound p r s t h.0 so)

runs : (p : Policy) → p.retry ≢ retry.Marker → (es : List Event) (s n : Servers) → RunsTo p s es n → SoundAt p s
    → SoundAt p n
runs p r [] s n h so = subst (SoundAt p) h so
runs p r (e ∷ es) s n h so = runs p r es h.0 n h.2 (step p r s h.0 e h.1 so)

-- The start

not_before : (b : Before) → starts_in_doubt b ≡ false → b ≡ before.Nothing
not_before before.Nothing h = refl
not_before before.InDoubt h = let no : true ≡ false = h in cc

starts_apart : (es : List Entry) (n : ℕ) (k : Bool) (late : List ℕ) (lp : ℕ)
    → (n + lp ≡ 0) ⊎ ((n + lp ≡ 1) × (mine es ≡ 0) × (late ≡ [])) → Apart es n k Attempt.Idle late lp
unfolding Apart open_plain open_kept
starts_apart es n k late lp (inl h) = inl (omega (arith, h))
starts_apart es n k late lp (inr h) = let e : n + lp ≡ 1 = h.0 in inr (omega (arith, e), h.1, h.2, refl)

starts_by : (p : Policy) (s : Servers) → Starts p s
    → Sound p s.entries s.plain s.writes s.keeps Attempt.Idle s.late s.late_plain []
unfolding AttemptIs MineOnly PlainOnly
starts_by p s b = record {
  one = b.once;
  done = tt;
  commits = λ h. let no : false ≡ true = h in cc;
  conflicts = λ h. let no : false ≡ true = h in cc;
  sure = λ d c. b.fresh (not_before p.before (or_left (starts_in_doubt p.before) false d));
  safe = λ u c.
      let at = b.fresh_plain (not_before p.before (or_left (starts_in_doubt p.before) false u)) in
      (at.1, at.0);
  apart = starts_apart s.entries s.plain s.keeps s.late s.late_plain b.apart;
  tokens = λ t. (b.tokens t, λ h. let no : false ≡ true = h in cc);
}

starts : (p : Policy) (s : Servers) → Starts p s → SoundAt p s
starts p s b =
    subst (λ (z : Attempt). Sound p s.entries s.plain s.writes s.keeps z s.late s.late_plain s.results) (sym b.idle)
    (subst (λ (z : List StepResult). Sound p s.entries s.plain s.writes s.keeps Attempt.Idle s.late s.late_plain z)
    (sym b.no_results) (starts_by p s b))

-- The meaning of a fate

means : (s : Servers) (a b c d q e : Bool) → (a ≡ true → HasCommitted s.keeps s.writes s.entries s.plain)
    → (b ≡ true → IsOther s.writes s.entries)
    → (b ≡ true → d ≡ false → a ≡ false → (mine s.entries ≡ 0) × (s.plain ≡ 0)) → c ≡ false
    → ((d || q) ≡ false → a ≡ false → (mine s.entries ≡ 0) × (s.plain ≡ 0))
    → Means (fate_by a b c (d || q) e) d s
means s true b c d q e x y u z n = x refl
means s false true c d q e x y u z n = (y refl, λ h. u refl h refl)
means s false false true d q e x y u z n = let no : true ≡ false = z in cc
means s false false false true q e x y u z n = tt
means s false false false false true e x y u z n = tt
means s false false false false false true x y u z n = n refl refl
means s false false false false false false x y u z n = n refl refl

-- none has committed if the caller waits for no attempt
idle_mine : (a : Attempt) (es : List Entry) → a ≡ Attempt.Idle → MineOnly a es → mine es ≡ 0
unfolding MineOnly
idle_mine a es e h = subst (λ (z : Attempt). MineOnly z es) e h

idle_plain : (a : Attempt) (k : Bool) (n : ℕ) → a ≡ Attempt.Idle → PlainOnly a k n → n ≡ 0
unfolding PlainOnly
idle_plain a k n e h = subst (λ (z : Attempt). PlainOnly z k n) e h

none_of : (p : Policy) (s : Servers) → SoundAt p s → s.attempt ≡ Attempt.Idle → in_doubt p s.results ≡ false
    → list_any is_commit s.results ≡ false → (mine s.entries ≡ 0) × (s.plain ≡ 0)
none_of p s so i d c = (
  idle_mine s.attempt s.entries i (so.sure d c).1,
  idle_plain s.attempt s.keeps s.plain i (so.safe (protected p s.results d) c).1,
)

apart_few : (es : List Entry) (n : ℕ) (k : Bool) (a : Attempt) (late : List ℕ) (lp : ℕ) → length es ≤ 1
    → Apart es n k a late lp → mine es + n ≤ 1
unfolding Apart
apart_few es n k a late lp o (inl h) = let f : mine es ≤ length es = mine_few es in omega (arith, o, f, h)
apart_few es n k a late lp o (inr h) =
    let e : n + lp + open_plain a k ≡ 1 = h.0 in
    let z : mine es ≡ 0 = h.1 in
    omega (arith, e, z)

pub fate_at_servers : FateAtServers
fate_at_servers p first last events pending r b h idle =
    let so : SoundAt p last = runs p r events first last h (starts p first b) in (
      so.one,
      apart_few last.entries last.plain last.keeps last.attempt last.late last.late_plain so.one so.apart,
      means last (list_any is_commit last.results) (list_any (is_conflict p.retry) last.results)
          (list_any (has_tombstone p.retry) last.results) (in_doubt p last.results) pending
          (list_any is_refusal last.results)
          so.commits
          (λ e. (so.conflicts e).0) (λ e d c. none_of p last so (so.conflicts e).1 d c)
          (no_tombstones p.retry r last.results)
          (λ d c.
          none_of p last so (idle (or_right (in_doubt p last.results) pending d))
          (or_left (in_doubt p last.results) pending d) c),
    )
