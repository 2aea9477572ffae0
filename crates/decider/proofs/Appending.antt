-- Lists of results, with one more result appended.
use Rattle.std.proofs.Common.{◌≡◌, refl, sym, ◌∙◌, ap, ℕ, zero, suc, ◌+◌, ◌-◌, Bool, true, false, ◌&&◌, ◌||◌, not, if◌then◌else◌, Option, Some, None, List, [], ◌∷◌, ◌++◌, arith}
use Rattle.std.specs.List.{list_any}
use Rattle.std.specs.Option.{option_or}
use Rattle.decider.specs.declared.policy.Retry.{Retry}
use Rattle.decider.specs.declared.policy.Policy.{Policy}
use Rattle.decider.specs.declared.steps.StepResult.{StepResult}
use Rattle.decider.specs.declared.steps.StepResult.TheVariants as result
use Rattle.decider.specs.declared.state.Decider.{Decider}
use Rattle.decider.specs.declared.steps.TokenSupport.TheVariants as support
use Rattle.decider.specs.Rules.{is_commit, is_conflict, has_tombstone, is_doubt, is_unprotected, starts_in_doubt, is_refusal, is_invalid, is_stop, is_attempt, is_tombstone_write, count, in_doubt, unprotected, last_of, commit_of, fault_in, fault_of, all_results, uses_marker, is_left, attempts_left, is_end, is_known, next_of, end_reason_by, end_reason}
use Rattle.decider.specs.State.{Describes}

or_assoc : (a b c : Bool) → ((a || b) || c) ≡ (a || (b || c))
or_assoc true b c = refl
or_assoc false b c = refl

or_false : (a : Bool) → (a || false) ≡ a
or_false true = refl
or_false false = refl

pub any_more : (f : StepResult → Bool) (ts : List StepResult) (t : StepResult)
    → list_any f (ts ++ t ∷ []) ≡ (list_any f ts || f t)
any_more f [] t = or_false (f t)
any_more f (x ∷ ts) t = ap (λ b. f x || b) (any_more f ts t) ∙ sym (or_assoc (f x) (list_any f ts) (f t))

one : Bool → ℕ
one b = if b then 1 else 0

count_step : (b : Bool) (n m : ℕ) → n ≡ m → (if b then suc n else n) ≡ (if b then suc m else m)
count_step true n m e = ap (λ (k : ℕ). suc k) e
count_step false n m e = e

add_step : (b c : Bool) (n : ℕ)
    → (if b then suc (n + (if c then 1 else 0)) else (n + (if c then 1 else 0))) ≡ (if b then suc n else n) +
    (if c then 1 else 0)
add_step true true n = omega arith
add_step true false n = omega arith
add_step false c n = refl

first_step : (b : Bool) → (if b then suc zero else zero) ≡ 0 + (if b then 1 else 0)
first_step true = omega arith
first_step false = omega arith

pub count_more : (f : StepResult → Bool) (ts : List StepResult) (t : StepResult)
    → count f (ts ++ t ∷ []) ≡ count f ts + (if f t then 1 else 0)
count_more f [] t = first_step (f t)
count_more f (x ∷ ts) t = count_step (f x) _ _ (count_more f ts t) ∙ add_step (f x) (f t) (count f ts)

sub_step : (n k : ℕ) (b : Bool) → n - (k + (if b then 1 else 0)) ≡ (n - k) - (if b then 1 else 0)
sub_step n k true = omega arith
sub_step n k false = omega arith

pub left_more : (n : ℕ) (f : StepResult → Bool) (ts : List StepResult) (t : StepResult)
    → n - count f (ts ++ t ∷ []) ≡ (n - count f ts) - (if f t then 1 else 0)
left_more n f ts t = ap (λ (k : ℕ). n - k) (count_more f ts t) ∙ sub_step n (count f ts) (f t)

pub last_more : (ts : List StepResult) (t : StepResult) → last_of (ts ++ t ∷ []) ≡ Some t
last_more [] t = refl
last_more (x ∷ []) t = refl
last_more (x ∷ y ∷ ts) t = last_more (y ∷ ts) t

pub commit_more : (ts : List StepResult) (t : StepResult)
    → commit_of (ts ++ t ∷ []) ≡ option_or (commit_of ts) (commit_of (t ∷ []))
commit_more [] t = refl
commit_more (result.Committed commit ∷ ts) t = refl
commit_more (result.Conflict ∷ ts) t = commit_more ts t
commit_more (result.PermanentFailure n ∷ ts) t = commit_more ts t
commit_more (result.TransientFailure ∷ ts) t = commit_more ts t
commit_more (result.InvalidRequest n ∷ ts) t = commit_more ts t
commit_more (result.NoCommitSent ∷ ts) t = commit_more ts t
commit_more (result.InDoubt s ∷ ts) t = commit_more ts t
commit_more (result.Greeted k ∷ ts) t = commit_more ts t
commit_more (result.Marker m ∷ ts) t = commit_more ts t
commit_more (result.NoMarker ∷ ts) t = commit_more ts t
commit_more (result.MarkerNotRead ∷ ts) t = commit_more ts t
commit_more (result.TombstoneWritten ∷ ts) t = commit_more ts t
commit_more (result.TombstoneUnconfirmed ∷ ts) t = commit_more ts t
commit_more (result.Stopped ∷ ts) t = commit_more ts t

or_none : (o : Option ℕ) → option_or None o ≡ option_or o None
or_none None = refl
or_none (Some n) = refl

or_some : (a b c : Option ℕ) → option_or (option_or a b) c ≡ option_or a (option_or b c)
or_some None b c = refl
or_some (Some n) b c = refl

pub fault_more : (ts : List StepResult) (t : StepResult)
    → fault_of (ts ++ t ∷ []) ≡ option_or (fault_in t) (fault_of ts)
fault_more [] t = or_none (fault_in t)
fault_more (x ∷ ts) t =
    ap (λ o. option_or o (fault_in x)) (fault_more ts t) ∙ or_some (fault_in t) (fault_of ts) (fault_in x)

pub doubt_more : (p : Policy) (ts : List StepResult) (t : StepResult)
    → in_doubt p (ts ++ t ∷ []) ≡ (in_doubt p ts || is_doubt p.retry t)
doubt_more p ts t =
    ap (λ b. starts_in_doubt p.before || b) (any_more (is_doubt p.retry) ts t)
    ∙ sym (or_assoc (starts_in_doubt p.before) (list_any (is_doubt p.retry) ts) (is_doubt p.retry t))

pub unprotected_more : (p : Policy) (ts : List StepResult) (t : StepResult)
    → unprotected p (ts ++ t ∷ []) ≡ (unprotected p ts || is_unprotected t)
unprotected_more p ts t =
    ap (λ b. starts_in_doubt p.before || b) (any_more is_unprotected ts t)
    ∙ sym (or_assoc (starts_in_doubt p.before) (list_any is_unprotected ts) (is_unprotected t))

or_both : (a b c d : Bool) → a ≡ b → c ≡ d → (a || c) ≡ (b || d)
or_both a b c d e f = ap (λ z. z || c) e ∙ ap (λ z. b || z) f

less_both : (a b : ℕ) (c d : Bool) → a ≡ b → c ≡ d → a - (if c then 1 else 0) ≡ b - (if d then 1 else 0)
less_both a b c d e f = ap (λ (z : ℕ). z - (if c then 1 else 0)) e ∙ ap (λ z. b - (if z then 1 else 0)) f

-- t was reported to d, which became e
pub record Records (d e : Decider) (t : StepResult) : Type 0 where
  pub policy : e.policy ≡ d.policy
  pub committed : e.committed ≡ (d.committed || is_commit t)
  pub conflict : e.conflict ≡ (d.conflict || is_conflict d.policy.retry t)
  pub tombstone : e.tombstone ≡ (d.tombstone || has_tombstone d.policy.retry t)
  pub doubt : e.doubt ≡ (d.doubt || is_doubt d.policy.retry t)
  pub unprotected : e.unprotected ≡ (d.unprotected || is_unprotected t)
  pub refused : e.refused ≡ (d.refused || is_refusal t)
  pub invalid : e.invalid ≡ (d.invalid || is_invalid t)
  pub stopped : e.stopped ≡ (d.stopped || is_stop t)
  pub pending : e.pending ≡ (d.pending && not (is_attempt t))
  pub attempts_left : e.attempts_left ≡ d.attempts_left - (if is_attempt t then 1 else 0)
  pub tombstones_left : e.tombstones_left ≡ d.tombstones_left - (if is_tombstone_write t then 1 else 0)
  pub last : e.last ≡ Some t
  pub commit : e.commit ≡ option_or d.commit (commit_of (t ∷ []))
  pub fault : e.fault ≡ option_or (fault_in t) d.fault

pub describes : (d e : Decider) (t : StepResult) → Records d e t → (p : Policy) (ts : List StepResult) (b : Bool)
    → Describes d p ts b → Describes e p (ts ++ t ∷ []) (b && not (is_attempt t))
describes d e t s p ts b w =
    let by : (f : Retry → StepResult → Bool) → f d.policy.retry t ≡ f p.retry t =
    λ f. ap (λ (q : Policy). f q.retry t) w.policy in
    record {
      policy = s.policy ∙ w.policy;
      committed = s.committed ∙ ap (λ x. x || is_commit t) w.committed ∙ sym (any_more is_commit ts t);
      conflict = s.conflict ∙ or_both _ _ _ _ w.conflict (by is_conflict) ∙ sym (any_more (is_conflict p.retry) ts t);
      tombstone =
          s.tombstone ∙ or_both _ _ _ _ w.tombstone (by has_tombstone) ∙ sym (any_more (has_tombstone p.retry) ts t);
      doubt = s.doubt ∙ or_both _ _ _ _ w.doubt (by is_doubt) ∙ sym (doubt_more p ts t);
      unprotected = s.unprotected ∙ ap (λ x. x || is_unprotected t) w.unprotected ∙ sym (unprotected_more p ts t);
      refused = s.refused ∙ ap (λ x. x || is_refusal t) w.refused ∙ sym (any_more is_refusal ts t);
      invalid = s.invalid ∙ ap (λ x. x || is_invalid t) w.invalid ∙ sym (any_more is_invalid ts t);
      stopped = s.stopped ∙ ap (λ x. x || is_stop t) w.stopped ∙ sym (any_more is_stop ts t);
      pending = s.pending ∙ ap (λ x. x && not (is_attempt t)) w.pending;
      attempts_left =
          s.attempts_left ∙ ap (λ (n : ℕ). n - (if is_attempt t then 1 else 0)) w.attempts_left
          ∙ sym (left_more p.tries is_attempt ts t);
      tombstones_left =
          s.tombstones_left ∙ ap (λ (n : ℕ). n - (if is_tombstone_write t then 1 else 0)) w.tombstones_left
          ∙ sym (left_more p.tries is_tombstone_write ts t);
      last = s.last ∙ sym (last_more ts t);
      commit = s.commit ∙ ap (λ o. option_or o (commit_of (t ∷ []))) w.commit ∙ sym (commit_more ts t);
      fault = s.fault ∙ ap (λ o. option_or (fault_in t) o) w.fault ∙ sym (fault_more ts t);
    }

-- an attempt under way is in doubt once a further step begins
pub unfinished : (d e : Decider)
    → ((p : Policy) (ts : List StepResult) (b : Bool) → Describes d p ts b
    → Describes e p (ts ++ result.InDoubt support.Unknown ∷ []) (b && false))
    → d.pending ≡ true → (p : Policy) (ts : List StepResult) (b : Bool) → Describes d p ts b
    → Describes e p (all_results ts b) false
unfinished d e f h p ts true w = f p ts true w
unfinished d e f h p ts false w = let no : true ≡ false = sym h ∙ w.pending in cc

-- the mark of an attempt under way is set
pub set_pending : (d : Decider) (c x : Bool) → c ≡ x → (p : Policy) (ts : List StepResult) (b : Bool)
    → Describes d p ts b → Describes (record d { pending = c }) p ts x
set_pending d c x e p ts b w = record {
  policy = w.policy;
  committed = w.committed;
  conflict = w.conflict;
  tombstone = w.tombstone;
  doubt = w.doubt;
  unprotected = w.unprotected;
  refused = w.refused;
  invalid = w.invalid;
  stopped = w.stopped;
  pending = e;
  attempts_left = w.attempts_left;
  tombstones_left = w.tombstones_left;
  last = w.last;
  commit = w.commit;
  fault = w.fault;
}

-- there is no reason while a further step is made
no_reason_by : (a k s i r u : Bool) → a ≡ false → None ≡ end_reason_by a k s i r u
no_reason_by true k s i r u h = let no : true ≡ false = h in cc
no_reason_by false k s i r u h = refl

pub no_reason : (p : Policy) (ts : List StepResult) → is_end (next_of p ts) ≡ false → None ≡ end_reason p ts
no_reason p ts h =
    no_reason_by (is_end (next_of p ts)) (is_known p ts) (list_any is_stop ts) (list_any is_invalid ts)
    (not (in_doubt p ts) && list_any is_refusal ts) (uses_marker p.retry || not (is_left (attempts_left p ts))) h
