-- The main law for one caller.
use Rattle.std.proofs.Common.{◌≡◌, refl, sym, ◌∙◌, ap, subst, ℕ, zero, suc, ◌<◌, ◌==◌, Bool, true, false, not, ◌&&◌, if◌then◌else◌, Option, Some, None, List, [], ◌∷◌, length, map, arith, ⊎_elim, inl, inr, eqb-true}
use Rattle.std.proofs.lemmas.Bool.{and_parts, cases_Bool, eqb-false}
use Rattle.engine.specs.Prelude.{EntryView}
use Rattle.client.specs.declared.Outcome.{Outcome}
use Rattle.server_session.specs.Prelude.{Setting}
use Rattle.world.specs.Prelude.{World, Reached, Each}
use Rattle.world.proofs.Limits.{commits_once}
use Rattle.client_tracking.specs.declared.Tells.{Tells}
use Rattle.client_tracking.specs.declared.Retry.{Retry}
use Rattle.client_tracking.specs.declared.Fate.{Fate}
use Rattle.client_tracking.specs.Fates.{fate_of}
use Rattle.client_tracking.specs.Telling.{adds_nothing, is_committed, is_refused, all_nothing}
use Rattle.client_tracking.specs.Attempts.{told_of, Made, tells, tells_in}
use Rattle.world_guarantees.specs.OneCaller.{IsMade, IsTry, OneStands, OneClashes, AddsNone, NoneAdded, OneCallerMayRely}
use Rattle.world_guarantees.proofs.Tied.{attempt_stands, attempt_clashes, attempt_adds_none}

each_nothing : (told : ℕ → Option Outcome) (n : ℕ) → all_nothing told n ≡ true → (i : ℕ) → i < n → adds_nothing (told i) ≡ true
each_nothing told zero h i l = absurd (omega arith)
each_nothing told (suc n) h i l =
    let p = and_parts (adds_nothing (told n)) (all_nothing told n) h in
    ⊎_elim (λ e. ap (λ j. adds_nothing (told j)) (eqb-true i n e) ∙ p.0)
    (λ e. let apart : (i ≡ n → ⊥) = eqb-false i n e in each_nothing told n p.1 i (omega (arith, l, apart)))
    (cases_Bool (i == n))

was_committed : (o : Option Outcome) → is_committed o ≡ true → o ≡ Some Outcome.Committed
was_committed (Some Outcome.Committed) h = refl
was_committed (Some Outcome.Done) h = cc
was_committed (Some Outcome.Refused) h = cc
was_committed (Some Outcome.Ignored) h = cc
was_committed (Some Outcome.Lost) h = cc
was_committed (Some Outcome.Unknown) h = cc
was_committed None h = cc

was_refused : (o : Option Outcome) → is_refused o ≡ true → o ≡ Some Outcome.Refused
was_refused (Some Outcome.Refused) h = refl
was_refused (Some Outcome.Done) h = cc
was_refused (Some Outcome.Committed) h = cc
was_refused (Some Outcome.Ignored) h = cc
was_refused (Some Outcome.Lost) h = cc
was_refused (Some Outcome.Unknown) h = cc
was_refused None h = cc

-- The test that gave each report: `c` that the COMMIT committed, `k` that it clashed, `a` that each request committed nothing.
abbrev pub tested : Bool → Bool → Bool → Tells → Type 0
tested c k a Tells.Stands = c ≡ true
tested c k a Tells.Clash = k ≡ true
tested c k a Tells.Refused = a ≡ true
tested c k a Tells.Nothing = a ≡ true
tested c k a Tells.Doubt = Unit {0}

pub told_by : (c k a r : Bool) → tested c k a (if c then Tells.Stands else (if k then Tells.Clash else (if not a then Tells.Doubt else (if r then Tells.Refused else Tells.Nothing))))
told_by true k a r = refl
told_by false true a r = refl
told_by false false false r = tt
told_by false false true true = refl
told_by false false true false = refl

module _ (S : Setting) (brought : List EntryView) (w : World) (r : Reached S brought w) (t : List ℕ) where
  module _ (m : Made) where
    tests : (x : Tells) → tells m ≡ x → tested (is_committed (told_of m.attempt m.commit)) (is_refused (told_of m.attempt m.commit) && m.clash) (all_nothing (told_of m.attempt) (length m.attempt.sent)) x
    tests x h = subst (tested (is_committed (told_of m.attempt m.commit)) (is_refused (told_of m.attempt m.commit) && m.clash) (all_nothing (told_of m.attempt) (length m.attempt.sent))) h
        (told_by (is_committed (told_of m.attempt m.commit)) (is_refused (told_of m.attempt m.commit) && m.clash) (all_nothing (told_of m.attempt) (length m.attempt.sent)) m.final)

    made_stands : IsMade t w m → tells m ≡ Tells.Stands → OneStands S t w (Some m ∷ [])
    made_stands is h = record {
      before = [];
      last = m;
      connection = is.connection;
      is_last = refl;
      here = is.at.here;
      commits = is.commits (inl h);
      stands = attempt_stands S brought w r t m.conn is.connection m.attempt is.at is.under m.commit (is.commits (inl h)) (was_committed (told_of m.attempt m.commit) (tests Tells.Stands h));
    }

    made_clashes : IsMade t w m → tells m ≡ Tells.Clash → OneClashes S t w (Some m ∷ [])
    made_clashes is h = record {
      before = [];
      last = m;
      connection = is.connection;
      is_last = refl;
      here = is.at.here;
      commits = is.commits (inr h);
      clashes = attempt_clashes S brought w r t m.conn is.connection m.attempt is.at is.under m.commit (is.commits (inr h)) (was_refused (told_of m.attempt m.commit) (and_parts _ _ (tests Tells.Clash h)).0);
    }

    made_adds_none : IsMade t w m → all_nothing (told_of m.attempt) (length m.attempt.sent) ≡ true → AddsNone w (Some m)
    made_adds_none is h = attempt_adds_none S brought w r m.conn is.connection m.attempt is.at (each_nothing (told_of m.attempt) (length m.attempt.sent) h)

  -- The fate that one attempt alone decides, if it does.
  abbrev last_fate : Tells → Option Fate
  last_fate Tells.Stands = Some Fate.Stands
  last_fate Tells.Clash = Some Fate.Clash
  last_fate _ = None

  abbrev is_last : Fate → Bool
  is_last Fate.Stands = true
  is_last Fate.Clash = true
  is_last _ = false

  it_refused : (o : Option Made) → IsTry t w o → tells_in o ≡ Tells.Refused → AddsNone w o
  it_refused None is h = tt
  it_refused (Some m) is h = made_adds_none m is (tests m Tells.Refused h)

  it_did_nothing : (o : Option Made) → IsTry t w o → tells_in o ≡ Tells.Nothing → AddsNone w o
  it_did_nothing None is h = tt
  it_did_nothing (Some m) is h = made_adds_none m is (tests m Tells.Nothing h)

  -- If a fate follows from the last attempt alone, its meaning follows with others before it too.
  module _ (f : Fate) (s : is_last f ≡ true) (Says : List (Option Made) → Type 0) (alone : (m : Made) → IsMade t w m → last_fate (tells m) ≡ Some f → Says (Some m ∷ []))
      (behind : (o : Option Made) (ms : List (Option Made)) → Says ms → Says (o ∷ ms)) where
    it_says : (o : Option Made) → IsTry t w o → last_fate (tells_in o) ≡ Some f → Says (o ∷ [])
    it_says None is h = cc
    it_says (Some m) is h = alone m is h

    not_last : (g : Fate) → is_last g ≡ false → Some g ≡ Some f → ⊥
    not_last g n e = let same : g ≡ f = cc in let no : true ≡ false = sym s ∙ ap is_last (sym same) ∙ n in cc

    last_in : (again : Retry) (d : Bool) (n : ℕ) (ms : List (Option Made)) → Each (IsTry t w) ms → fate_of again d n (map tells_in ms) ≡ Some f → Says ms
    last_in again true zero [] h e = absurd (not_last Fate.Open refl e)
    last_in again false zero [] h e = absurd (not_last Fate.Absent refl e)
    last_in again true zero (m ∷ ms) h e = cc
    last_in again false zero (m ∷ ms) h e = cc
    last_in again true (suc n) [] h e = cc
    last_in again false (suc n) [] h e = cc
    last_in again d (suc n) (m ∷ ms) h e = go (tells_in m) refl again d ms (λ d. last_in again d n ms h.1) e
      where
        go : (x : Tells) → tells_in m ≡ x → (again : Retry) (d : Bool) (ms : List (Option Made)) → ((d : Bool) → fate_of again d n (map tells_in ms) ≡ Some f → Says ms) → fate_of again d (suc n) (x ∷ map tells_in ms) ≡ Some f → Says (m ∷ ms)
        go Tells.Stands p again true [] later e = it_says m h.0 (ap last_fate p ∙ e)
        go Tells.Stands p again false [] later e = it_says m h.0 (ap last_fate p ∙ e)
        go Tells.Stands p again true (y ∷ ms) later e = cc
        go Tells.Stands p again false (y ∷ ms) later e = cc
        go Tells.Clash p again true [] later e = it_says m h.0 (ap last_fate p ∙ e)
        go Tells.Clash p again false [] later e = it_says m h.0 (ap last_fate p ∙ e)
        go Tells.Clash p again true (y ∷ ms) later e = cc
        go Tells.Clash p again false (y ∷ ms) later e = cc
        go Tells.Refused p again false [] later e = absurd (not_last Fate.Refused refl e)
        go Tells.Refused p again false (y ∷ ms) later e = cc
        go Tells.Refused p again true ms later e = behind m ms (later true e)
        go Tells.Nothing p again true ms later e = behind m ms (later true e)
        go Tells.Nothing p again false ms later e = behind m ms (later false e)
        go Tells.Doubt p Retry.Tokens true ms later e = behind m ms (later true e)
        go Tells.Doubt p Retry.Tokens false ms later e = behind m ms (later true e)
        go Tells.Doubt p Retry.Never true [] later e = absurd (not_last Fate.Open refl e)
        go Tells.Doubt p Retry.Never false [] later e = absurd (not_last Fate.Open refl e)
        go Tells.Doubt p Retry.Never true (y ∷ ms) later e = cc
        go Tells.Doubt p Retry.Never false (y ∷ ms) later e = cc

  stands_last : (x : Tells) (m : Made) → tells m ≡ x → last_fate x ≡ Some Fate.Stands → tells m ≡ Tells.Stands
  stands_last Tells.Stands m h e = h
  stands_last Tells.Clash m h e = cc
  stands_last _ m h e = cc

  clashes_last : (x : Tells) (m : Made) → tells m ≡ x → last_fate x ≡ Some Fate.Clash → tells m ≡ Tells.Clash
  clashes_last Tells.Clash m h e = h
  clashes_last Tells.Stands m h e = cc
  clashes_last _ m h e = cc

  stands_in : (again : Retry) (n : ℕ) (ms : List (Option Made)) → Each (IsTry t w) ms → fate_of again false n (map tells_in ms) ≡ Some Fate.Stands → OneStands S t w ms
  stands_in again =
      last_in Fate.Stands refl (OneStands S t w) (λ m is h. made_stands m is (stands_last (tells m) m refl h))
      (λ o ms s. record { before = o ∷ s.before; last = s.last; connection = s.connection; is_last = ap (λ z. o ∷ z) s.is_last; here = s.here; commits = s.commits; stands = s.stands }) again false

  clashes_in : (again : Retry) (n : ℕ) (ms : List (Option Made)) → Each (IsTry t w) ms → fate_of again false n (map tells_in ms) ≡ Some Fate.Clash → OneClashes S t w ms
  clashes_in again =
      last_in Fate.Clash refl (OneClashes S t w) (λ m is h. made_clashes m is (clashes_last (tells m) m refl h))
      (λ o ms s. record { before = o ∷ s.before; last = s.last; connection = s.connection; is_last = ap (λ z. o ∷ z) s.is_last; here = s.here; commits = s.commits; clashes = s.clashes }) again false

  abbrev is_sure : Fate → Bool
  is_sure Fate.Refused = true
  is_sure Fate.Absent = true
  is_sure _ = false

  not_sure : (g f : Fate) → is_sure g ≡ false → Some g ≡ Some f → is_sure f ≡ true → ⊥
  not_sure g f n e s = let same : g ≡ f = cc in let no : true ≡ false = sym s ∙ ap is_sure (sym same) ∙ n in cc

  -- After a doubt no fate says that nothing was added.
  no_more : (again : Retry) (n : ℕ) (xs : List Tells) (f : Fate) → fate_of again true n xs ≡ Some f → is_sure f ≡ true → ⊥
  no_more again zero [] f e s = not_sure Fate.Open f refl e s
  no_more again zero (x ∷ xs) f e s = cc
  no_more again (suc n) [] f e s = cc
  no_more again (suc n) (Tells.Stands ∷ []) f e s = not_sure Fate.Stands f refl e s
  no_more again (suc n) (Tells.Stands ∷ y ∷ xs) f e s = cc
  no_more again (suc n) (Tells.Clash ∷ []) f e s = not_sure Fate.Clash f refl e s
  no_more again (suc n) (Tells.Clash ∷ y ∷ xs) f e s = cc
  no_more again (suc n) (Tells.Refused ∷ xs) f e s = no_more again n xs f e s
  no_more again (suc n) (Tells.Nothing ∷ xs) f e s = no_more again n xs f e s
  no_more Retry.Tokens (suc n) (Tells.Doubt ∷ xs) f e s = no_more Retry.Tokens n xs f e s
  no_more Retry.Never (suc n) (Tells.Doubt ∷ []) f e s = not_sure Fate.Open f refl e s
  no_more Retry.Never (suc n) (Tells.Doubt ∷ y ∷ xs) f e s = cc

  none_in : (again : Retry) (n : ℕ) (ms : List (Option Made)) (f : Fate) → Each (IsTry t w) ms → fate_of again false n (map tells_in ms) ≡ Some f → is_sure f ≡ true → NoneAdded w ms
  none_in again n [] f h e s = tt
  none_in again zero (m ∷ ms) f h e s = cc
  none_in again (suc n) (m ∷ ms) f h e s = go (tells_in m) refl again ms (λ e. none_in again n ms f h.1 e s) e
    where
      go : (x : Tells) → tells_in m ≡ x → (again : Retry) (ms : List (Option Made)) → (fate_of again false n (map tells_in ms) ≡ Some f → NoneAdded w ms) → fate_of again false (suc n) (x ∷ map tells_in ms) ≡ Some f → NoneAdded w (m ∷ ms)
      go Tells.Stands p again [] later e = absurd (not_sure Fate.Stands f refl e s)
      go Tells.Stands p again (y ∷ ms) later e = cc
      go Tells.Clash p again [] later e = absurd (not_sure Fate.Clash f refl e s)
      go Tells.Clash p again (y ∷ ms) later e = cc
      go Tells.Refused p again [] later e = (it_refused m h.0 p, tt)
      go Tells.Refused p again (y ∷ ms) later e = cc
      go Tells.Nothing p again ms later e = (it_did_nothing m h.0 p, later e)
      go Tells.Doubt p Retry.Tokens ms later e = absurd (no_more Retry.Tokens n (map tells_in ms) f e s)
      go Tells.Doubt p Retry.Never [] later e = absurd (not_sure Fate.Open f refl e s)
      go Tells.Doubt p Retry.Never (y ∷ ms) later e = cc

pub one_caller_may_rely : OneCallerMayRely
one_caller_may_rely S brought w r t made h again tries Fate.Stands e = stands_in S brought w r t again tries made h e
one_caller_may_rely S brought w r t made h again tries Fate.Refused e = none_in S brought w r t again tries made Fate.Refused h e refl
one_caller_may_rely S brought w r t made h again tries Fate.Absent e = none_in S brought w r t again tries made Fate.Absent h e refl
one_caller_may_rely S brought w r t made h again tries Fate.Clash e = clashes_in S brought w r t again tries made h e
one_caller_may_rely S brought w r t made h again tries Fate.Open e = commits_once S brought w r t
