-- Each session is given up once.
use Rattle.std.proofs.Common.{◌≡◌, ◌≢◌, ◌<◌, ◌≤◌, ◌+◌, ◌==◌, if◌then◌else◌, refl, sym, ap, subst, ◌∙◌, ℕ, arith, Bool, true, false, List, [], ◌∷◌, ◌++◌, option_map, Option, Some, None, Result}
use Rattle.std.proofs.lemmas.Bool.{eqb-true, eqb-false}
use Rattle.engine.specs.declared.answer.Mode.{Mode as QueryMode}
use Rattle.engine.specs.Prelude.{WriteView, ParameterView, EntryView, AnswerView, QueryFault, Welcome}
use Rattle.server_session.specs.Prelude.{work_kept}
use Rattle.server.specs.Prelude.{Rest, Live, find, without, is_full, opened, with_session, fed_live, taken_from, noop_put, setting, after_step, Event, opens, feeds, works, takes, noops, loses, after_call, after_event, after_events, AreBelow, IsKept}
use Rattle.server.proofs.Runs.{leaves_others}
use Rattle.server_event_loop.specs.ConnectionPrelude.{end_of}
use Rattle.server_event_loop.proofs.Moved.{after_both}
use Rattle.server_event_loop.specs.Prelude.{Gone, gone_with, gone_by, gone_of, times_gone}

times_both : (k : ℕ) (xs ys : List Gone) → times_gone k (xs ++ ys) ≡ times_gone k xs + times_gone k ys
times_both k [] ys = omega arith
times_both k (x ∷ xs) ys = let e = times_both k xs ys in omega (arith, e)

none_left : (k : ℕ) (ss : List Live) → find k ss ≡ None → find k (without k ss) ≡ None
none_left k [] e = refl
none_left k (s ∷ ss) e = go (s.conn == k) refl e (λ d. none_left k ss d)
  where
    go : (b : Bool) → (s.conn == k) ≡ b → (if b then Some s else find k ss) ≡ None → (find k ss ≡ None → find k (without k ss) ≡ None) → find k (if b then ss else s ∷ without k ss) ≡ None
    go true is d more = cc
    go false is d more = rw is (more d)

gone_left : (k n : ℕ) (ss : List Live) → AreBelow n ss → find k (without k ss) ≡ None
gone_left k n [] h = refl
gone_left k n (s ∷ ss) h = go (s.conn == k) refl (gone_left k n ss h.1)
  where
    go : (b : Bool) → (s.conn == k) ≡ b → find k (without k ss) ≡ None → find k (if b then ss else s ∷ without k ss) ≡ None
    go true is more = subst (λ (j : ℕ). find j ss ≡ None) (eqb-true s.conn k is) h.0.once
    go false is more = rw is more

below_found : (k n : ℕ) (ss : List Live) (t : Live) → AreBelow n ss → find k ss ≡ Some t → k < n
below_found k n [] t h e = cc
below_found k n (s ∷ ss) t h e = go (s.conn == k) refl e (λ d. below_found k n ss t h.1 d)
  where
    go : (b : Bool) → (s.conn == k) ≡ b → (if b then Some s else find k ss) ≡ Some t → (find k ss ≡ Some t → k < n) → k < n
    go true is d more = subst (λ (j : ℕ). j < n) (eqb-true s.conn k is) h.0.below
    go false is d more = more d

other_times : (c k : ℕ) (o : Option Live) → c ≢ k → times_gone k (gone_with c (end_of o)) ≡ 0
other_times c k None differ = refl
other_times c k (Some s) differ = go (c == k) refl
  where
    go : (b : Bool) → (c == k) ≡ b → ◌≡◌ {A = ℕ} ((if b then 1 else 0) + 0) 0
    go true is = absurd (differ (eqb-true c k is))
    go false is = refl

own_times : (c k : ℕ) (o : Option Live) → times_gone k (gone_with c (end_of o)) ≤ 1
own_times c k None = omega arith
own_times c k (Some s) = go (c == k)
  where
    go : (b : Bool) → (if b then 1 else 0) + 0 ≤ 1
    go true = omega arith
    go false = omega arith

same_or : (c k : ℕ) {P : Type 0} → (c ≡ k → P) → (c ≢ k → P) → P
same_or c k {P = P} f g = go (c == k) refl
  where
    go : (b : Bool) → (c == k) ≡ b → P
    go true is = f (eqb-true c k is)
    go false is = g (eqb-false c k is)

refused : {A G X : Type 0} (r : Rest G) (f : X → A × Rest G) (o : Option X) → o ≡ None → after_call (option_map f o) r ≡ r
refused r f o e = ap (λ x. after_call (option_map f x) r) e

next_kept : {A G X : Type 0} (r : Rest G) (f : X → A × Rest G) → ((x : X) → (f x).1.next ≡ r.next) → (o : Option X) → r.next ≤ (after_call (option_map f o) r).next
next_kept r f same None = omega arith
next_kept r f same (Some x) = let e = same x in omega (arith, e)

module _ {G : Type 0} (answer : List EntryView → List WriteView → List ℕ → List ParameterView → QueryMode → Result AnswerView QueryFault) (welcomes : G → Welcome) (k : ℕ) where
  next_grows : (e : Event) (r : Rest G) → r.next ≤ (after_event answer welcomes e r).next
  next_grows opens r = go (is_full r)
    where
      go : (b : Bool) → r.next ≤ (if b then r else opened r).next
      go true = omega arith
      go false = omega arith
  next_grows (feeds c piece) r = next_kept r (λ s. ((fed_live s piece).0, with_session (fed_live s piece).1 r)) (λ s. refl) (find c r.sessions)
  next_grows (works c) r = next_kept r (λ s. after_step s (work_kept (setting answer welcomes r) s.conn r.ledger s.kept s.kept.ended) r) (λ s. refl) (find c r.sessions)
  next_grows (takes c max) r = next_kept r (λ s. ((taken_from max s).0, with_session (taken_from max s).1 r)) (λ s. refl) (find c r.sessions)
  next_grows (noops c) r = next_kept r (λ s. ((noop_put s).0, with_session (noop_put s).1 r)) (λ s. refl) (find c r.sessions)
  next_grows (loses c) r = omega arith

  -- where none has a number below the next, none has it later
  stays_gone : (e : Event) (r : Rest G) → k < r.next → find k r.sessions ≡ None → find k (after_event answer welcomes e r).sessions ≡ None
  stays_gone opens r below none = leaves_others answer welcomes k opens r (λ e. absurd (omega (arith, below, e))) ∙ none
  stays_gone (feeds c piece) r below none = same_or c k
      (λ e. ap (λ (x : Rest G). find k x.sessions) (refused r (λ s. ((fed_live s piece).0, with_session (fed_live s piece).1 r)) (find c r.sessions) (ap (λ (j : ℕ). find j r.sessions) e ∙ none)) ∙ none)
      (λ d. leaves_others answer welcomes k (feeds c piece) r d ∙ none)
  stays_gone (works c) r below none = same_or c k
      (λ e. ap (λ (x : Rest G). find k x.sessions) (refused r (λ s. after_step s (work_kept (setting answer welcomes r) s.conn r.ledger s.kept s.kept.ended) r) (find c r.sessions) (ap (λ (j : ℕ). find j r.sessions) e ∙ none)) ∙ none)
      (λ d. leaves_others answer welcomes k (works c) r d ∙ none)
  stays_gone (takes c max) r below none = same_or c k
      (λ e. ap (λ (x : Rest G). find k x.sessions) (refused r (λ s. ((taken_from max s).0, with_session (taken_from max s).1 r)) (find c r.sessions) (ap (λ (j : ℕ). find j r.sessions) e ∙ none)) ∙ none)
      (λ d. leaves_others answer welcomes k (takes c max) r d ∙ none)
  stays_gone (noops c) r below none = same_or c k
      (λ e. ap (λ (x : Rest G). find k x.sessions) (refused r (λ s. ((noop_put s).0, with_session (noop_put s).1 r)) (find c r.sessions) (ap (λ (j : ℕ). find j r.sessions) e ∙ none)) ∙ none)
      (λ d. leaves_others answer welcomes k (noops c) r d ∙ none)
  stays_gone (loses c) r below none = same_or c k
      (λ e. ap (λ (j : ℕ). find k (without j r.sessions)) e ∙ none_left k r.sessions none)
      (λ d. leaves_others answer welcomes k (loses c) r d ∙ none)

  by_none : (e : Event) (r : Rest G) → find k r.sessions ≡ None → times_gone k (gone_by e r) ≡ 0
  by_none (loses c) r none = same_or c k (λ e. ap (λ (o : Option Live). times_gone k (gone_with c (end_of o))) (ap (λ (j : ℕ). find j r.sessions) e ∙ none)) (λ d. other_times c k (find c r.sessions) d)
  by_none opens r none = refl
  by_none (feeds c piece) r none = refl
  by_none (works c) r none = refl
  by_none (takes c max) r none = refl
  by_none (noops c) r none = refl

  none_later : (es : List Event) (r : Rest G) → k < r.next → find k r.sessions ≡ None → times_gone k (gone_of answer welcomes es r) ≡ 0
  none_later [] r below none = refl
  none_later (e ∷ es) r below none =
      let s = after_event answer welcomes e r in
      let grows = next_grows e r in
      let first = by_none e r none in
      let later = none_later es s (omega (arith, below, grows)) (stays_gone e r below none) in
      let both = times_both k (gone_by e r) (gone_of answer welcomes es s) in
      omega (arith, both, first, later)

  module _ (start : Rest G) (kept : (events : List Event) → IsKept (after_events answer welcomes events start)) where
    lost_once : (past es : List Event) (c : ℕ) (r : Rest G) → after_events answer welcomes past start ≡ r → times_gone k (gone_of answer welcomes es (after_event answer welcomes (loses c) r)) ≤ 1 → (o : Option Live) → find c r.sessions ≡ o
        → times_gone k (gone_with c (end_of o)) + times_gone k (gone_of answer welcomes es (after_event answer welcomes (loses c) r)) ≤ 1
    lost_once past es c r e later None is = omega (arith, later)
    lost_once past es c r e later (Some t) is = same_or c k
        (λ same.
        let numbers : AreBelow r.next r.sessions = subst (λ (x : Rest G). AreBelow x.next x.sessions) e (kept past).numbers in
        let low : c < r.next = below_found c r.next r.sessions t numbers is in
        let none : find k (without c r.sessions) ≡ None = subst (λ (j : ℕ). find k (without j r.sessions) ≡ None) (sym same) (gone_left k r.next r.sessions numbers) in
        let rest = none_later es (after_event answer welcomes (loses c) r) (omega (arith, low, same)) none in
        let one = own_times c k (Some t) in
        omega (arith, rest, one))
        (λ d. let none = other_times c k (Some t) d in omega (arith, none, later))

    once_event : (past es : List Event) (e : Event) (r : Rest G) → after_events answer welcomes past start ≡ r → times_gone k (gone_of answer welcomes es (after_event answer welcomes e r)) ≤ 1 → times_gone k (gone_by e r) + times_gone k (gone_of answer welcomes es (after_event answer welcomes e r)) ≤ 1
    once_event past es (loses c) r e later = lost_once past es c r e later (find c r.sessions) refl
    once_event past es opens r e later = omega (arith, later)
    once_event past es (feeds c piece) r e later = omega (arith, later)
    once_event past es (works c) r e later = omega (arith, later)
    once_event past es (takes c max) r e later = omega (arith, later)
    once_event past es (noops c) r e later = omega (arith, later)

    once_from : (past es : List Event) (r : Rest G) → after_events answer welcomes past start ≡ r → times_gone k (gone_of answer welcomes es r) ≤ 1
    once_from past [] r e = omega arith
    once_from past (x ∷ es) r e =
        let s = after_event answer welcomes x r in
        let next = once_from (past ++ x ∷ []) es s (after_both answer welcomes past (x ∷ []) start r e) in
        let first = once_event past es x r e next in
        let both = times_both k (gone_by x r) (gone_of answer welcomes es s) in
        omega (arith, both, first)

    pub given_up_once : (calls : List Event) → times_gone k (gone_of answer welcomes calls start) ≤ 1
    given_up_once calls = once_from [] calls start refl
