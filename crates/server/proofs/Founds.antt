-- Sessions that are found after a call, and the numbers that are given then.
use Rattle.std.proofs.Common.{◌≡◌, ◌≢◌, refl, sym, ◌∙◌, ap, subst, ℕ, ◌≤◌, Bool, true, false, cond, eqb, ◌⊎◌, inl, inr, Option, Some, None, Result, List, [], ◌∷◌, ◌++◌, arith, IsSome, option_map}
use Rattle.std.proofs.lemmas.Bool.Decides.{nat_tests}
use Rattle.engine.specs.declared.answer.Mode.{Mode as QueryMode}
use Rattle.engine.specs.Prelude.{WriteView, ParameterView, EntryView, AnswerView, QueryFault, Welcome}
use Rattle.server_session.specs.Prelude.{work_kept}
use Rattle.server.specs.Prelude.{Live, Rest, after_step, fed_live, find, fresh, is_full, noop_put, opened, replace, setting, taken_from, with_session, without, AreBelow, Event, opens, feeds, works, takes, noops, loses, after_call, after_event}
use Rattle.server.proofs.Runs.{find_other-replace, find_replaced}

pub find_below : (n conn : ℕ) (ss : List Live) → AreBelow n ss → n ≤ conn → find conn ss ≡ None
find_below n conn [] h l = refl
find_below n conn (s ∷ ss) h l = grind (arith, nat_tests, find_below n conn ss)

pub find_kept : (n c conn : ℕ) (ss : List Live) (s : Live) → AreBelow n ss → find conn (without c ss) ≡ Some s
    → find conn ss ≡ Some s
find_kept n c conn [] s h f = cc
find_kept n c conn (r ∷ ss) s h f = grind (arith, nat_tests, find_kept n c conn ss s)

pub find_pushed : (conn n : ℕ) (ss : List Live) (s : Live) → find conn (ss ++ fresh n ∷ []) ≡ Some s
    → (find conn ss ≡ Some s) ⊎ ((conn ≡ n) × (s ≡ fresh n))
find_pushed conn n [] s f = grind (arith, nat_tests)
find_pushed conn n (r ∷ ss) s f = grind (arith, nat_tests, find_pushed conn n ss s)

-- after a call on one session: it, or another
pub record Its (c conn : ℕ) (s t : Live) : Type 0 where
  pub test : eqb c conn ≡ true
  pub same : conn ≡ c
  pub is : s ≡ t

pub record Others (c conn : ℕ) (s : Live) (ss : List Live) : Type 0 where
  pub test : eqb c conn ≡ false
  pub found : find conn ss ≡ Some s

pub whose : (c conn : ℕ) (before t s : Live) (ss : List Live) → find c ss ≡ Some before → t.conn ≡ c
    → find conn (replace t.conn t ss) ≡ Some s → Its c conn s t ⊎ Others c conn s ss
whose c conn before t s ss f e g = elim (eqb c conn) as (λ b. eqb c conn ≡ b → Its c conn s t ⊎ Others c conn s ss) [
  | true ↦ λ h.
      let same : conn ≡ c = grind (arith, nat_tests, h) in
      let there : find c (replace c t ss) ≡ Some t = find_replaced c t ss (subst IsSome (sym f) refl) e in
      let here : find c (replace c t ss) ≡ Some s = ap (λ n. find n (replace c t ss)) (sym same)
      ∙ ap (λ n. find conn (replace n t ss)) (sym e) ∙ g in
      let is : Some s ≡ Some t = sym here ∙ there in
      inl (record { test = h; same = same; is = cc })
  | false ↦ λ h.
      let differ : c ≢ conn = grind (arith, nat_tests, h) in
      inr (record {
        test = h;
        found = sym (find_other-replace conn c t ss differ e)
            ∙ ap (λ n. find conn (replace n t ss)) (sym e) ∙ g;
      })
] refl

-- nothing, found or not
pub if_none : {A : Type 0} (b : Bool) → cond {A = List A} b [] [] ≡ []
if_none true = refl
if_none false = refl

-- nothing comes of a number that isn't given
pub if_found : {G A : Type 0} (r : Rest G) (c conn : ℕ) (f : Option Live → List A) → f None ≡ []
    → find conn r.sessions ≡ None → cond (eqb c conn) (f (find c r.sessions)) [] ≡ []
if_found r c conn f e none = grind (arith, nat_tests)

-- The numbers that are given only grow.
module _ {G : Type 0} (answer : List EntryView → List WriteView → List ℕ → List ParameterView → QueryMode
    → Result AnswerView QueryFault) (welcomes : G → Welcome) (r : Rest G) where
  next_call : {A : Type 0} (f : Live → A × Rest G) → ((t : Live) → (f t).1.next ≡ r.next) → (o : Option Live)
      → (after_call (option_map f o) r).next ≡ r.next
  next_call f e None = refl
  next_call f e (Some t) = e t

  next_open : (b : Bool) → r.next ≤ (cond b r (opened r)).next
  next_open true = omega arith
  next_open false = omega arith

  pub next_grows : (e : Event) → r.next ≤ (after_event answer welcomes e r).next
  next_grows opens = next_open (is_full r)
  next_grows (feeds c piece) = let n = next_call (λ t. (
    (fed_live t piece).0,
    with_session
        (fed_live t piece).1 r,
  )) (λ t. refl) (find c r.sessions) in omega (arith, n)
  next_grows (works c) = let n = next_call (λ t. after_step t (work_kept
      (setting answer welcomes r) t.conn r.ledger t.kept t.kept.ended) r) (λ t. refl) (find c r.sessions) in omega
      (arith, n)
  next_grows (takes c max) = let n = next_call (λ t. ((taken_from max t).0, with_session (taken_from max t).1 r))
      (λ t. refl) (find c r.sessions) in omega (arith, n)
  next_grows (noops c) = let n = next_call (λ t. ((noop_put t).0, with_session (noop_put t).1 r)) (λ t. refl)
      (find c r.sessions) in omega (arith, n)
  next_grows (loses c) = omega arith
