-- What is kept over every list of calls.
use Rattle.std.proofs.Common.{◌≡◌, ◌≢◌, ℕ, ◌+◌, ◌^◌, ◌<◌, ◌≤◌, List, [], ◌∷◌, ◌++◌, length, Bool, cond, true, false, leb, Option, Some, None, Result, refl, ap, ◌∙◌, length-append, lit≤, arith, IsSome, option_map}
use Rattle.std.proofs.lemmas.Bool.{or_parts, leb-false}
use Rattle.std.proofs.lemmas.Bool.Decides.{nat_tests}
use Rattle.engine.specs.declared.answer.Mode.{Mode as QueryMode}
use Rattle.engine.specs.Prelude.{WriteView, ParameterView, EntryView, AnswerView, QueryFault, Welcome}
use Rattle.server.specs.Prelude.{empty, with_sessions, Live, Rest, fresh, find, replace, without, is_full, opened, fed_live, taken_from, noop_put, on_live, with_kept, with_session, after_step, setting, AllBounded, AreBelow, IsKept, after_events, Event, opens, feeds, works, takes, noops, loses, after_call, after_event, conn_of}
use Rattle.server_session.specs.Prelude.{commit_entries, work_kept}
use Rattle.server.proofs.Bounds.{Fine, fine_bounded, FewRows, few_answers, begun_fine, feed_fine, work_fine, taken_fine, noop_fine}

pub find-conn : (conn : ℕ) (ss : List Live) (s : Live) → find conn ss ≡ Some s → s.conn ≡ conn
find-conn conn [] s e = cc
find-conn conn (r ∷ ss) s e = grind (arith, nat_tests, find-conn conn ss s)

-- what was put in a session's place is found there
pub find_replaced : (conn : ℕ) (t : Live) (ss : List Live) → IsSome (find conn ss) → t.conn ≡ conn → find conn (replace conn t ss) ≡ Some t
find_replaced conn t [] f e = cc
find_replaced conn t (r ∷ ss) f e = grind (arith, nat_tests, find_replaced conn t ss)

-- another number finds what it found
pub find_other-replace : (other conn : ℕ) (t : Live) (ss : List Live) → conn ≢ other → t.conn ≡ conn → find other (replace conn t ss) ≡ find other ss
find_other-replace other conn t [] differ e = refl
find_other-replace other conn t (s ∷ ss) differ e = grind (arith, nat_tests, find_other-replace other conn t ss differ e)

pub find_other-without : (other conn : ℕ) (ss : List Live) → conn ≢ other → find other (without conn ss) ≡ find other ss
find_other-without other conn [] differ = refl
find_other-without other conn (s ∷ ss) differ = grind (arith, nat_tests, find_other-without other conn ss differ)

pub find_other-push : (other n : ℕ) (ss : List Live) → n ≢ other → find other (ss ++ fresh n ∷ []) ≡ find other ss
find_other-push other n [] differ = grind (arith, nat_tests)
find_other-push other n (s ∷ ss) differ = grind (arith, nat_tests, find_other-push other n ss differ)

-- A call on one session leaves every other as it was.
module _ {G : Type 0} (answer : List EntryView → List WriteView → List ℕ → List ParameterView → QueryMode → Result AnswerView QueryFault) (welcomes : G → Welcome) (other : ℕ) where
  other_call : {A : Type 0} (r : Rest G) (conn : ℕ) (f : Live → A × Rest G) → ((s : Live) → s.conn ≡ conn → find other (f s).1.sessions ≡ find other r.sessions) → (o : Option Live) → find conn r.sessions ≡ o → find other (after_call (option_map f o) r).sessions ≡ find other r.sessions
  other_call r conn f k None e = refl
  other_call r conn f k (Some s) e = k s (find-conn conn r.sessions s e)

  other_live : {A : Type 0} (r : Rest G) (conn : ℕ) (f : Live → A × Live) → ((s : Live) → (f s).1.conn ≡ s.conn) → conn ≢ other → find other (after_call (on_live f conn r) r).sessions ≡ find other r.sessions
  other_live r conn f keeps differ =
      other_call r conn (λ s. ((f s).0, with_session (f s).1 r)) (λ s e. ap (λ n. find other (replace n (f s).1 r.sessions)) (keeps s ∙ e) ∙ find_other-replace other conn (f s).1 r.sessions differ (keeps s ∙ e)) (find conn r.sessions) refl

  other_open : (r : Rest G) (b : Bool) → r.next ≢ other → find other (cond b r (opened r)).sessions ≡ find other r.sessions
  other_open r true differ = refl
  other_open r false differ = find_other-push other r.next r.sessions differ

  pub leaves_others : (e : Event) (r : Rest G) → conn_of e r ≢ other → find other (after_event answer welcomes e r).sessions ≡ find other r.sessions
  leaves_others opens r differ = other_open r (is_full r) differ
  leaves_others (feeds conn piece) r differ = other_live r conn (λ s. fed_live s piece) (λ s. refl) differ
  leaves_others (works conn) r differ =
      other_call r conn (λ s. after_step s (work_kept (setting answer welcomes r) s.conn r.ledger s.kept s.kept.ended) r)
      (λ s e. let t = with_kept s (work_kept (setting answer welcomes r) s.conn r.ledger s.kept s.kept.ended).kept in ap (λ n. find other (replace n t r.sessions)) e ∙ find_other-replace other conn t r.sessions differ e) (find conn r.sessions) refl
  leaves_others (takes conn max) r differ = other_live r conn (taken_from max) (λ s. refl) differ
  leaves_others (noops conn) r differ = other_live r conn noop_put (λ s. refl) differ
  leaves_others (loses conn) r differ = find_other-without other conn r.sessions differ

-- What every session keeps.
pub AllFine : List Live → Type 0
AllFine [] = Unit {0}
AllFine (s ∷ ss) = Fine s.kept s.unfinished × AllFine ss

all_bounded : (ss : List Live) → AllFine ss → AllBounded ss
unfolding AllFine
all_bounded [] h = tt
all_bounded (s ∷ ss) h = (fine_bounded s h.0, all_bounded ss h.1)

replace-fine : (conn : ℕ) (t : Live) (ss : List Live) → AllFine ss → Fine t.kept t.unfinished → AllFine (replace conn t ss)
unfolding AllFine
replace-fine conn t [] h b = tt
replace-fine conn t (s ∷ ss) h b = grind (arith, replace-fine conn t ss)

without-fine : (conn : ℕ) (ss : List Live) → AllFine ss → AllFine (without conn ss)
unfolding AllFine
without-fine conn [] h = tt
without-fine conn (s ∷ ss) h = grind (arith, without-fine conn ss)

push-fine : (ss : List Live) (t : Live) → AllFine ss → Fine t.kept t.unfinished → AllFine (ss ++ t ∷ [])
unfolding AllFine
push-fine [] t h b = (b, tt)
push-fine (s ∷ ss) t h b = (h.0, push-fine ss t h.1 b)

find-fine : (conn : ℕ) (ss : List Live) (s : Live) → AllFine ss → find conn ss ≡ Some s → Fine s.kept s.unfinished
unfolding AllFine
find-fine conn [] s h e = cc
find-fine conn (r ∷ ss) s h e = grind (arith, find-fine conn ss s)

length-replace : (conn : ℕ) (t : Live) (ss : List Live) → length (replace conn t ss) ≡ length ss
length-replace conn t [] = refl
length-replace conn t (s ∷ ss) = grind (arith, length-replace conn t ss)

length-without : (conn : ℕ) (ss : List Live) → length (without conn ss) ≤ length ss
length-without conn [] = omega arith
length-without conn (s ∷ ss) = grind (arith, length-without conn ss)

replace-below : (n conn : ℕ) (t : Live) (ss : List Live) → t.conn ≡ conn → AreBelow n ss → AreBelow n (replace conn t ss)
replace-below n conn t [] e h = tt
replace-below n conn t (s ∷ ss) e h = grind (arith, nat_tests, replace-below n conn t ss e, find_other-replace)

without-below : (n conn : ℕ) (ss : List Live) → AreBelow n ss → AreBelow n (without conn ss)
without-below n conn [] h = tt
without-below n conn (s ∷ ss) h = grind (arith, nat_tests, without-below n conn ss, find_other-without)

push-below : (n : ℕ) (ss : List Live) → AreBelow n ss → AreBelow (n + 1) (ss ++ fresh n ∷ [])
push-below n [] h = (record { below = omega arith; once = refl }, tt)
push-below n (s ∷ ss) h =
    let differ : n ≢ s.conn = omega (arith, h.0.below) in
    (record { below = omega (arith, h.0.below); once = find_other-push s.conn n ss differ ∙ h.0.once }, push-below n ss h.1)

none_fine : AllFine []
unfolding AllFine
none_fine = tt

pub record Held {G : Type 0} (r : Rest G) : Type 0 where
  pub fine : AllFine r.sessions
  pub live : length r.sessions ≤ 16
  pub numbers : AreBelow r.next r.sessions

pub held_empty : {G : Type 0} (ledger : List EntryView) (gate : G) → Held (empty ledger gate)
held_empty ledger gate = record { fine = none_fine; live = lit≤ tt; numbers = tt }

module _ {G : Type 0} where
  held_replace : (r : Rest G) (conn : ℕ) (t : Live) (ledger : List EntryView) → Held r → Fine t.kept t.unfinished → t.conn ≡ conn → (let w : Rest G = record { sessions = replace t.conn t r.sessions; next = r.next; ledger = ledger; gate = r.gate } in Held w)
  held_replace r conn t ledger h b e = record {
    fine = replace-fine t.conn t r.sessions h.fine b;
    live = rw (length-replace t.conn t r.sessions) h.live;
    numbers = replace-below r.next t.conn t r.sessions refl h.numbers;
  }

  held_without : (r : Rest G) (conn : ℕ) → Held r → Held (with_sessions (without conn r.sessions) r)
  held_without r conn h = record {
    fine = without-fine conn r.sessions h.fine;
    live = let shorter : length (without conn r.sessions) ≤ length r.sessions = length-without conn r.sessions in omega (arith, h.live);
    numbers = without-below r.next conn r.sessions h.numbers;
  }

  held_call : {A : Type 0} (r : Rest G) (conn : ℕ) (f : Live → A × Rest G) → Held r → ((s : Live) → Fine s.kept s.unfinished → s.conn ≡ conn → Held (f s).1) → (o : Option Live) → find conn r.sessions ≡ o → Held (after_call (option_map f o) r)
  held_call r conn f h k None e = h
  held_call r conn f h k (Some s) e = k s (find-fine conn r.sessions s h.fine e) (find-conn conn r.sessions s e)

  held_open : (r : Rest G) (b : Bool) → is_full r ≡ b → Held r → Held (cond b r (opened r))
  held_open r true e h = h
  held_open r false e h = record {
    fine = push-fine r.sessions (fresh r.next) h.fine begun_fine;
    live = let few : length r.sessions < 16 = leb-false 16 (length r.sessions) (or_parts (leb 16 (length r.sessions)) (leb (2 ^ 63) r.next) e).0 in omega (arith, length-append r.sessions (fresh r.next ∷ []));
    numbers = push-below r.next r.sessions h.numbers;
  }

module _ {G : Type 0} (answer : List EntryView → List WriteView → List ℕ → List ParameterView → QueryMode → Result AnswerView QueryFault) (few : (ledger : List EntryView) (own : List WriteView) (query : List ℕ) (params : List ParameterView) (m : QueryMode) → FewRows (answer ledger own query params m)) (welcomes : G → Welcome) where
  pub held_event : (e : Event) (r : Rest G) → Held r → Held (after_event answer welcomes e r)
  held_event opens r h = held_open r (is_full r) refl h
  held_event (feeds conn piece) r h = held_call r conn _ h (λ s b e. held_replace r conn (fed_live s piece).1 r.ledger h (feed_fine s.unfinished piece s.kept b) e) (find conn r.sessions) refl
  held_event (works conn) r h =
      let S = setting answer welcomes r in
      held_call r conn (λ s. after_step s (work_kept S s.conn r.ledger s.kept s.kept.ended) r) h
      (λ s b e. let d = work_kept S s.conn r.ledger s.kept s.kept.ended in
      held_replace r conn (with_kept s d.kept) (r.ledger ++ commit_entries s.conn s.kept.first d.commit) h (work_fine S (few_answers S few) s.conn r.ledger s.kept s.unfinished s.kept.ended b) e) (find conn r.sessions) refl
  held_event (takes conn max) r h = held_call r conn _ h (λ s b e. held_replace r conn (taken_from max s).1 r.ledger h (taken_fine max s.kept s.unfinished b) e) (find conn r.sessions) refl
  held_event (noops conn) r h = held_call r conn _ h (λ s b e. held_replace r conn (noop_put s).1 r.ledger h (noop_fine s.kept s.unfinished b) e) (find conn r.sessions) refl
  held_event (loses conn) r h = held_without r conn h

  held_events : (events : List Event) (r : Rest G) → Held r → Held (after_events answer welcomes events r)
  held_events [] r h = h
  held_events (e ∷ es) r h = held_events es (after_event answer welcomes e r) (held_event e r h)

  pub keeps_limits : (ledger : List EntryView) (gate : G) (events : List Event) → IsKept (after_events answer welcomes events (empty ledger gate))
  keeps_limits ledger gate events =
      let h = held_events events (empty ledger gate) (held_empty ledger gate) in
      record { bounded = all_bounded _ h.fine; live = h.live; numbers = h.numbers }
