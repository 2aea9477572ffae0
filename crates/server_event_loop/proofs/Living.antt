-- Which sessions live after calls on one connection.
use Rattle.std.proofs.Common.{◌≡◌, ◌≢◌, refl, sym, ap, subst, ◌∙◌, ℕ, IsSome, option_map, List, [], ◌∷◌, ◌++◌, Option, Some, None, Result}
use Rattle.std.proofs.lemmas.Bool.{eq-eqb}
use Rattle.engine.specs.declared.answer.Mode.{Mode as QueryMode}
use Rattle.engine.specs.Prelude.{WriteView, ParameterView, EntryView, AnswerView, QueryFault, Welcome}
use Rattle.server_session.specs.Prelude.{work_kept}
use Rattle.server.specs.Prelude.{Rest, Live, find, replace, with_kept, with_session, fed_live, taken_from, on_live, setting, after_step, feed_at, work_at, take_out_at, Event, opens, feeds, works, takes, noops, loses, after_call, after_event, after_events}
use Rattle.server.proofs.Runs.{find-conn, find_replaced, leaves_others}
use Rattle.server_event_loop.specs.ConnectionPrelude.{Wire, Held, End, end_of, ends_by, ends_of, IsOn, AreOn, Moves}

first_empty : {A : Type 0} (xs ys : List A) → xs ++ ys ≡ [] → xs ≡ []
first_empty [] ys e = refl
first_empty (x ∷ xs) ys e = cc

last_empty : {A : Type 0} (xs ys : List A) → xs ++ ys ≡ [] → ys ≡ []
last_empty [] ys e = e
last_empty (x ∷ xs) ys e = cc

module _ {G : Type 0} (answer : List EntryView → List WriteView → List ℕ → List ParameterView → QueryMode → Result AnswerView QueryFault) (welcomes : G → Welcome) where
  lives_replaced : (conn : ℕ) (t : Live) (ss : List Live) (n : ℕ) → n ≡ conn → t.conn ≡ conn → IsSome (find conn ss) → IsSome (find conn (replace n t ss))
  lives_replaced conn t ss n e same lives = subst (λ (o : Option Live). IsSome o) (sym (ap (λ (k : ℕ). find conn (replace k t ss)) e ∙ find_replaced conn t ss lives same)) refl

  lives_call : {A : Type 0} (conn : ℕ) (r : Rest G) (f : Live → A × Rest G) → ((s : Live) → s.conn ≡ conn → IsSome (find conn (f s).1.sessions)) → (o : Option Live) → find conn r.sessions ≡ o → IsSome o → IsSome (find conn (after_call (option_map f o) r).sessions)
  lives_call conn r f k None e lives = cc
  lives_call conn r f k (Some s) e lives = k s (find-conn conn r.sessions s e)

  lives_live : {A : Type 0} (conn : ℕ) (r : Rest G) (f : Live → A × Live) → ((s : Live) → (f s).1.conn ≡ s.conn) → IsSome (find conn r.sessions) → IsSome (find conn (after_call (on_live f conn r) r).sessions)
  lives_live conn r f keeps lives = lives_call conn r (λ s. ((f s).0, with_session (f s).1 r)) (λ s e. lives_replaced conn (f s).1 r.sessions (f s).1.conn (keeps s ∙ e) (keeps s ∙ e) lives) (find conn r.sessions) refl lives

  lives_worked : (conn : ℕ) (r : Rest G) → IsSome (find conn r.sessions) → IsSome (find conn (after_call (work_at answer welcomes conn r) r).sessions)
  lives_worked conn r lives =
      lives_call conn r (λ s. after_step s (work_kept (setting answer welcomes r) s.conn r.ledger s.kept s.kept.ended) r)
      (λ s e. lives_replaced conn (with_kept s (work_kept (setting answer welcomes r) s.conn r.ledger s.kept s.kept.ended).kept) r.sessions s.conn e e lives) (find conn r.sessions) refl lives

  -- one that is given up has ended
  ends_some : (conn : ℕ) (r : Rest G) (o : Option Live) → find conn r.sessions ≡ o → IsSome o → ends_by conn (loses conn) r ≡ [] → ⊥
  ends_some conn r None f lives e = cc
  ends_some conn r (Some s) f lives e =
      let is : ends_by conn (loses conn) r ≡ end_of (Some s) = rw (eq-eqb conn conn refl) (ap end_of f) in
      let none : end_of (Some s) ≡ [] = sym is ∙ e in
      cc

  lives_event : (conn : ℕ) (e : Event) (r : Rest G) → IsOn conn e → ends_by conn e r ≡ [] → IsSome (find conn r.sessions) → IsSome (find conn (after_event answer welcomes e r).sessions)
  lives_event conn (feeds c piece) r own none lives = subst (λ (k : ℕ). IsSome (find conn (after_call (feed_at k piece r) r).sessions)) (sym own) (lives_live conn r (λ s. fed_live s piece) (λ s. refl) lives)
  lives_event conn (works c) r own none lives = subst (λ (k : ℕ). IsSome (find conn (after_call (work_at answer welcomes k r) r).sessions)) (sym own) (lives_worked conn r lives)
  lives_event conn (takes c max) r own none lives = subst (λ (k : ℕ). IsSome (find conn (after_call (take_out_at k max r) r).sessions)) (sym own) (lives_live conn r (taken_from max) (λ s. refl) lives)
  lives_event conn (loses c) r own none lives = absurd (ends_some conn r (find conn r.sessions) refl lives (subst (λ (k : ℕ). ends_by conn (loses k) r ≡ []) own none))
  lives_event conn opens r own none lives = absurd own
  lives_event conn (noops c) r own none lives = absurd own

  lives_events : (conn : ℕ) (es : List Event) (r : Rest G) → AreOn conn es → ends_of answer welcomes conn es r ≡ [] → IsSome (find conn r.sessions) → IsSome (find conn (after_events answer welcomes es r).sessions)
  lives_events conn [] r own none lives = lives
  lives_events conn (e ∷ es) r own none lives =
      let s = after_event answer welcomes e r in
      lives_events conn es s own.1 (last_empty (ends_by conn e r) (ends_of answer welcomes conn es s) none) (lives_event conn e r own.0 (first_empty (ends_by conn e r) (ends_of answer welcomes conn es s) none) lives)

  -- a session that isn't given up lives on
  pub moves_live : {m a : ℕ} {r s : Rest G} {x y : Held} {u v : ℕ → Wire} → Moves answer welcomes m a [] r s x y u v → IsSome (find x.conn r.sessions) → IsSome (find x.conn s.sessions)
  moves_live {r = r} {x = x} p lives = subst (λ (s : Rest G). IsSome (find x.conn s.sessions)) p.reaches (lives_events x.conn p.calls r p.own p.ended lives)

  others_event : (conn k : ℕ) → k ≢ conn → (e : Event) (r : Rest G) → IsOn conn e → find k (after_event answer welcomes e r).sessions ≡ find k r.sessions
  others_event conn k differ (feeds c piece) r own = leaves_others answer welcomes k (feeds c piece) r (λ e. differ (sym e ∙ own))
  others_event conn k differ (works c) r own = leaves_others answer welcomes k (works c) r (λ e. differ (sym e ∙ own))
  others_event conn k differ (takes c max) r own = leaves_others answer welcomes k (takes c max) r (λ e. differ (sym e ∙ own))
  others_event conn k differ (loses c) r own = leaves_others answer welcomes k (loses c) r (λ e. differ (sym e ∙ own))
  others_event conn k differ opens r own = absurd own
  others_event conn k differ (noops c) r own = absurd own

  others_events : (conn k : ℕ) → k ≢ conn → (es : List Event) (r : Rest G) → AreOn conn es → find k (after_events answer welcomes es r).sessions ≡ find k r.sessions
  others_events conn k differ [] r own = refl
  others_events conn k differ (e ∷ es) r own = others_events conn k differ es (after_event answer welcomes e r) own.1 ∙ others_event conn k differ e r own.0

  -- every other session is as it was
  pub moves_leave : {m a : ℕ} {ends : List End} {r s : Rest G} {x y : Held} {u v : ℕ → Wire} → Moves answer welcomes m a ends r s x y u v → (k : ℕ) → k ≢ x.conn → find k s.sessions ≡ find k r.sessions
  moves_leave {r = r} {x = x} p k differ = subst (λ (s : Rest G). find k s.sessions ≡ find k r.sessions) p.reaches (others_events x.conn k differ p.calls r p.own)
