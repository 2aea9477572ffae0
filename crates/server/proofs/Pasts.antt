-- What came of the bytes of each session, over every list of calls.
use Rattle.std.proofs.Common.{◌≡◌, refl, sym, ◌∙◌, ap, subst, ℕ, ◌≤◌, Bool, true, false, cond, eqb, ◌⊎◌, inl, inr, Option, Some, None, Result, Ok, Err, List, [], ◌∷◌, ◌++◌, arith, append-nil, append_assoc, option_map}
use Rattle.std.proofs.lemmas.Bool.{cond-true, cond-false}
use Rattle.wire.specs.declared.Version.{Version}
use Rattle.wire.specs.Prelude.{fresh as unread, items_of, whole}
use Rattle.messages.specs.Prelude.{RequestView, request_of, Arrival, Asked, Unread, TooLong, arrivals, requests_of, then_request, without_idle}
use Rattle.messages.specs.declared.fault.MsgFault.{MsgFault}
use Rattle.messages.proofs.Arriving.{arrives_whole}
use Rattle.engine.specs.declared.answer.Mode.{Mode as QueryMode}
use Rattle.engine.specs.Prelude.{WriteView, ParameterView, EntryView, AnswerView, QueryFault, Welcome}
use Rattle.server_session.specs.Prelude.{Step, take_kept, work_kept}
use Rattle.server.specs.declared.kinds.Took.{Took}
use Rattle.server.specs.Prelude.{Live, Rest, after_step, empty, fed_live, find, fresh, is_full, noop_put, opened, replace, setting, taken_from, with_kept, with_session, AreBelow, Event, opens, feeds, works, takes, noops, loses, after_call, after_event, after_events, Asks, Follows, bytes_taken, call_answered, places_of, requests_answered, step_answered, took_by, used_of}
use Rattle.server.proofs.Bounds.{FewRows}
use Rattle.server.proofs.Following.{follows_begun, follows_feed, follows_noop, follows_same, follows_unsent, follows_work}
use Rattle.server.proofs.Founds.{Its, Others, find_below, find_kept, find_pushed, if_found, if_none, next_grows, whose}
use Rattle.server.proofs.Runs.{Held, find-conn, held_empty, held_event}

-- What is known of each live session, and that nothing came of the numbers that aren't given yet.
record Traced {G : Type 0} (r : Rest G) (taken : ℕ → List ℕ) (answered : ℕ → List RequestView) : Type 0 where
  live : (conn : ℕ) (s : Live) → find conn r.sessions ≡ Some s → Follows (taken conn) (answered conn) s
  none : (conn : ℕ) → r.next ≤ conn → (taken conn ≡ []) × (answered conn ≡ [])

traced_same : {G : Type 0} (r : Rest G) (taken more : ℕ → List ℕ) (answered later : ℕ → List RequestView) → ((n : ℕ) → more n ≡ taken n) → ((n : ℕ) → later n ≡ answered n) → Traced r taken answered → Traced r more later
traced_same r taken more answered later b a h = record {
  live = λ conn s f. follows_same (taken conn) (more conn) (answered conn) (later conn) s (b conn) (a conn) (h.live conn s f);
  none = λ conn l. (b conn ∙ (h.none conn l).0, a conn ∙ (h.none conn l).1);
}

module _ {G : Type 0} (answer : List EntryView → List WriteView → List ℕ → List ParameterView → QueryMode → Result AnswerView QueryFault) (few : (ledger : List EntryView) (own : List WriteView) (query : List ℕ) (params : List ParameterView) (m : QueryMode) → FewRows (answer ledger own query params m)) (welcomes : G → Welcome) where
  module _ (r : Rest G) (taken : ℕ → List ℕ) (answered : ℕ → List RequestView) (numbers : AreBelow r.next r.sessions) (h : Traced r taken answered) where
    still : (conn : ℕ) (s : Live) (b : List ℕ) (a : List RequestView) → b ≡ [] → a ≡ [] → find conn r.sessions ≡ Some s → Follows (taken conn ++ b) (answered conn ++ a) s
    still conn s b a none_taken none_answered f =
        follows_same (taken conn) (taken conn ++ b) (answered conn) (answered conn ++ a) s (ap (λ z. taken conn ++ z) none_taken ∙ append-nil (taken conn)) (ap (λ z. answered conn ++ z) none_answered ∙ append-nil (answered conn)) (h.live conn s f)

    -- a call on one session, where it lives: it takes these bytes, and answers these requests
    on_call : {A : Type 0} (c conn : ℕ) (f : Live → A × Rest G) (g : Live → Live) (took : Option Live → List ℕ) (told : Option Live → List RequestView) (s : Live) (b : List ℕ) (a : List RequestView)
        → took None ≡ [] → told None ≡ [] → ((t : Live) → (f t).1.sessions ≡ replace (g t).conn (g t) r.sessions) → ((t : Live) → (g t).conn ≡ t.conn)
        → ((t : Live) → Follows (taken c) (answered c) t → Follows (taken c ++ took (Some t)) (answered c ++ told (Some t)) (g t))
        → (o : Option Live) → find c r.sessions ≡ o → b ≡ cond (eqb c conn) (took o) [] → a ≡ cond (eqb c conn) (told o) []
        → find conn (after_call (option_map f o) r).sessions ≡ Some s → Follows (taken conn ++ b) (answered conn ++ a) s
    on_call c conn f g took told s b a nb na same keeps follows None e p q found =
        still conn s b a (p ∙ ap (λ z. cond (eqb c conn) z []) nb ∙ if_none (eqb c conn)) (q ∙ ap (λ z. cond (eqb c conn) z []) na ∙ if_none (eqb c conn)) found
    on_call c conn f g took told s b a nb na same keeps follows (Some t) e p q found =
        go (whose c conn t (g t) s r.sessions e (keeps t ∙ find-conn c r.sessions t e) (ap (λ ss. find conn ss) (sym (same t)) ∙ found))
      where
        go : Its c conn s (g t) ⊎ Others c conn s r.sessions → Follows (taken conn ++ b) (answered conn ++ a) s
        go (inl i) = follows_same (taken c ++ took (Some t)) _ (answered c ++ told (Some t)) _ s
            (ap (λ z. taken conn ++ z) (p ∙ cond-true (eqb c conn) (took (Some t)) [] i.test) ∙ ap (λ n. taken n ++ took (Some t)) i.same)
            (ap (λ z. answered conn ++ z) (q ∙ cond-true (eqb c conn) (told (Some t)) [] i.test) ∙ ap (λ n. answered n ++ told (Some t)) i.same)
            (subst (λ x. Follows (taken c ++ took (Some t)) (answered c ++ told (Some t)) x) (sym i.is) (follows t (h.live c t e)))
        go (inr o) = still conn s b a (p ∙ cond-false (eqb c conn) (took (Some t)) [] o.test) (q ∙ cond-false (eqb c conn) (told (Some t)) [] o.test) o.found

    pushed : (conn : ℕ) (s : Live) (b : Bool) → find conn (cond b r (opened r)).sessions ≡ Some s → Follows (taken conn ++ []) (answered conn ++ []) s
    pushed conn s true f = still conn s [] [] refl refl f
    pushed conn s false f = go (find_pushed conn r.next r.sessions s f)
      where
        go : (find conn r.sessions ≡ Some s) ⊎ ((conn ≡ r.next) × (s ≡ fresh r.next)) → Follows (taken conn ++ []) (answered conn ++ []) s
        go (inl g) = still conn s [] [] refl refl g
        go (inr g) =
            let none = h.none conn (omega (arith, g.0)) in
            follows_same [] (taken conn ++ []) [] (answered conn ++ []) s (ap (λ z. z ++ []) none.0) (ap (λ z. z ++ []) none.1) (subst (λ x. Follows [] [] x) (sym g.1) (follows_begun r.next))

    -- a call that neither takes bytes nor answers
    kept_call : {A : Type 0} (c conn : ℕ) (f : Live → A × Live) (s : Live) → ((t : Live) → (f t).1.conn ≡ t.conn) → ((b : List ℕ) (a : List RequestView) (t : Live) → Follows b a t → Follows b a (f t).1)
        → find conn (after_call (option_map (λ t. ((f t).0, with_session (f t).1 r)) (find c r.sessions)) r).sessions ≡ Some s → Follows (taken conn ++ []) (answered conn ++ []) s
    kept_call c conn f s keeps follows g =
        on_call c conn (λ t. ((f t).0, with_session (f t).1 r)) (λ t. (f t).1) (λ o. []) (λ o. []) s [] [] refl refl (λ t. refl) keeps
        (λ t k. follows_same (taken c) (taken c ++ []) (answered c) (answered c ++ []) _ (append-nil (taken c)) (append-nil (answered c)) (follows (taken c) (answered c) t k))
        (find c r.sessions) refl (sym (if_none (eqb c conn))) (sym (if_none (eqb c conn))) g

    traced_live : (e : Event) (conn : ℕ) (s : Live) → find conn (after_event answer welcomes e r).sessions ≡ Some s → Follows (taken conn ++ took_by conn e r) (answered conn ++ call_answered answer welcomes conn e r) s
    traced_live opens conn s f = pushed conn s (is_full r) f
    traced_live (feeds c piece) conn s f =
        let fed : Live → Took × Rest G = λ t. ((fed_live t piece).0, with_session (fed_live t piece).1 r) in
        on_call c conn fed (λ t. (fed_live t piece).1) (λ o. used_of piece (option_map fed o)) (λ o. []) s _ [] refl refl (λ t. refl) (λ t. refl)
        (λ t k. follows_same _ _ (answered c) (answered c ++ []) _ refl (append-nil (answered c)) (follows_feed (taken c) (answered c) t k piece)) (find c r.sessions) refl refl (sym (if_none (eqb c conn))) f
    traced_live (works c) conn s f =
        let step : Live → Step = λ t. work_kept (setting answer welcomes r) t.conn r.ledger t.kept t.kept.ended in
        on_call c conn (λ t. after_step t (step t) r) (λ t. with_kept t (step t).kept) (λ o. []) (λ o. step_answered answer welcomes o r) s [] _ refl refl (λ t. refl) (λ t. refl)
        (λ t k. follows_same (taken c) (taken c ++ []) _ _ _ (append-nil (taken c)) refl (follows_work (setting answer welcomes r) r.ledger (taken c) (answered c) t k)) (find c r.sessions) refl (sym (if_none (eqb c conn))) refl f
    traced_live (takes c max) conn s f = kept_call c conn (taken_from max) s (λ t. refl) (λ b a t k. follows_unsent b a t (take_kept max t.kept).unsent k) f
    traced_live (noops c) conn s f = kept_call c conn noop_put s (λ t. refl) follows_noop f
    traced_live (loses c) conn s f = still conn s [] [] refl refl (find_kept r.next c conn r.sessions s numbers f)

    -- nothing comes of a number that isn't given
    nothing : (e : Event) (conn : ℕ) → find conn r.sessions ≡ None → (took_by conn e r ≡ []) × (call_answered answer welcomes conn e r ≡ [])
    nothing (feeds c piece) conn f = (if_found r c conn (λ o. used_of piece (option_map (λ t. ((fed_live t piece).0, with_session (fed_live t piece).1 r)) o)) refl f, refl)
    nothing (works c) conn f = (refl, if_found r c conn (λ o. step_answered answer welcomes o r) refl f)
    nothing _ conn f = (refl, refl)

    traced_event : (e : Event) → Traced (after_event answer welcomes e r) (λ n. taken n ++ took_by n e r) (λ n. answered n ++ call_answered answer welcomes n e r)
    traced_event e = record {
      live = traced_live e;
      none = λ conn l.
          let below : r.next ≤ conn = let g = next_grows answer welcomes r e in omega arith in
          let before = h.none conn below in
          let none = nothing e conn (find_below r.next conn r.sessions numbers below) in
          (ap (λ z. z ++ took_by conn e r) before.0 ∙ none.0, ap (λ z. z ++ call_answered answer welcomes conn e r) before.1 ∙ none.1);
    }

  traced_events : (es : List Event) (r : Rest G) (taken : ℕ → List ℕ) (answered : ℕ → List RequestView) → Held r → Traced r taken answered
      → Traced (after_events answer welcomes es r) (λ n. taken n ++ bytes_taken answer welcomes n es r) (λ n. answered n ++ requests_answered answer welcomes n es r)
  traced_events [] r taken answered k h = traced_same r taken _ answered _ (λ n. append-nil (taken n)) (λ n. append-nil (answered n)) h
  traced_events (e ∷ es) r taken answered k h =
      let after = after_event answer welcomes e r in
      traced_same (after_events answer welcomes es after) _ _ _ _ (λ n. sym (append_assoc (taken n) (took_by n e r) (bytes_taken answer welcomes n es after)))
      (λ n. sym (append_assoc (answered n) (call_answered answer welcomes n e r) (requests_answered answer welcomes n es after)))
      (traced_events es after (λ n. taken n ++ took_by n e r) (λ n. answered n ++ call_answered answer welcomes n e r) (held_event answer few welcomes e r k) (traced_event r taken answered k.numbers h e))

  -- nothing has come of a server without sessions
  untraced : (ledger : List EntryView) (gate : G) → Traced (empty ledger gate) (λ n. []) (λ n. [])
  untraced ledger gate = record { live = λ conn s f. let bad : None ≡ Some s = f in cc; none = λ conn l. (refl, refl) }

  pub places_follow : (ledger : List EntryView) (gate : G) (events : List Event) (conn : ℕ) (s : Live) → find conn (after_events answer welcomes events (empty ledger gate)).sessions ≡ Some s
      → Follows (bytes_taken answer welcomes conn events (empty ledger gate)) (requests_answered answer welcomes conn events (empty ledger gate)) s
  places_follow ledger gate events conn s f = (traced_events events (empty ledger gate) (λ n. []) (λ n. []) (held_empty ledger gate) (untraced ledger gate)).live conn s f

-- What arrives after an offer takes its places by the grammar of chunks.
placed_quiet : (xs : List Arrival) → places_of (without_idle xs) ≡ places_of xs
placed_quiet [] = refl
placed_quiet (Asked q ∷ xs) = ap (λ z. Asked q ∷ z) (placed_quiet xs)
placed_quiet (Unread e ∷ xs) = ap (λ z. Unread e ∷ z) (placed_quiet xs)
placed_quiet (TooLong ∷ xs) = ap (λ z. TooLong ∷ z) (placed_quiet xs)
placed_quiet (x ∷ xs) = placed_quiet xs

placed_all : (v : Version) (ms : List (List ℕ)) (past : Bool) → places_of (requests_of v ms past) ≡ requests_of v ms past
placed_all v [] true = refl
placed_all v [] false = refl
placed_all v (b ∷ ms) past = go (request_of v b) (placed_all v ms past)
  where
    go : (r : Result RequestView MsgFault) → places_of (requests_of v ms past) ≡ requests_of v ms past → places_of (then_request r (requests_of v ms past)) ≡ then_request r (requests_of v ms past)
    go (Ok q) h = ap (λ z. Asked q ∷ z) h
    go (Err e) h = refl

pub follows_asks : (bytes : List ℕ) (answered : List RequestView) (s : Live) → Follows bytes answered s → Asks bytes answered s
follows_asks bytes answered s h =
    λ offer more v long shakes is.
    h.places ∙ ap (λ z. places_of (arrivals z)) is
    ∙ sym (placed_quiet (arrivals (offer ++ more)))
    ∙ ap places_of (arrives_whole offer more v long shakes)
    ∙ placed_all v (whole more) (items_of unread more).rest.too_big
