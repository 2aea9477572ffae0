-- Bytes that go out of a session, over every list of calls: they are the text of what it said.
use Rattle.std.proofs.Common.{◌≡◌, refl, sym, ◌∙◌, ap, subst, ℕ, ◌≤◌, Bool, true, false, cond, eqb, leb, ◌&&◌, ◌⊎◌, inl, inr, Option, Some, None, Result, List, [], ◌∷◌, ◌++◌, arith, append-nil, append_assoc, length, take, drop, option_map}
use Rattle.std.proofs.lemmas.Bool.{cond-true, cond-false, cond_both}
use Rattle.std.proofs.lemmas.List.{take-append-drop}
use Rattle.std.proofs.lemmas.List.Concat.{flat_map-append}
use Rattle.messages.specs.Prelude.{Arrival, Shook, NoMagic, Asked, Unread, TooLong, Quiet}
use Rattle.machine.specs.Prelude.{kind_of, is_reset, interruptible}
use Rattle.engine.specs.declared.answer.Mode.{Mode as QueryMode}
use Rattle.engine.specs.Prelude.{WriteView, ParameterView, EntryView, AnswerView, QueryFault, Welcome}
use Rattle.server_session.specs.declared.kinds.What.{What}
use Rattle.server_session.specs.declared.kinds.Cause.{Cause}
use Rattle.server_session.specs.Prelude.{Setting, Reply, OneRow, Summary, Bye, Kept, Step, Full, after_interrupt, after_item, full, puts, puts_noop, replies, rests, reset_among, shut, turns, version_of, what_of, work_kept}
use Rattle.server.specs.declared.kinds.Took.{Took}
use Rattle.server.specs.Prelude.{arrival, takes_item, takes_none, Live, Rest, after_feeding, after_step, empty, fed_live, find, fresh, is_full, noop_put, opened, replace, setting, taken_from, with_kept, with_session, AreBelow, Event, opens, feeds, works, takes, noops, loses, after_call, after_event, after_events, Saying, saying_bytes, text_of, says_at_feed, says_at_step, feed_says, noop_says, out_of, out_by, step_says, call_says, bytes_out, sayings, IsSpoken}
use Rattle.server.proofs.Bounds.{FewRows}
use Rattle.server.proofs.Following.{interrupted}
use Rattle.server.proofs.Founds.{Its, Others, find_below, find_kept, find_pushed, if_found, if_none, next_grows, whose}
use Rattle.server.proofs.Runs.{Held, find-conn, held_empty, held_event}
use Rattle.wire.specs.Prelude.{takes as takes_of, at_server}

-- Bytes that a call adds to those that wait to go.

item_adds : (k : Kept) (a : Option Arrival) → (after_item k a).unsent ≡ k.unsent
    ++ text_of (says_at_feed (version_of k) (what_of a))
item_adds k None = sym (append-nil k.unsent)
item_adds k (Some (Shook (Some v))) = refl
item_adds k (Some (Shook None)) = refl
item_adds k (Some NoMagic) = sym (append-nil k.unsent)
item_adds k (Some Arrival.Idle) = sym (append-nil k.unsent)
item_adds k (Some (Asked q)) = interrupted (λ (t : Kept). t.unsent) (λ t. refl) (is_reset
    (kind_of q) && interruptible k.state) (record k { waiting = k.waiting ++ Asked q ∷ [] })
    ∙ sym (append-nil k.unsent)
item_adds k (Some (Unread e)) = sym (append-nil k.unsent)
item_adds k (Some TooLong) = sym (append-nil k.unsent)

feed_adds : (s : Live) (piece : List ℕ) → (fed_live s piece).1.kept.unsent ≡ s.kept.unsent
    ++ text_of (says_at_feed (version_of s.kept) (fed_live s piece).0.what)
feed_adds s piece = shut_or (shut s.kept) (full s.kept)
  where
    shut_or : (b c : Bool)
        → (let f = after_feeding s.conn (cond b (takes_none What.Closed s.kept s.unfinished) (cond c
        (takes_none What.Full s.kept s.unfinished) (takes_item s.kept
        (takes_of at_server s.unfinished piece)))) in
        f.1.kept.unsent ≡ s.kept.unsent ++ text_of (says_at_feed (version_of s.kept) f.0.what))
    shut_or true c = sym (append-nil s.kept.unsent)
    shut_or false true = sym (append-nil s.kept.unsent)
    shut_or false false = item_adds s.kept (arrival s.kept (takes_of at_server s.unfinished piece).item)

abbrev StepAdds : Kept → Step → Type 0
StepAdds k d = d.kept.unsent ≡ k.unsent ++ text_of (says_at_step (version_of k) d.answer)

replies_add : (ledger : List EntryView) (k : Kept) (q : _) (later : List Arrival) (reply : Reply)
    → StepAdds k (replies ledger k q later reply)
replies_add ledger k q later (OneRow r left) = ap (λ z. k.unsent ++ z) (sym (append-nil _))
replies_add ledger k q later (Summary d m left tx entry) = ap (λ z. k.unsent ++ z) (sym (append-nil _))
replies_add ledger k q later Bye = sym (append-nil k.unsent)

interrupted_adds : (b : Bool) (k : Kept) (d : Step) → StepAdds (cond b (after_interrupt k) k) d → StepAdds k d
interrupted_adds true k d h = h
interrupted_adds false k d h = h

turns_add : (S : Setting) (c : ℕ) (ledger : List EntryView) (k : Kept) (xs : List Arrival)
    → StepAdds k (turns S c ledger k xs)
turns_add S c ledger k (Asked q ∷ later) =
    let b : Bool = reset_among (Asked q ∷ later) && interruptible k.state in
    interrupted_adds b k (turns S c ledger k (Asked q ∷ later)) (replies_add ledger (cond b
    (after_interrupt k) k) q later _)
turns_add S c ledger k (Unread f ∷ later) = sym (append-nil k.unsent)
turns_add S c ledger k (TooLong ∷ later) = sym (append-nil k.unsent)
turns_add S c ledger k xs = sym (append-nil k.unsent)

step_adds : (S : Setting) (c : ℕ) (ledger : List EntryView) (k : Kept) (ended : Option Cause)
    → StepAdds k (work_kept S c ledger k ended)
step_adds S c ledger k (Some cause) = sym (append-nil k.unsent)
step_adds S c ledger k None =
    cond_both (leb 65536 (length k.unsent)) (rests k Full) (turns S c ledger k k.waiting) (λ d. StepAdds k d)
    (λ b. sym (append-nil k.unsent)) (λ b. turns_add S c ledger k k.waiting)

noop_adds : (s : Live) → (noop_put s).1.kept.unsent ≡ s.kept.unsent ++ text_of (noop_says (Some s))
noop_adds s = go (puts_noop s.kept)
  where
    go : (b : Bool) → (cond b (record s.kept { unsent = puts s.kept Quiet }) s.kept).unsent ≡ s.kept.unsent
        ++ text_of (cond b ((version_of s.kept, Quiet) ∷ []) [])
    go true = refl
    go false = sym (append-nil s.kept.unsent)

-- more was said
said_more : (out u v : List ℕ) (says more : List Saying) → v ≡ u ++ text_of more → out ++ u ≡ text_of says
    → (out ++ []) ++ v ≡ text_of (says ++ more)
said_more out u v says more e h =
    ap (λ z. z ++ v) (append-nil out) ∙ ap (λ z. out ++ z) e ∙ sym (append_assoc out u (text_of more))
    ∙ ap (λ z. z ++ text_of more) h
    ∙ sym (flat_map-append saying_bytes says more)

-- bytes were taken out
went_out : (out u : List ℕ) (max : ℕ) (says : List Saying) → out ++ u ≡ text_of says → (out ++ take max u)
    ++ drop max u ≡ text_of (says ++ [])
went_out out u max says h =
    append_assoc out (take max u) (drop max u) ∙ ap (λ z. out ++ z) (take-append-drop max u) ∙ h
    ∙ ap text_of (sym (append-nil says))

spoken_same : (out out2 : List ℕ) (says says2 : List Saying) (s : Live) → out2 ≡ out → says2 ≡ says
    → IsSpoken out says s → IsSpoken out2 says2 s
spoken_same out out2 says says2 s e f h = ap (λ z. z ++ s.kept.unsent) e ∙ h ∙ ap text_of (sym f)

-- The claim for each live session; under numbers that aren't given yet, nothing was said.
record Heeded {G : Type 0} (r : Rest G) (out : ℕ → List ℕ) (says : ℕ → List Saying) : Type 0 where
  live : (conn : ℕ) (s : Live) → find conn r.sessions ≡ Some s → IsSpoken (out conn) (says conn) s
  none : (conn : ℕ) → r.next ≤ conn → (out conn ≡ []) × (says conn ≡ [])

heeded_same : {G : Type 0} (r : Rest G) (out out2 : ℕ → List ℕ) (says says2 : ℕ → List Saying) → ((n : ℕ)
    → out2 n ≡ out n) → ((n : ℕ) → says2 n ≡ says n) → Heeded r out says → Heeded r out2 says2
heeded_same r out out2 says says2 b a h = record {
  live = λ conn s f. spoken_same (out conn) (out2 conn) (says conn) (says2 conn) s (b conn) (a conn)
      (h.live conn s f);
  none = λ conn l. (b conn ∙ (h.none conn l).0, a conn ∙ (h.none conn l).1);
}

module _ {G : Type 0} (answer : List EntryView → List WriteView → List ℕ → List ParameterView → QueryMode
    → Result AnswerView QueryFault) (few : (ledger : List EntryView) (own : List WriteView) (query : List ℕ)
    (params : List ParameterView) (m : QueryMode) → FewRows (answer ledger own query params m)) (welcomes : G
    → Welcome) where
  module _ (r : Rest G) (out : ℕ → List ℕ) (says : ℕ → List Saying) (numbers : AreBelow r.next r.sessions)
      (h : Heeded r out says) where
    still : (conn : ℕ) (s : Live) (b : List ℕ) (a : List Saying) → b ≡ [] → a ≡ []
        → find conn r.sessions ≡ Some s → IsSpoken (out conn ++ b) (says conn ++ a) s
    still conn s b a no_bytes no_words f =
        spoken_same (out conn) (out conn ++ b) (says conn) (says conn ++ a) s (ap (λ z. out conn ++ z) no_bytes
        ∙ append-nil (out conn)) (ap (λ z. says conn ++ z) no_words ∙ append-nil (says conn)) (h.live conn s f)

    -- a call on one session, if it lives
    on_call : {A : Type 0} (c conn : ℕ) (f : Live → A × Rest G) (g : Live → Live) (took : Option Live
        → List ℕ) (told : Option Live → List Saying) (s : Live) (b : List ℕ) (a : List Saying)
        → took None ≡ [] → told None ≡ [] → ((t : Live) → (f t).1.sessions ≡ replace (g t).conn (g t) r.sessions)
        → ((t : Live) → (g t).conn ≡ t.conn)
        → ((t : Live) → IsSpoken (out c) (says c) t → IsSpoken (out c ++ took (Some t)) (says c
        ++ told (Some t)) (g t))
        → (o : Option Live) → find c r.sessions ≡ o → b ≡ cond (eqb c conn) (took o) []
        → a ≡ cond (eqb c conn) (told o) []
        → find conn (after_call (option_map f o) r).sessions ≡ Some s → IsSpoken (out conn ++ b) (says conn ++ a) s
    on_call c conn f g took told s b a nb na same keeps step None e p q found =
        still conn s b a (p ∙ ap (λ z. cond (eqb c conn) z []) nb ∙ if_none (eqb c conn)) (q
        ∙ ap (λ z. cond (eqb c conn) z []) na ∙ if_none (eqb c conn)) found
    on_call c conn f g took told s b a nb na same keeps step (Some t) e p q found =
        go (whose c conn t (g t) s r.sessions e (keeps t ∙ find-conn c r.sessions t e) (ap (λ ss. find conn ss)
        (sym (same t)) ∙ found))
      where
        go : Its c conn s (g t) ⊎ Others c conn s r.sessions → IsSpoken (out conn ++ b) (says conn ++ a) s
        go (inl i) = spoken_same (out c ++ took (Some t)) _ (says c ++ told (Some t)) _ s
            (ap (λ z. out conn ++ z) (p ∙ cond-true (eqb c conn) (took (Some t)) [] i.test) ∙ ap (λ n. out n
            ++ took (Some t)) i.same)
            (ap (λ z. says conn ++ z) (q ∙ cond-true (eqb c conn) (told (Some t)) [] i.test) ∙ ap (λ n. says n
            ++ told (Some t)) i.same)
            (subst (λ x. IsSpoken (out c ++ took (Some t)) (says c
            ++ told (Some t)) x) (sym i.is) (step t (h.live c t e)))
        go (inr o) = still conn s b a (p ∙ cond-false (eqb c conn) (took (Some t)) [] o.test) (q
            ∙ cond-false (eqb c conn) (told (Some t)) [] o.test) o.found

    pushed : (conn : ℕ) (s : Live) (b : Bool) → find conn (cond b r (opened r)).sessions ≡ Some s
        → IsSpoken (out conn ++ []) (says conn ++ []) s
    pushed conn s true f = still conn s [] [] refl refl f
    pushed conn s false f = go (find_pushed conn r.next r.sessions s f)
      where
        go : (find conn r.sessions ≡ Some s) ⊎ ((conn ≡ r.next) × (s ≡ fresh r.next)) → IsSpoken (out conn
            ++ []) (says conn ++ []) s
        go (inl g) = still conn s [] [] refl refl g
        go (inr g) =
            let none = h.none conn (omega (arith, g.0)) in
            spoken_same [] (out conn ++ []) [] (says conn ++ []) s (ap (λ z. z ++ []) none.0) (ap (λ z. z
            ++ []) none.1) (subst (λ x. IsSpoken [] [] x) (sym g.1) refl)

    heeded_live : (e : Event) (conn : ℕ) (s : Live) → find conn
        (after_event answer welcomes e r).sessions ≡ Some s → IsSpoken (out conn ++ out_by conn e r) (says conn
        ++ call_says answer welcomes conn e r) s
    heeded_live opens conn s f = pushed conn s (is_full r) f
    heeded_live (feeds c piece) conn s f =
        let fed : Live → Took × Rest G = λ t. ((fed_live t piece).0, with_session (fed_live t piece).1 r) in
        on_call c conn fed (λ t. (fed_live t piece).1) (λ o. []) (λ o. feed_says piece o) s [] _ refl refl
        (λ t. refl) (λ t. refl)
        (λ t k. said_more (out c) t.kept.unsent (fed_live t piece).1.kept.unsent (says c) (feed_says piece
        (Some t)) (feed_adds t piece) k) (find c r.sessions) refl (sym (if_none (eqb c conn))) refl f
    heeded_live (works c) conn s f =
        let step : Live → Step = λ t. work_kept (setting answer welcomes r) t.conn r.ledger t.kept t.kept.ended in
        on_call c conn (λ t. after_step t (step t) r) (λ t. with_kept t (step t).kept) (λ o. [])
        (λ o. step_says answer welcomes o r) s [] _ refl refl (λ t. refl) (λ t. refl)
        (λ t k. said_more (out c) t.kept.unsent (step t).kept.unsent (says c) (step_says answer welcomes
        (Some t) r) (step_adds (setting answer welcomes r) t.conn r.ledger t.kept t.kept.ended) k)
        (find c r.sessions) refl (sym (if_none (eqb c conn))) refl f
    heeded_live (takes c max) conn s f =
        on_call c conn (λ t. ((taken_from max t).0, with_session (taken_from max t).1 r)) (λ t.
        (taken_from max t).1) (λ o. out_of max o) (λ o. []) s _ [] refl refl (λ t. refl) (λ t. refl)
        (λ t k. went_out (out c) t.kept.unsent max (says c) k) (find c r.sessions) refl refl (sym (if_none
        (eqb c conn))) f
    heeded_live (noops c) conn s f =
        on_call c conn (λ t. ((noop_put t).0, with_session (noop_put t).1 r)) (λ t. (noop_put t).1)
        (λ o. []) noop_says s [] _ refl refl (λ t. refl) (λ t. refl)
        (λ t k. said_more (out c) t.kept.unsent (noop_put t).1.kept.unsent (says c) (noop_says (Some t))
        (noop_adds t) k) (find c r.sessions) refl (sym (if_none (eqb c conn))) refl f
    heeded_live (loses c) conn s f = still conn s [] [] refl refl (find_kept r.next c conn r.sessions s numbers f)

    nothing : (e : Event) (conn : ℕ) → find conn r.sessions ≡ None
        → (out_by conn e r ≡ []) × (call_says answer welcomes conn e r ≡ [])
    nothing (feeds c piece) conn f = (refl, if_found r c conn (λ o. feed_says piece o) refl f)
    nothing (works c) conn f = (refl, if_found r c conn (λ o. step_says answer welcomes o r) refl f)
    nothing (takes c max) conn f = (if_found r c conn (λ o. out_of max o) refl f, refl)
    nothing (noops c) conn f = (refl, if_found r c conn noop_says refl f)
    nothing _ conn f = (refl, refl)

    heeded_event : (e : Event) → Heeded (after_event answer welcomes e r) (λ n. out n
        ++ out_by n e r) (λ n. says n ++ call_says answer welcomes n e r)
    heeded_event e = record {
      live = heeded_live e;
      none = λ conn l.
          let below : r.next ≤ conn = let g = next_grows answer welcomes r e in omega arith in
          let before = h.none conn below in
          let none = nothing e conn (find_below r.next conn r.sessions numbers below) in (
            ap (λ z. z ++ out_by conn e r) before.0 ∙ none.0,
            ap (λ z. z
                ++ call_says answer welcomes conn e r) before.1 ∙ none.1,
          );
    }

  heeded_events : (es : List Event) (r : Rest G) (out : ℕ → List ℕ) (says : ℕ → List Saying) → Held r
      → Heeded r out says
      → Heeded (after_events answer welcomes es r) (λ n. out n ++ bytes_out answer welcomes n es r) (λ n. says n
      ++ sayings answer welcomes n es r)
  heeded_events [] r out says k h = heeded_same r out _ says _ (λ n. append-nil (out n)) (λ n. append-nil (says n)) h
  heeded_events (e ∷ es) r out says k h =
      let after = after_event answer welcomes e r in
      heeded_same (after_events answer welcomes es after) _ _ _ _ (λ n. sym (append_assoc (out n) (out_by n e r)
      (bytes_out answer welcomes n es after)))
      (λ n. sym (append_assoc (says n) (call_says answer welcomes n e r) (sayings answer welcomes n es after)))
      (heeded_events es after (λ n. out n ++ out_by n e r) (λ n. says n
      ++ call_says answer welcomes n e r) (held_event answer few welcomes e r k)
      (heeded_event r out says k.numbers h e))

  pub says_by_steps : (ledger : List EntryView) (gate : G) (events : List Event) (conn : ℕ) (s : Live)
      → find conn (after_events answer welcomes events (empty ledger gate)).sessions ≡ Some s
      → IsSpoken (bytes_out answer welcomes conn events (empty ledger gate)) (sayings answer welcomes conn events
      (empty ledger gate)) s
  says_by_steps ledger gate events conn s f =
      (heeded_events events (empty ledger gate) (λ n. []) (λ n. []) (held_empty ledger gate)
      (record { live = λ conn s f. let bad : None ≡ Some s = f in cc; none = λ conn l. (refl, refl) })).live conn s f
