-- What calls on one connection leave, and the sessions that they give up.
use Rattle.std.proofs.Common.{◌≡◌, refl, sym, ap, subst, ◌∙◌, ℕ, ◌==◌, if◌then◌else◌, Bool, true, false, List, [], ◌∷◌, ◌++◌, append_assoc, IsSome, option_map, Option, Some, None, Result}
use Rattle.std.proofs.lemmas.Bool.{eq-eqb, eqb-true}
use Rattle.std.proofs.lemmas.List.{map-append}
use Rattle.engine.specs.declared.answer.Mode.{Mode as QueryMode}
use Rattle.engine.specs.Prelude.{WriteView, ParameterView, EntryView, AnswerView, QueryFault, Welcome}
use Rattle.server_session.specs.Prelude.{work_kept}
use Rattle.server.specs.Prelude.{Rest, Live, find, fresh, with_session, fed_live, taken_from, setting, after_step, Event, opens, feeds, works, takes, noops, loses, after_call, after_event, after_events}
use Rattle.server_event_loop.specs.ConnectionPrelude.{Wire, Held, End, ends_by, ends_of, IsOn, AreOn, Moves, Turns, begins, then_opens, then_moves}
use Rattle.server_event_loop.specs.Prelude.{Gone, gone_with, gone_by, gone_of}

next_call : {G A X : Type 0} (r : Rest G) (f : X → A × Rest G) → ((x : X) → (f x).1.next ≡ r.next) → (o : Option X) → (after_call (option_map f o) r).next ≡ r.next
next_call r f same None = refl
next_call r f same (Some x) = same x

-- a session that was just opened lives
pub found_pushed : (n : ℕ) (ss : List Live) → IsSome (find n (ss ++ fresh n ∷ []))
found_pushed n [] = rw (eq-eqb n n refl) refl
found_pushed n (s ∷ ss) = go (s.conn == n) (found_pushed n ss)
  where
    go : (b : Bool) → IsSome (find n (ss ++ fresh n ∷ [])) → IsSome (if b then Some s else find n (ss ++ fresh n ∷ []))
    go true l = refl
    go false l = l

pub found_new : (n : ℕ) (ss : List Live) → find n ss ≡ None → find n (ss ++ fresh n ∷ []) ≡ Some (fresh n)
found_new n [] none = rw (eq-eqb n n refl) refl
found_new n (s ∷ ss) none = go (s.conn == n) none (λ e. found_new n ss e)
  where
    go : (b : Bool) → (if b then Some s else find n ss) ≡ None → (find n ss ≡ None → find n (ss ++ fresh n ∷ []) ≡ Some (fresh n)) → (if b then Some s else find n (ss ++ fresh n ∷ [])) ≡ Some (fresh n)
    go true e more = cc
    go false e more = more e

module _ {G : Type 0} (answer : List EntryView → List WriteView → List ℕ → List ParameterView → QueryMode → Result AnswerView QueryFault) (welcomes : G → Welcome) where
  next_event : (conn : ℕ) (e : Event) (r : Rest G) → IsOn conn e → (after_event answer welcomes e r).next ≡ r.next
  next_event conn (feeds c piece) r own = next_call r (λ s. ((fed_live s piece).0, with_session (fed_live s piece).1 r)) (λ s. refl) (find c r.sessions)
  next_event conn (works c) r own = next_call r (λ s. after_step s (work_kept (setting answer welcomes r) s.conn r.ledger s.kept s.kept.ended) r) (λ s. refl) (find c r.sessions)
  next_event conn (takes c max) r own = next_call r (λ s. ((taken_from max s).0, with_session (taken_from max s).1 r)) (λ s. refl) (find c r.sessions)
  next_event conn (loses c) r own = refl
  next_event conn opens r own = absurd own
  next_event conn (noops c) r own = absurd own

  next_events : (conn : ℕ) (es : List Event) (r : Rest G) → AreOn conn es → (after_events answer welcomes es r).next ≡ r.next
  next_events conn [] r own = refl
  next_events conn (e ∷ es) r own = next_events conn es (after_event answer welcomes e r) own.1 ∙ next_event conn e r own.0

  -- a move opens no session
  pub moves_next : {m a : ℕ} {ends : List End} {r s : Rest G} {x y : Held} {u v : ℕ → Wire} → Moves answer welcomes m a ends r s x y u v → s.next ≡ r.next
  moves_next {r = r} {x = x} p = sym (ap (λ (s : Rest G). s.next) p.reaches) ∙ next_events x.conn p.calls r p.own

  gone_one : (conn : ℕ) (e : Event) (r : Rest G) → IsOn conn e → gone_by e r ≡ gone_with conn (ends_by conn e r)
  gone_one conn (loses c) r own = subst (λ (k : ℕ). gone_by (loses k) r ≡ gone_with conn (ends_by conn (loses k) r)) (sym own) (rw (eq-eqb conn conn refl) refl)
  gone_one conn (feeds c piece) r own = refl
  gone_one conn (works c) r own = refl
  gone_one conn (takes c max) r own = refl
  gone_one conn opens r own = refl
  gone_one conn (noops c) r own = refl

  -- calls on one connection give up its session alone
  pub gone_own : (conn : ℕ) (es : List Event) (r : Rest G) → AreOn conn es → gone_of answer welcomes es r ≡ gone_with conn (ends_of answer welcomes conn es r)
  gone_own conn [] r own = refl
  gone_own conn (e ∷ es) r own =
      let s = after_event answer welcomes e r in
      ap (λ (l : List Gone). l ++ gone_of answer welcomes es s) (gone_one conn e r own.0) ∙ ap (λ (l : List Gone). gone_with conn (ends_by conn e r) ++ l) (gone_own conn es s own.1)
      ∙ sym (map-append (λ (d : End). record { conn = conn; end = d }) (ends_by conn e r) (ends_of answer welcomes conn es s))

  pub gone_both : (es fs : List Event) (r s : Rest G) → after_events answer welcomes es r ≡ s → gone_of answer welcomes (es ++ fs) r ≡ gone_of answer welcomes es r ++ gone_of answer welcomes fs s
  gone_both [] fs r s e = ap (gone_of answer welcomes fs) e
  gone_both (c ∷ es) fs r s e =
      let t = after_event answer welcomes c r in
      ap (λ (l : List Gone). gone_by c r ++ l) (gone_both es fs t s e) ∙ sym (append_assoc (gone_by c r) (gone_of answer welcomes es t) (gone_of answer welcomes fs s))

  -- what is held of each connection has its number
  pub held_numbers : {r : Rest G} {before : ℕ → Wire} {calls : List Event} {s : Rest G} {held : ℕ → Held} {after : ℕ → Wire} → Turns answer welcomes r before calls s held after → (k : ℕ) → (held k).conn ≡ k
  held_numbers begins k = refl
  held_numbers (then_opens p) k = held_numbers p k
  held_numbers (then_moves {held = held} {new = new} conn p m) k = go (held_numbers p k) (k == new.conn) refl
    where
      go : (held k).conn ≡ k → (b : Bool) → (k == new.conn) ≡ b → (if b then new else held k).conn ≡ k
      go same true e = sym (eqb-true k new.conn e)
      go same false e = same
