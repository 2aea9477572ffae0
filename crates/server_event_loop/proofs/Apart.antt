-- Calls on one connection, and what they do to the bytes of another.
use Rattle.std.proofs.Common.{◌≡◌, ◌≢◌, refl, sym, ap, subst, ◌∙◌, ℕ, arith, List, [], ◌∷◌, ◌++◌, Bool, true, false, ◌==◌, if◌then◌else◌, append_assoc, append-nil, Result}
use Rattle.std.proofs.lemmas.Bool.{eqb-true, eqb-false}
use Rattle.std.proofs.lemmas.Bool.Decides.{nat_tests}
use Rattle.std.specs.Io.KnownBytes.{Appends}
use Rattle.std.proofs.KnownBytes.{Appends-nil, Appends-trans}
use Rattle.engine.specs.declared.answer.Mode.{Mode as QueryMode}
use Rattle.engine.specs.Prelude.{WriteView, ParameterView, EntryView, AnswerView, QueryFault, Welcome}
use Rattle.server.specs.Prelude.{Rest, Event, opens, feeds, works, takes, noops, loses, after_event, after_events, bytes_taken, took_by}
use Rattle.server_event_loop.specs.ConnectionPrelude.{Wire, Held, End, gave_by, bytes_given, IsOn, AreOn, Moves, Turns, begins, then_opens, then_moves, Along}
use Rattle.server_event_loop.proofs.Moved.{after_both, taken_both, given_both}

module _ {G : Type 0} (answer : List EntryView → List WriteView → List ℕ → List ParameterView → QueryMode → Result AnswerView QueryFault) (welcomes : G → Welcome) where
  took_other : (k j : ℕ) → k ≢ j → (e : Event) → IsOn k e → (r : Rest G) → took_by j e r ≡ []
  took_other k j differ (feeds c piece) own r = grind (arith, nat_tests)
  took_other k j differ (works c) own r = refl
  took_other k j differ (takes c max) own r = refl
  took_other k j differ (loses c) own r = refl
  took_other k j differ opens own r = refl
  took_other k j differ (noops c) own r = refl

  gave_other : (k j : ℕ) → k ≢ j → (e : Event) → IsOn k e → (r : Rest G) → gave_by j e r ≡ []
  gave_other k j differ (takes c max) own r = grind (arith, nat_tests)
  gave_other k j differ (feeds c piece) own r = refl
  gave_other k j differ (works c) own r = refl
  gave_other k j differ (loses c) own r = refl
  gave_other k j differ opens own r = refl
  gave_other k j differ (noops c) own r = refl

  -- calls on one connection take no byte of another
  pub taken_other : (k j : ℕ) → k ≢ j → (es : List Event) → AreOn k es → (r : Rest G) → bytes_taken answer welcomes j es r ≡ []
  taken_other k j differ [] own r = refl
  taken_other k j differ (e ∷ es) own r =
      ap (λ (l : List ℕ). l ++ bytes_taken answer welcomes j es (after_event answer welcomes e r)) (took_other k j differ e own.0 r) ∙ taken_other k j differ es own.1 (after_event answer welcomes e r)

  -- and give none
  pub given_other : (k j : ℕ) → k ≢ j → (es : List Event) → AreOn k es → (r : Rest G) → bytes_given answer welcomes j es r ≡ []
  given_other k j differ [] own r = refl
  given_other k j differ (e ∷ es) own r =
      ap (λ (l : List ℕ). l ++ bytes_given answer welcomes j es (after_event answer welcomes e r)) (gave_other k j differ e own.0 r) ∙ given_other k j differ es own.1 (after_event answer welcomes e r)

  -- a move of the connection itself
  pub along_own : {m a : ℕ} {ends : List End} {r s t : Rest G} {x y : Held} {w : Wire} {u v : ℕ → Wire} (calls : List Event) → after_events answer welcomes calls r ≡ s → Along answer welcomes x.conn calls r x w (u x.conn) → (p : Moves answer welcomes m a ends s t x y u v) → Along answer welcomes x.conn (calls ++ p.calls) r y w (v x.conn)
  along_own {r = r} {s = s} {x = x} {y = y} {w = w} {u = u} {v = v} calls e o p =
      let c = x.conn in
      let taken = bytes_taken answer welcomes c calls r in
      let more = bytes_taken answer welcomes c p.calls s in
      let given = bytes_given answer welcomes c calls r in
      let gives = bytes_given answer welcomes c p.calls s in
      record {
        read = o.read ++ p.read;
        sent = o.sent ++ p.sent;
        heard = Appends-trans w.heard (u c).heard (v c).heard o.read p.read o.heard p.heard;
        told = Appends-trans w.told (u c).told (v c).told o.sent p.sent o.told p.told;
        fed = ap (λ (l : List ℕ). l ++ p.read) o.fed ∙ append_assoc taken x.unfed p.read ∙ ap (λ (l : List ℕ). taken ++ l) p.fed ∙ sym (append_assoc taken more y.unfed) ∙ ap (λ (l : List ℕ). l ++ y.unfed) (sym (taken_both answer welcomes c calls p.calls r s e));
        given = given_both answer welcomes c calls p.calls r s e ∙ ap (λ (l : List ℕ). l ++ gives) o.given ∙ append_assoc o.sent x.going gives ∙ ap (λ (l : List ℕ). o.sent ++ l) p.given ∙ sym (append_assoc o.sent p.sent y.going);
      }

  -- a move of another
  pub along_other : {m a : ℕ} {ends : List End} {r s t : Rest G} {x y h : Held} {w : Wire} {u v : ℕ → Wire} (conn : ℕ) (calls : List Event) → x.conn ≢ conn → after_events answer welcomes calls r ≡ s → Along answer welcomes conn calls r h w (u conn) → (p : Moves answer welcomes m a ends s t x y u v) → Along answer welcomes conn (calls ++ p.calls) r h w (v conn)
  along_other {r = r} {s = s} {x = x} {h = h} {w = w} {u = u} {v = v} conn calls differ e o p =
      let taken : bytes_taken answer welcomes conn (calls ++ p.calls) r ≡ bytes_taken answer welcomes conn calls r = taken_both answer welcomes conn calls p.calls r s e ∙ ap (λ (l : List ℕ). bytes_taken answer welcomes conn calls r ++ l) (taken_other x.conn conn differ p.calls p.own s) ∙ append-nil _ in
      let given : bytes_given answer welcomes conn (calls ++ p.calls) r ≡ bytes_given answer welcomes conn calls r = given_both answer welcomes conn calls p.calls r s e ∙ ap (λ (l : List ℕ). bytes_given answer welcomes conn calls r ++ l) (given_other x.conn conn differ p.calls p.own s) ∙ append-nil _ in
      let same : v conn ≡ u conn = p.others conn (λ e. differ (sym e)) in
      record {
        read = o.read;
        sent = o.sent;
        heard = subst (λ (z : Wire). Appends w.heard z.heard o.read) (sym same) o.heard;
        told = subst (λ (z : Wire). Appends w.told z.told o.sent) (sym same) o.told;
        fed = o.fed ∙ ap (λ (l : List ℕ). l ++ h.unfed) (sym taken);
        given = given ∙ o.given;
      }

  -- a session was opened
  along_open : {r s : Rest G} {h : Held} {w v : Wire} (conn : ℕ) (calls : List Event) → after_events answer welcomes calls r ≡ s → Along answer welcomes conn calls r h w v → Along answer welcomes conn (calls ++ opens ∷ []) r h w v
  along_open {r = r} {s = s} {h = h} conn calls e o = record {
    read = o.read;
    sent = o.sent;
    heard = o.heard;
    told = o.told;
    fed = o.fed ∙ ap (λ (l : List ℕ). l ++ h.unfed) (sym (taken_both answer welcomes conn calls (opens ∷ []) r s e ∙ append-nil (bytes_taken answer welcomes conn calls r)));
    given = given_both answer welcomes conn calls (opens ∷ []) r s e ∙ append-nil (bytes_given answer welcomes conn calls r) ∙ o.given;
  }

  -- what is held of each connection has its number
  held_numbers : {r : Rest G} {before : ℕ → Wire} {calls : List Event} {s : Rest G} {held : ℕ → Held} {after : ℕ → Wire} → Turns answer welcomes r before calls s held after → (k : ℕ) → (held k).conn ≡ k
  held_numbers begins k = refl
  held_numbers (then_opens p) k = held_numbers p k
  held_numbers (then_moves {held = held} {new = new} conn p m) k = go (held_numbers p k) (k == new.conn) refl
    where
      go : (held k).conn ≡ k → (b : Bool) → (k == new.conn) ≡ b → (if b then new else held k).conn ≡ k
      go same true e = sym (eqb-true k new.conn e)
      go same false e = same

  pub turns_reach : {r : Rest G} {before : ℕ → Wire} {calls : List Event} {s : Rest G} {held : ℕ → Held} {after : ℕ → Wire} → Turns answer welcomes r before calls s held after → after_events answer welcomes calls r ≡ s
  turns_reach begins = refl
  turns_reach {r = r} (then_opens {calls = calls} {s = s} p) = after_both answer welcomes calls (opens ∷ []) r s (turns_reach p)
  turns_reach {r = r} (then_moves {calls = calls} {s = s} conn p m) = after_both answer welcomes calls m.calls r s (turns_reach p) ∙ m.reaches

  pub turns_along : {r : Rest G} {before : ℕ → Wire} {calls : List Event} {s : Rest G} {held : ℕ → Held} {after : ℕ → Wire} → Turns answer welcomes r before calls s held after → (k : ℕ) → Along answer welcomes k calls r (held k) (before k) (after k)
  turns_along {before = before} begins k = record {
    read = [];
    sent = [];
    heard = Appends-nil (before k).heard;
    told = Appends-nil (before k).told;
    fed = refl;
    given = refl;
  }
  turns_along (then_opens {calls = calls} p) k = along_open k calls (turns_reach p) (turns_along p k)
  turns_along {r = r} {before = before} {after = after} (then_moves {calls = calls} {s = s} {held = held} {mid = mid} {new = new} conn p m) k = go (turns_along p conn) (turns_along p k) (held_numbers p conn) (turns_reach p) (k == new.conn) refl
    where
      go : Along answer welcomes conn calls r (held conn) (before conn) (mid conn) → Along answer welcomes k calls r (held k) (before k) (mid k) → (held conn).conn ≡ conn → after_events answer welcomes calls r ≡ s → (b : Bool) → (k == new.conn) ≡ b
          → Along answer welcomes k (calls ++ m.calls) r (if b then new else held k) (before k) (after k)
      go own other number reached true e =
          let all : Along answer welcomes (held conn).conn (calls ++ m.calls) r new (before (held conn).conn) (after (held conn).conn) = along_own calls reached (subst (λ (j : ℕ). Along answer welcomes j calls r (held conn) (before j) (mid j)) (sym number) own) m in
          subst (λ (j : ℕ). Along answer welcomes j (calls ++ m.calls) r new (before j) (after j)) (sym (eqb-true k new.conn e ∙ m.same)) all
      go own other number reached false e = along_other k calls (λ d. eqb-false k new.conn e (sym (m.same ∙ d))) reached other m
