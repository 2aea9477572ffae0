-- Moves of a connection, one after the other.
use Rattle.std.proofs.Common.{◌≡◌, refl, sym, ap, subst, ◌∙◌, ℕ, ◌+◌, ◌≤◌, arith, length-append, List, [], ◌∷◌, ◌++◌, take, drop, append_assoc, append-nil, take-append-drop, Some, Result}
use Rattle.std.proofs.lemmas.Bool.{eq-eqb}
use Rattle.std.specs.Io.KnownBytes.{Appends}
use Rattle.std.proofs.KnownBytes.{Appends-nil, Appends-trans}
use Rattle.engine.specs.declared.answer.Mode.{Mode as QueryMode}
use Rattle.engine.specs.Prelude.{WriteView, ParameterView, EntryView, AnswerView, QueryFault, Welcome}
use Rattle.server_session.specs.declared.kinds.Worked.{Worked}
use Rattle.server.specs.declared.kinds.Took.{Took}
use Rattle.server.specs.Prelude.{Rest, Event, feeds, works, takes, loses, after_call, after_event, after_events, feed_at, work_at, take_out_at, took_by, used_of, bytes_taken}
use Rattle.server_event_loop.specs.ConnectionPrelude.{Wire, Held, End, out_of, gave_by, bytes_given, ends_by, ends_of, AreOn, Moves, Carries}

-- what came before and what comes next, in one
in_turn : (x a s y b t z : List ℕ) → x ++ a ≡ s ++ y → y ++ b ≡ t ++ z → x ++ (a ++ b) ≡ (s ++ t) ++ z
in_turn x a s y b t z p q = sym (append_assoc x a b) ∙ ap (λ l. l ++ b) p ∙ append_assoc s y b ∙ ap (λ l. s ++ l) q ∙ sym (append_assoc s t z)

on_both : (conn : ℕ) (es fs : List Event) → AreOn conn es → AreOn conn fs → AreOn conn (es ++ fs)
on_both conn [] fs p q = q
on_both conn (e ∷ es) fs p q = (p.0, on_both conn es fs p.1 q)

module _ {G : Type 0} (answer : List EntryView → List WriteView → List ℕ → List ParameterView → QueryMode → Result AnswerView QueryFault) (welcomes : G → Welcome) where
  pub after_both : (es fs : List Event) (r s : Rest G) → after_events answer welcomes es r ≡ s → after_events answer welcomes (es ++ fs) r ≡ after_events answer welcomes fs s
  after_both [] fs r s e = ap (after_events answer welcomes fs) e
  after_both (c ∷ es) fs r s e = after_both es fs (after_event answer welcomes c r) s e

  pub taken_both : (conn : ℕ) (es fs : List Event) (r s : Rest G) → after_events answer welcomes es r ≡ s → bytes_taken answer welcomes conn (es ++ fs) r ≡ bytes_taken answer welcomes conn es r ++ bytes_taken answer welcomes conn fs s
  taken_both conn [] fs r s e = ap (bytes_taken answer welcomes conn fs) e
  taken_both conn (c ∷ es) fs r s e =
      let t = after_event answer welcomes c r in
      ap (λ l. took_by conn c r ++ l) (taken_both conn es fs t s e) ∙ sym (append_assoc (took_by conn c r) (bytes_taken answer welcomes conn es t) (bytes_taken answer welcomes conn fs s))

  pub given_both : (conn : ℕ) (es fs : List Event) (r s : Rest G) → after_events answer welcomes es r ≡ s → bytes_given answer welcomes conn (es ++ fs) r ≡ bytes_given answer welcomes conn es r ++ bytes_given answer welcomes conn fs s
  given_both conn [] fs r s e = ap (bytes_given answer welcomes conn fs) e
  given_both conn (c ∷ es) fs r s e =
      let t = after_event answer welcomes c r in
      ap (λ l. gave_by conn c r ++ l) (given_both conn es fs t s e) ∙ sym (append_assoc (gave_by conn c r) (bytes_given answer welcomes conn es t) (bytes_given answer welcomes conn fs s))

  ends_both : (conn : ℕ) (es fs : List Event) (r s : Rest G) → after_events answer welcomes es r ≡ s → ends_of answer welcomes conn (es ++ fs) r ≡ ends_of answer welcomes conn es r ++ ends_of answer welcomes conn fs s
  ends_both conn [] fs r s e = ap (ends_of answer welcomes conn fs) e
  ends_both conn (c ∷ es) fs r s e =
      let t = after_event answer welcomes c r in
      ap (λ l. ends_by conn c r ++ l) (ends_both conn es fs t s e) ∙ sym (append_assoc (ends_by conn c r) (ends_of answer welcomes conn es t) (ends_of answer welcomes conn fs s))

  -- one move, and then another
  pub moves_then : {m n a b : ℕ} {ends : List End} {r s t : Rest G} {x y z : Held} {u v w : ℕ → Wire} → Moves answer welcomes m a [] r s x y u v → Moves answer welcomes n b ends s t y z v w → Moves answer welcomes (m + n) (a + b) ends r t x z u w
  moves_then {m = m} {n = n} {a = a} {b = b} {ends = ends} {r = r} {s = s} {t = t} {x = x} {y = y} {z = z} {u = u} {v = v} {w = w} p q =
      let c = x.conn in
      let e = p.same in
      let taken = bytes_taken answer welcomes c p.calls r in
      let given = bytes_given answer welcomes c p.calls r in
      let fed : y.unfed ++ q.read ≡ bytes_taken answer welcomes c q.calls s ++ z.unfed = subst (λ k. y.unfed ++ q.read ≡ bytes_taken answer welcomes k q.calls s ++ z.unfed) e q.fed in
      let gives : y.going ++ bytes_given answer welcomes c q.calls s ≡ q.sent ++ z.going = subst (λ k. y.going ++ bytes_given answer welcomes k q.calls s ≡ q.sent ++ z.going) e q.given in
      let asked : (w c).asked ≤ (v c).asked + b = subst (λ k. (w k).asked ≤ (v k).asked + b) e q.asked in
      record {
        calls = p.calls ++ q.calls;
        own = on_both c p.calls q.calls p.own (subst (λ k. AreOn k q.calls) e q.own);
        few = omega (arith, length-append p.calls q.calls, p.few, q.few);
        ended = ends_both c p.calls q.calls r s p.reaches ∙ ap (λ l. l ++ ends_of answer welcomes c q.calls s) p.ended ∙ subst (λ k. ends_of answer welcomes k q.calls s ≡ ends) e q.ended;
        reaches = after_both p.calls q.calls r s p.reaches ∙ q.reaches;
        read = p.read ++ q.read;
        sent = p.sent ++ q.sent;
        heard = Appends-trans (u c).heard (v c).heard (w c).heard p.read q.read p.heard (subst (λ k. Appends (v k).heard (w k).heard q.read) e q.heard);
        told = Appends-trans (u c).told (v c).told (w c).told p.sent q.sent p.told (subst (λ k. Appends (v k).told (w k).told q.sent) e q.told);
        asked = omega (arith, p.asked, asked);
        fed = in_turn x.unfed p.read taken y.unfed q.read (bytes_taken answer welcomes c q.calls s) z.unfed p.fed fed ∙ ap (λ l. l ++ z.unfed) (sym (taken_both c p.calls q.calls r s p.reaches));
        given = ap (λ l. x.going ++ l) (given_both c p.calls q.calls r s p.reaches) ∙ in_turn x.going given p.sent y.going (bytes_given answer welcomes c q.calls s) q.sent z.going p.given gives;
        same = q.same ∙ e;
        others = λ k d. q.others k (λ h. d (h ∙ e)) ∙ p.others k d;
      }

  -- the same with more room
  pub moves_within : {m a n b : ℕ} {ends : List End} {r s : Rest G} {x y : Held} {u v : ℕ → Wire} → Moves answer welcomes m a ends r s x y u v → m ≤ n → a ≤ b → Moves answer welcomes n b ends r s x y u v
  moves_within {x = x} {u = u} {v = v} p l k = record {
    calls = p.calls;
    own = p.own;
    few = omega (arith, p.few);
    ended = p.ended;
    reaches = p.reaches;
    read = p.read;
    sent = p.sent;
    heard = p.heard;
    told = p.told;
    asked = omega (arith, p.asked);
    fed = p.fed;
    given = p.given;
    same = p.same;
    others = p.others;
  }

  -- bytes came and went, and the server wasn't called
  pub moves_carried : {a : ℕ} (r : Rest G) {x y : Held} {u v : ℕ → Wire} → Carries a x y u v → Moves answer welcomes 0 a [] r r x y u v
  moves_carried r {x = x} c = record {
    calls = [];
    own = tt;
    few = omega arith;
    ended = refl;
    reaches = refl;
    read = c.read;
    sent = c.sent;
    heard = c.heard;
    told = c.told;
    asked = c.asked;
    fed = c.fed;
    given = append-nil x.going ∙ c.given;
    same = c.same;
    others = c.others;
  }

  -- nothing was done, or a call was refused
  pub moves_kept : (most : ℕ) (r s : Rest G) (x : Held) (u : ℕ → Wire) → s ≡ r → Moves answer welcomes most 0 [] r s x x u u
  moves_kept most r s x u e = record {
    calls = [];
    own = tt;
    few = omega arith;
    ended = refl;
    reaches = sym e;
    read = [];
    sent = [];
    heard = Appends-nil (u x.conn).heard;
    told = Appends-nil (u x.conn).told;
    asked = omega arith;
    fed = append-nil x.unfed;
    given = append-nil x.going;
    same = refl;
    others = λ k d. refl;
  }

  -- a step was worked
  pub moves_worked : (r s : Rest G) (x : Held) (worked : Worked) (u : ℕ → Wire) → work_at answer welcomes x.conn r ≡ Some (worked, s) → Moves answer welcomes 1 0 [] r s x x u u
  moves_worked r s x worked u e = record {
    calls = works x.conn ∷ [];
    own = (refl, tt);
    few = omega arith;
    ended = refl;
    reaches = ap (λ o. after_call o r) e;
    read = [];
    sent = [];
    heard = Appends-nil (u x.conn).heard;
    told = Appends-nil (u x.conn).told;
    asked = omega arith;
    fed = append-nil x.unfed;
    given = append-nil x.going;
    same = refl;
    others = λ k d. refl;
  }

  -- what is held was fed, and what was used of it isn't held any more
  pub moves_fed : (r s : Rest G) (x y : Held) (took : Took) (u : ℕ → Wire) → feed_at x.conn x.unfed r ≡ Some (took, s) → y.conn ≡ x.conn → y.unfed ≡ drop took.used x.unfed → y.going ≡ x.going → Moves answer welcomes 1 0 [] r s x y u u
  moves_fed r s x y took u e same left going =
      let front = take took.used x.unfed in
      let mine : took_by x.conn (feeds x.conn x.unfed) r ≡ front = rw (eq-eqb x.conn x.conn refl) (ap (used_of x.unfed) e) in
      record {
        calls = feeds x.conn x.unfed ∷ [];
        own = (refl, tt);
        few = omega arith;
        ended = refl;
        reaches = ap (λ o. after_call o r) e;
        read = [];
        sent = [];
        heard = Appends-nil (u x.conn).heard;
        told = Appends-nil (u x.conn).told;
        asked = omega arith;
        fed = append-nil x.unfed ∙ sym (take-append-drop took.used x.unfed) ∙ ap (λ l. front ++ l) (sym left) ∙ ap (λ l. l ++ y.unfed) (sym (append-nil (took_by x.conn (feeds x.conn x.unfed) r) ∙ mine));
        given = append-nil x.going ∙ sym going;
        same = same;
        others = λ k d. refl;
      }

  -- bytes were taken out, and are going behind what was
  pub moves_drawn : (max : ℕ) (r s : Rest G) (x y : Held) (bytes : List ℕ) (u : ℕ → Wire) → take_out_at x.conn max r ≡ Some (bytes, s) → y.conn ≡ x.conn → y.unfed ≡ x.unfed → y.going ≡ x.going ++ bytes → Moves answer welcomes 1 0 [] r s x y u u
  moves_drawn max r s x y bytes u e same left going =
      let mine : gave_by x.conn (takes x.conn max) r ≡ bytes = rw (eq-eqb x.conn x.conn refl) (ap out_of e) in
      record {
        calls = takes x.conn max ∷ [];
        own = (refl, tt);
        few = omega arith;
        ended = refl;
        reaches = ap (λ o. after_call o r) e;
        read = [];
        sent = [];
        heard = Appends-nil (u x.conn).heard;
        told = Appends-nil (u x.conn).told;
        asked = omega arith;
        fed = append-nil x.unfed ∙ sym left;
        given = ap (λ l. x.going ++ l) (append-nil (gave_by x.conn (takes x.conn max) r) ∙ mine) ∙ sym going;
        same = same;
        others = λ k d. refl;
      }

  -- the session was given up, and its end was so
  pub moves_lost : (r s : Rest G) (x : Held) (u : ℕ → Wire) (ends : List End) → after_event answer welcomes (loses x.conn) r ≡ s → ends_by x.conn (loses x.conn) r ≡ ends → Moves answer welcomes 1 0 ends r s x x u u
  moves_lost r s x u ends e h = record {
    calls = loses x.conn ∷ [];
    own = (refl, tt);
    few = omega arith;
    ended = append-nil (ends_by x.conn (loses x.conn) r) ∙ h;
    reaches = e;
    read = [];
    sent = [];
    heard = Appends-nil (u x.conn).heard;
    told = Appends-nil (u x.conn).told;
    asked = omega arith;
    fed = append-nil x.unfed;
    given = append-nil x.going;
    same = refl;
    others = λ k d. refl;
  }
