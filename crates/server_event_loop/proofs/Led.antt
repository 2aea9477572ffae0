-- From one standing of a server among its connections to the next.
use Rattle.std.proofs.Common.{◌≡◌, ◌<◌, ◌≤◌, ◌+◌, ◌==◌, if◌then◌else◌, refl, sym, ap, subst, ◌∙◌, ℕ, arith, length-append, Bool, true, false, List, [], ◌∷◌, ◌++◌, append_assoc, append-nil, IsSome, Option, None, Result}
use Rattle.std.specs.Io.KnownBytes.{Appends}
use Rattle.std.proofs.KnownBytes.{Appends-nil}
use Rattle.std.proofs.lemmas.Bool.{eqb-true}
use Rattle.std.specs.List.{AllByRecursion}
use Rattle.engine.specs.declared.answer.Mode.{Mode as QueryMode}
use Rattle.engine.specs.Prelude.{WriteView, ParameterView, EntryView, AnswerView, QueryFault, Welcome}
use Rattle.server.specs.Prelude.{Rest, Live, find, is_full, opened, Event, opens, after_event}
use Rattle.server.proofs.Runs.{find_other-push}
use Rattle.server_event_loop.specs.declared.closing.Closing.{Closing}
use Rattle.server_event_loop.specs.declared.line.Parting.{Parting}
use Rattle.server_event_loop.specs.ConnectionPrelude.{Wire, Held, End, Moves, Turns, then_opens, then_moves, holding, new_held, Lingers, owed_of}
use Rattle.server_event_loop.proofs.Apart.{turns_reach}
use Rattle.server_event_loop.proofs.Living.{moves_leave}
use Rattle.server_event_loop.specs.Prelude.{At, Told, Owed, Gone, gone_with, gone_of, closing_owed, seats_at, closings_at, IsLive, IsSeated, Tells, AreTold, TellsMore, Stands, Leads}
use Rattle.server_event_loop.proofs.Lists.{each_push, each_as, seats_push, closings_push, seats_apart, closings_apart, no_seats, no_closings, first_alone, holding_own, holding_other, holding_same, tells_none, tells_then, told_both}
use Rattle.server_event_loop.proofs.Calls.{found_pushed, moves_next, gone_own, gone_both, held_numbers}

-- a server among these connections
abbrev pub among : {G : Type 0} → List Held → List Owed → Rest G → (ℕ → Wire) → Option (List Told) → At G
among hs cs r w t = record { seats = hs; closings = cs; rest = r; wire = w; told = t }

module _ {G : Type 0} (answer : List EntryView → List WriteView → List ℕ → List ParameterView → QueryMode → Result AnswerView QueryFault) (welcomes : G → Welcome) where
  pub leads_none : (a : At G) → Leads answer welcomes 0 a a
  leads_none a = record {
    seated = λ s. s;
    from = λ r before earlier calls s st. ([], omega arith, subst (λ (es : List Event). Stands answer welcomes r before earlier es a) (sym (append-nil calls)) st);
  }

  pub leads_then : {m n : ℕ} {a b c : At G} → Leads answer welcomes m a b → Leads answer welcomes n b c → Leads answer welcomes (m + n) a c
  leads_then {m = m} {n = n} {c = c} p q = record {
    seated = λ s. q.seated (p.seated s);
    from = λ r before earlier calls s st.
        let x = p.from r before earlier calls s st in
        let y = q.from r before earlier (calls ++ x.0) (p.seated s) x.2 in
        (x.0 ++ y.0, omega (arith, length-append x.0 y.0, x.1, y.1), subst (λ (es : List Event). Stands answer welcomes r before earlier es c) (append_assoc calls x.0 y.0) y.2);
  }

  pub leads_within : {m n : ℕ} {a b : At G} → Leads answer welcomes m a b → m ≤ n → Leads answer welcomes n a b
  leads_within p l = record {
    seated = p.seated;
    from = λ r before earlier calls s st. let x = p.from r before earlier calls s st in (x.0, omega (arith, x.1, l), x.2);
  }

  -- a move of one connection, of which something is told
  stands_moved : {m asks : ℕ} {ends : List End} {r s : Rest G} {before : ℕ → Wire} {earlier : Option (List Told)} {calls : List Event} (a : At G) {y : Held} {v : ℕ → Wire} {told : Option (List Told)} (hs : List Held) (cs : List Owed) (conn : ℕ) (ts : List Told) (st : Stands answer welcomes r before earlier calls a)
      → (p : Moves answer welcomes m asks ends a.rest s (st.held conn) y a.wire v) → ((k : ℕ) → a.rest.next ≤ k → holding st.held y k ≡ st.held k)
      → AllByRecursion (λ h. holding st.held y h.conn ≡ h) hs → AllByRecursion (λ c. (holding st.held y c.conn).going ≡ c.bytes) cs
      → TellsMore a.told told ts → AreTold ts (gone_with conn ends)
      → Stands answer welcomes r before earlier (calls ++ p.calls) (among hs cs s v told)
  stands_moved {ends = ends} {r = r} {s = s} {earlier = earlier} {calls = calls} a {y = y} {told = told} hs cs conn ts st p far seats closings tells ends_told =
      let number : (st.held conn).conn ≡ conn = held_numbers answer welcomes st.turns conn in
      let next : s.next ≡ a.rest.next = moves_next answer welcomes p in
      let mine : gone_of answer welcomes p.calls a.rest ≡ gone_with conn ends = gone_own answer welcomes (st.held conn).conn p.calls a.rest p.own ∙ ap (λ (es : List End). gone_with (st.held conn).conn es) p.ended ∙ ap (λ (k : ℕ). gone_with k ends) number in
      record {
        held = holding st.held y;
        turns = then_moves conn st.turns p;
        seats = seats;
        closings = closings;
        untouched = λ k l. let low : a.rest.next ≤ k = omega (arith, next, l) in far k low ∙ st.untouched k low;
        made = st.made ++ ts;
        told = tells_then earlier a.told told st.made ts st.told tells;
        ends = subst (λ (gs : List Gone). AreTold (st.made ++ ts) gs) (sym (gone_both answer welcomes calls p.calls r a.rest (turns_reach answer welcomes st.turns) ∙ ap (λ (gs : List Gone). gone_of answer welcomes calls r ++ gs) mine)) (told_both st.made (gone_of answer welcomes calls r) ts (gone_with conn ends) st.ends ends_told);
      }

  -- nothing of those from the next number on was held anew
  far_from : (s : Rest G) (held : ℕ → Held) (y : Held) → y.conn < s.next → (k : ℕ) → s.next ≤ k → holding held y k ≡ held k
  far_from s held y below k l = holding_other held y k (λ e. absurd (omega (arith, below, l, e)))

  -- those of other numbers are as they were
  seats_other : (held : ℕ → Held) (y : Held) (hs : List Held) → seats_at y.conn hs ≡ 0 → AllByRecursion (λ h. held h.conn ≡ h) hs → AllByRecursion (λ h. holding held y h.conn ≡ h) hs
  seats_other held y hs none all = seats_apart (λ h. held h.conn ≡ h) (λ h. holding held y h.conn ≡ h) y.conn (λ h d e. holding_other held y h.conn d ∙ e) hs none all

  closings_other : (held : ℕ → Held) (y : Held) (cs : List Owed) → closings_at y.conn cs ≡ 0 → AllByRecursion (λ c. (held c.conn).going ≡ c.bytes) cs → AllByRecursion (λ c. (holding held y c.conn).going ≡ c.bytes) cs
  closings_other held y cs none all = closings_apart (λ c. (held c.conn).going ≡ c.bytes) (λ c. (holding held y c.conn).going ≡ c.bytes) y.conn (λ c d e. ap (λ (x : Held). x.going) (holding_other held y c.conn d) ∙ e) cs none all

  -- the first has its number alone
  alone_seat : {r : Rest G} {w : ℕ → Wire} {t : Option (List Told)} (h : Held) (hs : List Held) (cs : List Owed) → IsSeated (among (h ∷ hs) cs r w t) → (seats_at h.conn hs ≡ 0) × (closings_at h.conn cs ≡ 0)
  alone_seat h hs cs s =
      let l = s.once h.conn in
      let e : seats_at h.conn hs + closings_at h.conn cs ≡ 0 = first_alone h.conn (seats_at h.conn hs + closings_at h.conn cs) (omega (arith, l)) in
      (omega (arith, e), omega (arith, e))

  alone_closing : {r : Rest G} {w : ℕ → Wire} {t : Option (List Told)} (c : Owed) (hs : List Held) (cs : List Owed) → IsSeated (among hs (c ∷ cs) r w t) → (seats_at c.conn hs ≡ 0) × (closings_at c.conn cs ≡ 0)
  alone_closing c hs cs s =
      let l = s.once c.conn in
      let e : seats_at c.conn hs + closings_at c.conn cs ≡ 0 = first_alone c.conn (seats_at c.conn hs + closings_at c.conn cs) (omega (arith, l)) in
      (omega (arith, e), omega (arith, e))

  -- others live on
  others_live : {m asks : ℕ} {ends : List End} {r s : Rest G} {x y : Held} {u v : ℕ → Wire} → Moves answer welcomes m asks ends r s x y u v → (hs : List Held) → seats_at x.conn hs ≡ 0 → AllByRecursion (IsLive r) hs → AllByRecursion (IsLive s) hs
  others_live {r = r} {s = s} {x = x} p hs none all =
      seats_apart (IsLive r) (IsLive s) x.conn
      (λ h d l. record { below = subst (λ (n : ℕ). h.conn < n) (sym (moves_next answer welcomes p)) l.below; lives = subst (λ (o : Option Live). IsSome o) (sym (moves_leave answer welcomes p h.conn d)) l.lives }) hs none all

  below_moved : {m asks : ℕ} {ends : List End} {r s : Rest G} {x y : Held} {u v : ℕ → Wire} → Moves answer welcomes m asks ends r s x y u v → (cs : List Owed) → AllByRecursion (λ c. c.conn < r.next) cs → AllByRecursion (λ c. c.conn < s.next) cs
  below_moved {r = r} {s = s} p cs all = each_as (λ c. c.conn < r.next) (λ c. c.conn < s.next) (λ c l. subst (λ (n : ℕ). c.conn < n) (sym (moves_next answer welcomes p)) l) cs all

  unused_moved : {m asks : ℕ} {ends : List End} {r s : Rest G} {x y : Held} {u v : ℕ → Wire} → Moves answer welcomes m asks ends r s x y u v → x.conn < r.next → ((k : ℕ) → r.next ≤ k → find k r.sessions ≡ None) → (k : ℕ) → s.next ≤ k → find k s.sessions ≡ None
  unused_moved {r = r} {s = s} {x = x} p below unused k l =
      let low : r.next ≤ k = subst (λ (n : ℕ). n ≤ k) (moves_next answer welcomes p) l in
      moves_leave answer welcomes p k (λ e. absurd (omega (arith, below, low, e))) ∙ unused k low

  -- a turn of the first
  pub leads_turned : {m asks : ℕ} {r s : Rest G} {u v : ℕ → Wire} {t : Option (List Told)} (h y : Held) (hs : List Held) (cs : List Owed) → Moves answer welcomes m asks [] r s h y u v → IsSome (find h.conn s.sessions) → Leads answer welcomes m (among (h ∷ hs) cs r u t) (among (y ∷ hs) cs s v t)
  leads_turned {m = m} {asks = asks} {r = r} {s = s} {u = u} {v = v} {t = t} h y hs cs p lives = record {
    seated = λ q. let alone = alone_seat h hs cs q in record {
      once = λ k. subst (λ (n : ℕ). (if n == k then 1 else 0) + seats_at k hs + closings_at k cs ≤ 1) (sym p.same) (q.once k);
      seats = (record { below = subst (λ (n : ℕ). n < s.next) (sym p.same) (subst (λ (n : ℕ). h.conn < n) (sym (moves_next answer welcomes p)) q.seats.0.below); lives = subst (λ (n : ℕ). IsSome (find n s.sessions)) (sym p.same) lives }, others_live p hs alone.0 q.seats.1);
      closings = below_moved p cs q.closings;
      unused = unused_moved p q.seats.0.below q.unused;
    };
    from = λ w before earlier calls q st.
        let alone = alone_seat h hs cs q in
        let mine : Moves answer welcomes m asks [] r s (st.held h.conn) y u v = subst (λ (x : Held). Moves answer welcomes m asks [] r s x y u v) (sym st.seats.0) p in
        let low : y.conn < r.next = subst (λ (n : ℕ). n < r.next) (sym p.same) q.seats.0.below in (
          mine.calls,
          mine.few,
          stands_moved (among (h ∷ hs) cs r u t) (y ∷ hs) cs h.conn [] st mine (far_from r st.held y low)
              (holding_own st.held y y.conn refl, seats_other st.held y hs (subst (λ (n : ℕ). seats_at n hs ≡ 0) (sym p.same) alone.0) st.seats.1)
              (closings_other st.held y cs (subst (λ (n : ℕ). closings_at n cs ≡ 0) (sym p.same) alone.1) st.closings) (tells_none t) tt,
        );
  }

  -- the session of the first was given up, and that is told
  pub leads_parted : {m asks : ℕ} {r s : Rest G} {u v : ℕ → Wire} {t told : Option (List Told)} {e : End} (parting : Parting) (h y : Held) (hs : List Held) (cs : List Owed) → Moves answer welcomes m asks (e ∷ []) r s h y u v → Tells parting e → TellsMore t told (record { conn = h.conn; parting = parting } ∷ []) → Leads answer welcomes m (among (h ∷ hs) cs r u t) (among hs (record { conn = h.conn; bytes = y.going } ∷ cs) s v told)
  leads_parted {m = m} {asks = asks} {r = r} {s = s} {u = u} {v = v} {t = t} {told = told} {e = e} parting h y hs cs p is tells = record {
    seated = λ q. let alone = alone_seat h hs cs q in record {
      once = λ k. let l = q.once k in omega (arith, l);
      seats = others_live p hs alone.0 q.seats.1;
      closings = (subst (λ (n : ℕ). h.conn < n) (sym (moves_next answer welcomes p)) q.seats.0.below, below_moved p cs q.closings);
      unused = unused_moved p q.seats.0.below q.unused;
    };
    from = λ w before earlier calls q st.
        let alone = alone_seat h hs cs q in
        let mine : Moves answer welcomes m asks (e ∷ []) r s (st.held h.conn) y u v = subst (λ (x : Held). Moves answer welcomes m asks (e ∷ []) r s x y u v) (sym st.seats.0) p in
        let low : y.conn < r.next = subst (λ (n : ℕ). n < r.next) (sym p.same) q.seats.0.below in (
          mine.calls,
          mine.few,
          stands_moved (among (h ∷ hs) cs r u t) hs (record { conn = h.conn; bytes = y.going } ∷ cs) h.conn (record { conn = h.conn; parting = parting } ∷ []) st mine (far_from r st.held y low)
              (seats_other st.held y hs (subst (λ (n : ℕ). seats_at n hs ≡ 0) (sym p.same) alone.0) st.seats.1)
              (ap (λ (x : Held). x.going) (holding_own st.held y h.conn (sym p.same)), closings_other st.held y cs (subst (λ (n : ℕ). closings_at n cs ≡ 0) (sym p.same) alone.1) st.closings) tells (refl, is, tt),
        );
  }

  -- bytes of a connection whose session was given up, as a move without a call
  lingers_moves : (r : Rest G) (x : Held) (c d : Closing) {u v : ℕ → Wire} → x.conn ≡ c.conn → x.going ≡ owed_of c → (l : Lingers c d u v) → Moves answer welcomes 0 1 [] r r x (record { conn = x.conn; unfed = x.unfed ++ l.dropped; going = owed_of d }) u v
  lingers_moves r x c d {u = u} {v = v} e going l = record {
    calls = [];
    own = tt;
    few = omega arith;
    ended = refl;
    reaches = refl;
    read = l.dropped;
    sent = l.sent;
    heard = subst (λ (k : ℕ). Appends (u k).heard (v k).heard l.dropped) (sym e) l.heard;
    told = subst (λ (k : ℕ). Appends (u k).told (v k).told l.sent) (sym e) l.told;
    asked = subst (λ (k : ℕ). (v k).asked ≤ (u k).asked + 1) (sym e) l.asked;
    fed = refl;
    given = append-nil x.going ∙ going ∙ l.given;
    same = refl;
    others = λ k differ. l.others k (λ f. differ (f ∙ sym e));
  }

  -- a turn of the first whose session was given up
  pub leads_lingered : {r : Rest G} {u v : ℕ → Wire} {t : Option (List Told)} (c d : Closing) (hs : List Held) (cs : List Owed) → Lingers c d u v → Leads answer welcomes 0 (among hs (closing_owed c ∷ cs) r u t) (among hs (closing_owed d ∷ cs) r v t)
  leads_lingered {r = r} {u = u} {v = v} {t = t} c d hs cs l = record {
    seated = λ q. record {
      once = λ k. subst (λ (n : ℕ). seats_at k hs + ((if n == k then 1 else 0) + closings_at k cs) ≤ 1) (sym l.same) (q.once k);
      seats = q.seats;
      closings = (subst (λ (n : ℕ). n < r.next) (sym l.same) q.closings.0, q.closings.1);
      unused = q.unused;
    };
    from = λ w before earlier calls q st.
        let alone = alone_closing (closing_owed c) hs cs q in
        let x = st.held c.conn in
        let number : x.conn ≡ c.conn = held_numbers answer welcomes st.turns c.conn in
        let y : Held = record { conn = x.conn; unfed = x.unfed ++ l.dropped; going = owed_of d } in
        let p = lingers_moves r x c d number st.closings.0 l in (
          p.calls,
          p.few,
          stands_moved (among hs (closing_owed c ∷ cs) r u t) hs (closing_owed d ∷ cs) c.conn [] st p (far_from r st.held y (subst (λ (n : ℕ). n < r.next) (sym number) q.closings.0))
              (seats_other st.held y hs (subst (λ (n : ℕ). seats_at n hs ≡ 0) (sym number) alone.0) st.seats)
              (ap (λ (z : Held). z.going) (holding_own st.held y d.conn (l.same ∙ sym number)), closings_other st.held y cs (subst (λ (n : ℕ). closings_at n cs ≡ 0) (sym number) alone.1) st.closings.1) (tells_none t) tt,
        );
  }

  -- the first whose session was given up is closed
  pub leads_closed : {r : Rest G} {u : ℕ → Wire} {t : Option (List Told)} (c : Owed) (hs : List Held) (cs : List Owed) → Leads answer welcomes 0 (among hs (c ∷ cs) r u t) (among hs cs r u t)
  leads_closed {r = r} {u = u} {t = t} c hs cs = record {
    seated = λ q. record {
      once = λ k. let l = q.once k in omega (arith, l);
      seats = q.seats;
      closings = q.closings.1;
      unused = q.unused;
    };
    from = λ w before earlier calls q st. (
      [],
      omega arith,
      subst (λ (es : List Event). Stands answer welcomes w before earlier es (among hs cs r u t)) (sym (append-nil calls)) (record {
        held = st.held;
        turns = st.turns;
        seats = st.seats;
        closings = st.closings.1;
        untouched = st.untouched;
        made = st.made;
        told = st.told;
        ends = st.ends;
      }),
    );
  }

  -- the first is the last then
  pub leads_back : {r : Rest G} {u : ℕ → Wire} {t : Option (List Told)} (h : Held) (hs : List Held) (cs : List Owed) → Leads answer welcomes 0 (among (h ∷ hs) cs r u t) (among (hs ++ h ∷ []) cs r u t)
  leads_back {r = r} {u = u} {t = t} h hs cs = record {
    seated = λ q. record {
      once = λ k. let l = q.once k in let e = seats_push k hs h in omega (arith, l, e);
      seats = each_push (IsLive r) hs h q.seats.1 q.seats.0;
      closings = q.closings;
      unused = q.unused;
    };
    from = λ w before earlier calls q st. (
      [],
      omega arith,
      subst (λ (es : List Event). Stands answer welcomes w before earlier es (among (hs ++ h ∷ []) cs r u t)) (sym (append-nil calls)) (record {
        held = st.held;
        turns = st.turns;
        seats = each_push (λ x. st.held x.conn ≡ x) hs h st.seats.1 st.seats.0;
        closings = st.closings;
        untouched = st.untouched;
        made = st.made;
        told = st.told;
        ends = st.ends;
      }),
    );
  }

  pub leads_behind : {r : Rest G} {u : ℕ → Wire} {t : Option (List Told)} (c : Owed) (hs : List Held) (cs : List Owed) → Leads answer welcomes 0 (among hs (c ∷ cs) r u t) (among hs (cs ++ c ∷ []) r u t)
  leads_behind {r = r} {u = u} {t = t} c hs cs = record {
    seated = λ q. record {
      once = λ k. let l = q.once k in let e = closings_push k cs c in omega (arith, l, e);
      seats = q.seats;
      closings = each_push (λ x. x.conn < r.next) cs c q.closings.1 q.closings.0;
      unused = q.unused;
    };
    from = λ w before earlier calls q st. (
      [],
      omega arith,
      subst (λ (es : List Event). Stands answer welcomes w before earlier es (among hs (cs ++ c ∷ []) r u t)) (sym (append-nil calls)) (record {
        held = st.held;
        turns = st.turns;
        seats = st.seats;
        closings = each_push (λ x. (st.held x.conn).going ≡ x.bytes) cs c st.closings.1 st.closings.0;
        untouched = st.untouched;
        made = st.made;
        told = st.told;
        ends = st.ends;
      }),
    );
  }

  -- no byte moves
  pub leads_heard : {r : Rest G} {u v : ℕ → Wire} {t : Option (List Told)} (hs : List Held) (cs : List Owed) → ((k : ℕ) → v k ≡ u k) → Leads answer welcomes 0 (among hs cs r u t) (among hs cs r v t)
  leads_heard {r = r} {u = u} {v = v} {t = t} hs cs same = record {
    seated = λ q. record { once = q.once; seats = q.seats; closings = q.closings; unused = q.unused };
    from = λ w before earlier calls q st.
        let x = st.held 0 in
        let number : x.conn ≡ 0 = held_numbers answer welcomes st.turns 0 in
        let kept : (k : ℕ) → holding st.held x k ≡ st.held k = holding_same st.held 0 number in
        let p : Moves answer welcomes 0 0 [] r r x x u v = record {
          calls = [];
          own = tt;
          few = omega arith;
          ended = refl;
          reaches = refl;
          read = [];
          sent = [];
          heard = subst (λ (z : Wire). Appends (u x.conn).heard z.heard []) (sym (same x.conn)) (Appends-nil (u x.conn).heard);
          told = subst (λ (z : Wire). Appends (u x.conn).told z.told []) (sym (same x.conn)) (Appends-nil (u x.conn).told);
          asked = subst (λ (z : Wire). z.asked ≤ (u x.conn).asked + 0) (sym (same x.conn)) (omega arith);
          fed = append-nil x.unfed;
          given = append-nil x.going;
          same = refl;
          others = λ k d. same k;
        } in (
          p.calls,
          p.few,
          stands_moved (among hs cs r u t) hs cs 0 [] st p (λ k l. kept k)
              (each_as (λ h. st.held h.conn ≡ h) (λ h. holding st.held x h.conn ≡ h) (λ h e. kept h.conn ∙ e) hs st.seats)
              (each_as (λ c. (st.held c.conn).going ≡ c.bytes) (λ c. (holding st.held x c.conn).going ≡ c.bytes) (λ c e. ap (λ (z : Held). z.going) (kept c.conn) ∙ e) cs st.closings) (tells_none t) tt,
        );
  }

  -- a session is opened
  pub leads_opened : {r : Rest G} {u : ℕ → Wire} {t : Option (List Told)} (hs : List Held) (cs : List Owed) → is_full r ≡ false → Leads answer welcomes 1 (among hs cs r u t) (among (new_held r.next ∷ hs) cs (opened r) u t)
  leads_opened {r = r} {u = u} {t = t} hs cs room =
      let is : after_event answer welcomes opens r ≡ opened r = rw room refl in
      record {
        seated = λ q.
            let none = no_seats (IsLive r) r.next (λ h l. l.below) hs q.seats in
            let nor = no_closings r.next cs q.closings in
            record {
              once = λ k. go k none nor (q.once k) (r.next == k) refl;
              seats = (
                record { below = omega arith; lives = found_pushed r.next r.sessions },
                each_as (IsLive r) (IsLive (opened r)) (λ h l. record {
                  below = omega (arith, l.below);
                  lives = subst (λ (o : Option Live). IsSome o) (sym (find_other-push h.conn r.next r.sessions (λ e. absurd (omega (arith, l.below, e))))) l.lives;
                }) hs q.seats,
              );
              closings = each_as (λ c. c.conn < r.next) (λ c. c.conn < r.next + 1) (λ c l. omega (arith, l)) cs q.closings;
              unused = λ k l. find_other-push k r.next r.sessions (λ e. absurd (omega (arith, l, e))) ∙ q.unused k (omega (arith, l));
            };
        from = λ w before earlier calls q st. (
          opens ∷ [],
          omega arith,
          record {
            held = st.held;
            turns = subst (λ (s : Rest G). Turns answer welcomes w before (calls ++ opens ∷ []) s st.held u) is (then_opens st.turns);
            seats = (st.untouched r.next (omega arith), st.seats);
            closings = st.closings;
            untouched = λ k l. st.untouched k (omega (arith, l));
            made = st.made;
            told = st.told;
            ends = subst (λ (gs : List Gone). AreTold st.made gs) (sym (gone_both answer welcomes calls (opens ∷ []) w r (turns_reach answer welcomes st.turns) ∙ append-nil (gone_of answer welcomes calls w))) st.ends;
          },
        );
      }
    where
      go : (k : ℕ) → seats_at r.next hs ≡ 0 → closings_at r.next cs ≡ 0 → seats_at k hs + closings_at k cs ≤ 1 → (b : Bool) → (r.next == k) ≡ b → (if b then 1 else 0) + seats_at k hs + closings_at k cs ≤ 1
      go k none nor l true e = let same = eqb-true r.next k e in let n = subst (λ (j : ℕ). seats_at j hs ≡ 0) same none in let c = subst (λ (j : ℕ). closings_at j cs ≡ 0) same nor in omega (arith, n, c)
      go k none nor l false e = omega (arith, l)
