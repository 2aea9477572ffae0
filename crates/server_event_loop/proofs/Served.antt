-- What is done with one connection, and with a list of them in turn.
use Rattle.std.proofs.Common.{◌≡◌, ◌⊎◌, inl, inr, ◌<◌, ◌≤◌, ◌+◌, ◌-◌, ◌*◌, add-one, refl, sym, ap, subst, ◌∙◌, ℕ, arith, length, true, List, [], ◌∷◌, ◌++◌, map, append_assoc, IsSome, Option, Some, None, Result, Ok, Err}
use Rattle.std.proofs.Math.Nat.{suc-mul, mul-le-mul_right}
use Rattle.std.specs.Prelude.{unwrap_or}
use Rattle.std.specs.List.{AllByRecursion}
use Rattle.std.proofs.lemmas.Bool.{eq-eqb}
use Rattle.std.proofs.lemmas.List.{map_push}
use Rattle.engine.specs.declared.answer.Mode.{Mode as QueryMode}
use Rattle.engine.specs.Prelude.{WriteView, ParameterView, EntryView, AnswerView, QueryFault, Welcome}
use Rattle.server_session.specs.declared.kinds.Cause.{Cause}
use Rattle.server_session.specs.declared.kinds.Cause.TheVariants as cause
use Rattle.server.specs.Prelude.{Rest, Live, find, fresh, opened, lost_at, cause_or, Opens, loses}
use Rattle.server_event_loop.specs.declared.closing.Closing.{Closing}
use Rattle.server_event_loop.specs.declared.limits.Limits.{Limits}
use Rattle.server_event_loop.specs.declared.line.Parting.{Parting}
use Rattle.server_event_loop.specs.declared.line.Parting.TheVariants.{Whole, Cut}
use Rattle.server_event_loop.specs.ConnectionPrelude.{Wire, Held, end_of, ends_by, Moves, new_held, with_going, Parts, seat_held}
use Rattle.server_event_loop.specs.declared.seat.Seat.{Seat}
use Rattle.server.specs.declared.kinds.Refused.{Refused}
use Rattle.server.specs.declared.kinds.Refused.TheVariants as refused
use Rattle.server_event_loop.proofs.Moved.{moves_lost}
use Rattle.server_event_loop.proofs.Living.{moves_live}
use Rattle.server_event_loop.specs.Prelude.{Told, Owed, closing_owed, IsSeated, TellsMore, Leads, Ends, Fades, nobody, turned, closed, remains}
use Rattle.server_event_loop.proofs.Lists.{each_push}
use Rattle.server_event_loop.proofs.Calls.{found_new, found_pushed}
use Rattle.server_event_loop.proofs.Led.{among, leads_then, leads_within, leads_turned, leads_parted, leads_lingered, leads_closed, leads_back, leads_behind, leads_heard, leads_opened}

-- a list of which so many at most are still to have their turn, and this holds of the others
pub record InTurn {A : Type 0} (P : A → Type 0) (left : ℕ) (items : List A) : Type 0 where
  pub todo : List A
  pub done : List A
  pub is : items ≡ todo ++ done
  pub all : AllByRecursion P done
  pub few : length todo ≤ left

pub turns_begin : {A : Type 0} (P : A → Type 0) (left : ℕ) (items : List A) → length items ≤ left → InTurn P left items
turns_begin P left items l = record { todo = items; done = []; is = sym (append_nil_of items); all = tt; few = l }
  where
    append_nil_of : {A : Type 0} (xs : List A) → xs ++ [] ≡ xs
    append_nil_of [] = refl
    append_nil_of (x ∷ xs) = ap (λ l. x ∷ l) (append_nil_of xs)

-- the first had its turn, and is the last then or has gone
pub one_turn : {A : Type 0} (P : A → Type 0) (left : ℕ) (items : List A) (x : A) (rest new : List A) → InTurn P (left + 1) items → items ≡ x ∷ rest → (new ≡ rest) ⊎ ((y : A) × P y × (new ≡ rest ++ y ∷ [])) → InTurn P left new
one_turn {A = A} P left items x rest new t e next = go t.todo t.few (sym e ∙ t.is) next
  where
    tail_of : List A → List A
    tail_of [] = []
    tail_of (y ∷ ys) = ys

    go : (todo : List A) → length todo ≤ left + 1 → x ∷ rest ≡ todo ++ t.done → (new ≡ rest) ⊎ ((y : A) × P y × (new ≡ rest ++ y ∷ [])) → InTurn P left new
    go [] l is (inl same) = record { todo = []; done = new; is = refl; all = subst (λ (xs : List A). AllByRecursion P xs) (sym same) (subst (λ (xs : List A). AllByRecursion P xs) (sym is) t.all).1; few = omega arith }
    go [] l is (inr last) = record { todo = []; done = new; is = refl; all = subst (λ (xs : List A). AllByRecursion P xs) (sym last.2) (each_push P rest last.0 (subst (λ (xs : List A). AllByRecursion P xs) (sym is) t.all).1 last.1); few = omega arith }
    go (z ∷ todo) l is (inl same) = record { todo = todo; done = t.done; is = same ∙ ap tail_of is; all = t.all; few = omega (arith, l) }
    go (z ∷ todo) l is (inr last) = record { todo = todo; done = t.done ++ last.0 ∷ []; is = last.2 ∙ ap (λ (xs : List A). xs ++ last.0 ∷ []) (ap tail_of is) ∙ append_assoc todo t.done (last.0 ∷ []); all = each_push P t.done last.0 t.all last.1; few = omega (arith, l) }

-- one is still to have its turn
pub in_turn_left : {A : Type 0} (P : A → Type 0) (count made : ℕ) (items : List A) → made < count → InTurn P (count - made) items → InTurn P (count - (made + 1) + 1) items
in_turn_left P count made items l t = record { todo = t.todo; done = t.done; is = t.is; all = t.all; few = omega (arith, l, t.few) }

pub faded_turn : (limits : Limits) (now left : ℕ) (cs ds : List Closing) {u v : ℕ → Wire} → InTurn (λ c. remains limits now c ≡ true) (left + 1) cs → Fades limits now cs ds u v → InTurn (λ c. remains limits now c ≡ true) left ds
faded_turn limits now left cs ds t (nobody a b same) = subst (λ (xs : List Closing). InTurn (λ c. remains limits now c ≡ true) left xs) (sym b) (record { todo = []; done = []; is = refl; all = tt; few = omega arith })
faded_turn limits now left cs ds t (turned c d rest a b l on) = one_turn (λ c. remains limits now c ≡ true) left cs c rest ds t a (inr (d, on, b))
faded_turn limits now left cs ds t (closed c d w a l same on) = one_turn (λ c. remains limits now c ≡ true) left cs c ds ds t a (inl refl)

-- the calls of one turn more
pub times_more : (made n : ℕ) → made * n + n ≤ (made + 1) * n
times_more made n = let e : (made + 1) * n ≡ made * n + n = ap (λ (k : ℕ). k * n) (add-one made) ∙ suc-mul made n in omega (arith, e)

-- of turns that are not all
pub times_within : (made most n : ℕ) → made ≤ most → made * n ≤ most * n
times_within made most n l = mul-le-mul_right n l

pub seats_grown : (items new : List Seat) (seat : Seat) → new ≡ items ++ seat ∷ [] → map seat_held new ≡ map seat_held items ++ seat_held seat ∷ []
seats_grown items new seat e = ap (λ (xs : List Seat). map seat_held xs) e ∙ map_push seat_held items seat

pub not_opened : {G : Type 0} (e : Refused) (r s : Rest G) → Opens (Err e) r s → s ≡ r
not_opened refused.NoSuchConnection r s o = absurd o
not_opened refused.SessionsFull r s o = o.1
not_opened refused.Memory r s o = o.1

module _ {G : Type 0} (answer : List EntryView → List WriteView → List ℕ → List ParameterView → QueryMode → Result AnswerView QueryFault) (welcomes : G → Welcome) where
  -- the guest was sent away
  pub leads_refused : {r s : Rest G} {u v : ℕ → Wire} {t : Option (List Told)} (hs : List Held) (cs : List Owed) → s ≡ r → ((k : ℕ) → v k ≡ u k) → Leads answer welcomes 3 (among hs cs r u t) (among hs cs s v t)
  leads_refused {r = r} {u = u} {v = v} {t = t} hs cs e same = subst (λ (x : Rest G). Leads answer welcomes 3 (among hs cs r u t) (among hs cs x v t)) (sym e) (leads_within answer welcomes (leads_heard answer welcomes hs cs same) (omega arith))

  -- a session was opened for the guest, which has a seat
  leads_guest : {r s : Rest G} {u v : ℕ → Wire} {t : Option (List Told)} (conn : ℕ) (h : Held) (hs : List Held) (cs : List Owed) → Opens (Ok conn) r s → h ≡ new_held conn → ((k : ℕ) → v k ≡ u k) → Leads answer welcomes 1 (among hs cs r u t) (among (h ∷ hs) cs s v t)
  leads_guest {r = r} {s = s} {u = u} {v = v} {t = t} conn h hs cs o e same =
      let is : new_held r.next ≡ h = ap new_held (sym o.1) ∙ sym e in
      subst (λ (x : Held). Leads answer welcomes 1 (among hs cs r u t) (among (x ∷ hs) cs s v t)) is
      (subst (λ (x : Rest G). Leads answer welcomes 1 (among hs cs r u t) (among (new_held r.next ∷ hs) cs x v t)) (sym o.2)
      (leads_within answer welcomes (leads_then answer welcomes (leads_opened answer welcomes hs cs o.0) (leads_heard answer welcomes (new_held r.next ∷ hs) cs same)) (omega arith)))

  pub leads_let_in : {r s : Rest G} {u v : ℕ → Wire} {t : Option (List Told)} (conn : ℕ) (seat : Seat) (items new : List Seat) (cs : List Owed) → Opens (Ok conn) r s → seat_held seat ≡ new_held conn → ((k : ℕ) → v k ≡ u k) → new ≡ items ++ seat ∷ []
      → Leads answer welcomes 3 (among (map seat_held items) cs r u t) (among (map seat_held new) cs s v t)
  leads_let_in {r = r} {s = s} {u = u} {v = v} {t = t} conn seat items new cs o e same grown =
      subst (λ (xs : List Held). Leads answer welcomes 3 (among (map seat_held items) cs r u t) (among xs cs s v t)) (sym (seats_grown items new seat grown))
      (leads_within answer welcomes (leads_then answer welcomes (leads_guest conn (seat_held seat) (map seat_held items) cs o e same) (leads_back answer welcomes (seat_held seat) (map seat_held items) cs)) (omega arith))

  -- the session of a guest lives
  pub guest_lives : (r s : Rest G) (conn : ℕ) (h : Held) → Opens (Ok conn) r s → h ≡ new_held conn → IsSome (find h.conn s.sessions)
  guest_lives r s conn h o e =
      let number : h.conn ≡ r.next = ap (λ (x : Held). x.conn) e ∙ o.1 in
      subst (λ (k : ℕ). IsSome (find k s.sessions)) (sym number) (subst (λ (x : Rest G). IsSome (find r.next x.sessions)) (sym o.2) (found_pushed r.next r.sessions))

  -- the session of the first was given up, and what is owed is the first of what is owed
  leads_given : {r s : Rest G} {u : ℕ → Wire} {t told : Option (List Told)} (parting : Parting) (h : Held) (owed : List ℕ) (hs : List Held) (cs : List Owed) → Parts answer welcomes parting r s h owed u → TellsMore t told (record { conn = h.conn; parting = parting } ∷ []) → Leads answer welcomes 2 (among (h ∷ hs) cs r u t) (among hs (record { conn = h.conn; bytes = owed } ∷ cs) s u told)
  leads_given (Whole cause) h owed hs cs p tells = leads_parted answer welcomes (Whole cause) h (with_going owed h) hs cs p refl tells
  leads_given (Cut cause) h owed hs cs p tells = leads_parted answer welcomes (Cut cause) h (with_going owed h) hs cs p.2 (p.0, p.1, refl) tells

  -- the guest had no seat, and its session was given up
  pub leads_seatless : {r s after : Rest G} {u v : ℕ → Wire} {t told : Option (List Told)} (conn : ℕ) (parting : Parting) (h : Held) (owed : List ℕ) (hs : List Held) (cs : List Owed) → Opens (Ok conn) r s → h ≡ new_held conn → ((k : ℕ) → v k ≡ u k) → Parts answer welcomes parting s after h owed v → TellsMore t told (record { conn = conn; parting = parting } ∷ []) → Leads answer welcomes 3 (among hs cs r u t) (among hs cs after v told)
  leads_seatless {t = t} {told = told} conn parting h owed hs cs o e same p tells =
      let number : h.conn ≡ conn = ap (λ (x : Held). x.conn) e in
      let mine : TellsMore t told (record { conn = h.conn; parting = parting } ∷ []) = subst (λ (k : ℕ). TellsMore t told (record { conn = k; parting = parting } ∷ [])) (sym number) tells in
      leads_within answer welcomes (leads_then answer welcomes (leads_guest conn h hs cs o e same) (leads_then answer welcomes (leads_given parting h owed hs cs p mine) (leads_closed answer welcomes (record { conn = h.conn; bytes = owed }) hs cs))) (omega arith)

  -- there was no memory for a seat
  pub leads_memory : {r s after : Rest G} {u v : ℕ → Wire} {t told : Option (List Told)} (conn : ℕ) (was : Option Cause) (now : Cause) (hs : List Held) (cs : List Owed) → IsSeated (among hs cs r u t) → Opens (Ok conn) r s → ((k : ℕ) → v k ≡ u k) → lost_at conn s ≡ (was, after) → now ≡ unwrap_or was cause.Lost → TellsMore t told (record { conn = conn; parting = Whole now } ∷ []) → Leads answer welcomes 3 (among hs cs r u t) (among hs cs after v told)
  leads_memory {r = r} {s = s} {after = after} {u = u} {v = v} {t = t} {told = told} conn was now hs cs q o same lost is_now tells =
      let h : Held = new_held conn in
      let new : find conn s.sessions ≡ Some (fresh conn) = ap (λ (x : Rest G). find conn x.sessions) o.2 ∙ subst (λ (k : ℕ). find k (opened r).sessions ≡ Some (fresh k)) (sym o.1) (found_new r.next r.sessions (q.unused r.next (omega arith))) in
      let ends : ends_by conn (loses conn) s ≡ record { cause = cause.Lost; unsaid = [] } ∷ [] = rw (eq-eqb conn conn refl) (ap end_of new) in
      let gave : was ≡ Some cause.Lost = sym (ap (λ (p : Option Cause × Rest G). p.0) lost) ∙ ap (λ (x : Option Live). option_cause x) new in
      let told_so : TellsMore t told (record { conn = conn; parting = Whole cause.Lost } ∷ []) = subst (λ (c : Cause). TellsMore t told (record { conn = conn; parting = Whole c } ∷ [])) (is_now ∙ ap (λ (x : Option Cause). unwrap_or x cause.Lost) gave) tells in
      let p : Moves answer welcomes 1 0 (record { cause = cause.Lost; unsaid = [] } ∷ []) s after h h v v = moves_lost answer welcomes s after h v (record { cause = cause.Lost; unsaid = [] } ∷ []) (ap (λ (p : Option Cause × Rest G). p.1) lost) ends in
      leads_within answer welcomes (leads_then answer welcomes (leads_guest conn h hs cs o refl same) (leads_then answer welcomes (leads_parted answer welcomes (Whole cause.Lost) h h hs cs p refl told_so) (leads_closed answer welcomes (record { conn = conn; bytes = [] }) hs cs))) (omega arith)
    where
      option_cause : Option Live → Option Cause
      option_cause None = None
      option_cause (Some s) = Some (cause_or s.kept.ended)

  -- the first lives on where its session wasn't given up
  pub lives_on : {m asks : ℕ} {r s : Rest G} {u v : ℕ → Wire} {t : Option (List Told)} (h y : Held) (hs : List Held) (cs : List Owed) → IsSeated (among (h ∷ hs) cs r u t) → Moves answer welcomes m asks [] r s h y u v → IsSome (find y.conn s.sessions)
  lives_on {s = s} h y hs cs q p = subst (λ (k : ℕ). IsSome (find k s.sessions)) (sym p.same) (moves_live answer welcomes p q.seats.0.lives)

  -- the first had its turn, and its session lives on
  pub leads_stays : {m asks : ℕ} {r s : Rest G} {u v : ℕ → Wire} {t : Option (List Told)} (h : Held) (seat : Seat) (items new : List Seat) (cs : List Owed) → IsSeated (among (h ∷ map seat_held items) cs r u t) → Moves answer welcomes m asks [] r s h (seat_held seat) u v → new ≡ items ++ seat ∷ []
      → Leads answer welcomes (m + 2) (among (h ∷ map seat_held items) cs r u t) (among (map seat_held new) cs s v t)
  leads_stays {m = m} {r = r} {s = s} {u = u} {v = v} {t = t} h seat items new cs q p grown =
      let y = seat_held seat in
      let hs = map seat_held items in
      subst (λ (xs : List Held). Leads answer welcomes (m + 2) (among (h ∷ hs) cs r u t) (among xs cs s v t)) (sym (seats_grown items new seat grown))
      (leads_within answer welcomes (leads_then answer welcomes (leads_turned answer welcomes h y hs cs p (moves_live answer welcomes p q.seats.0.lives)) (leads_back answer welcomes y hs cs)) (omega arith))

  -- and it was given up
  pub leads_ends : {m asks : ℕ} {r s after : Rest G} {u v : ℕ → Wire} {t told : Option (List Told)} (h y : Held) (items new : List Seat) (cs ds : List Owed) → IsSeated (among (h ∷ map seat_held items) cs r u t) → Moves answer welcomes m asks [] r s h y u v → Ends answer welcomes y cs ds s after t told → new ≡ items
      → Leads answer welcomes (m + 2) (among (h ∷ map seat_held items) cs r u t) (among (map seat_held new) ds after v told)
  leads_ends {m = m} {r = r} {after = after} {u = u} {v = v} {t = t} {told = told} h y items new cs ds q p e same =
      let o : Owed = record { conn = y.conn; bytes = e.owed } in
      let hs = map seat_held items in
      subst (λ (xs : List Seat). Leads answer welcomes (m + 2) (among (h ∷ hs) cs r u t) (among (map seat_held xs) ds after v told)) (sym same)
      (subst (λ (xs : List Owed). Leads answer welcomes (m + 2) (among (h ∷ hs) cs r u t) (among hs xs after v told)) (sym e.closings)
      (leads_within answer welcomes (leads_then answer welcomes (leads_turned answer welcomes h y hs cs p (moves_live answer welcomes p q.seats.0.lives)) (leads_then answer welcomes (leads_given e.parting y e.owed hs cs (e.parts v) e.told) (leads_behind answer welcomes o hs cs))) (omega arith)))

  -- a turn of the first whose session was given up
  pub leads_faded : {r : Rest G} {u v : ℕ → Wire} {t : Option (List Told)} (limits : Limits) (now : ℕ) (hs : List Held) (cs ds : List Closing) → Fades limits now cs ds u v → Leads answer welcomes 0 (among hs (map closing_owed cs) r u t) (among hs (map closing_owed ds) r v t)
  leads_faded {r = r} {u = u} {v = v} {t = t} limits now hs cs ds (nobody a b same) =
      subst (λ (xs : List Closing). Leads answer welcomes 0 (among hs (map closing_owed cs) r u t) (among hs (map closing_owed xs) r v t)) (a ∙ sym b) (leads_heard answer welcomes hs (map closing_owed cs) same)
  leads_faded {r = r} {u = u} {v = v} {t = t} limits now hs cs ds (turned c d rest a b l on) =
      subst (λ (xs : List Closing). Leads answer welcomes 0 (among hs (map closing_owed xs) r u t) (among hs (map closing_owed ds) r v t)) (sym a)
      (subst (λ (xs : List Owed). Leads answer welcomes 0 (among hs (closing_owed c ∷ map closing_owed rest) r u t) (among hs xs r v t)) (sym (ap (λ (xs : List Closing). map closing_owed xs) b ∙ map_push closing_owed rest d))
      (leads_then answer welcomes (leads_lingered answer welcomes c d hs (map closing_owed rest) l) (leads_behind answer welcomes (closing_owed d) hs (map closing_owed rest))))
  leads_faded {r = r} {u = u} {v = v} {t = t} limits now hs cs ds (closed c d w a l same on) =
      subst (λ (xs : List Closing). Leads answer welcomes 0 (among hs (map closing_owed xs) r u t) (among hs (map closing_owed ds) r v t)) (sym a)
      (leads_then answer welcomes (leads_lingered answer welcomes c d hs (map closing_owed ds) l) (leads_then answer welcomes (leads_closed answer welcomes (closing_owed d) hs (map closing_owed ds)) (leads_heard answer welcomes hs (map closing_owed ds) same)))
