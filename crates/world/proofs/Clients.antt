-- What a client of a connection is asked and tells, over every list of steps.
use Rattle.std.proofs.Common.{◌≡◌, refl, sym, ◌∙◌, ap, subst, ℕ, Bool, false, ◌||◌, Option, Some, None, unwrap_or, Result, Ok, Err, List, [], ◌∷◌, ◌++◌, length, take, drop, slice_get, true, ◌⊎◌, inl, inr, ⊎_elim, ap₂, ◌≤◌, if◌then◌else◌, zero, suc, ◌-◌, ◌==◌, slice_set}
use Rattle.std.proofs.lemmas.Bool.{or_parts, eqb-true, eqb-false, cond_both}
use Rattle.wire.specs.declared.Version.{Version}
use Rattle.wire.specs.declared.Wish.{Wish}
use Rattle.wire.specs.Prelude.{wish_version, Opened, at_client, reach, takes, state}
use Rattle.messages.specs.declared.MsgFault.{MsgFault}
use Rattle.messages.specs.Prelude.{RequestView, request_spelling, IsWritten, AreWritten, hears, IsRequest}
use Rattle.messages.proofs.Rounds.{request_reads_back}
use Rattle.messages.proofs.Sayings.{requests_are_made}
use Rattle.engine.specs.Prelude.{EntryView}
use Rattle.server_session.specs.Prelude.{Setting}
use Rattle.client.specs.Prelude.{writing_fault, writing_fault_by, Knows, refuses, Note, feed_of, Reading, knows_of, refusal_of, reading_of, Call, Submits, Feeds as FeedsCall, Loses, Run, starts, submits, used_of, call, calls, opened_bytes, tellings_in, Told}
use Rattle.client.proofs.Refusing.{accepted_facts, accepted_written, knows_version}
use Rattle.world.specs.Prelude.{Ours, input, Connection, wish_of, said_version, heard_by_bytes, Foreign, output, bytes_delivered, Peer, fresh, World, Event, Submit, Seen, Effect, place, IsMade, give, taken_for, Reached, Opens, effect_at_peer, taken_out, client_rest, IsFew, Ran, told_in, told_at, by_peer}
use Rattle.world.proofs.Deeds as deed
use Rattle.world.proofs.Deeds.{Deed, Did, opens, acts, step_did, along, set_same, set_other}
use Rattle.world.proofs.Sound.{Sound, Speaks, says, feed_speaks, work_speaks, noop_speaks, reached_sound, Alike, client_alike, Does, stays, asks, loses, gives, strange, deed_does}
use Rattle.world.proofs.Kept.{Talk}
use Rattle.world.proofs.Trace.{Trace}
use Rattle.client.proofs.Runs.{tells_by_bytes, calls_hold, starts_hold}
use Rattle.client.proofs.Few.{keeps_few}
use Rattle.client.proofs.Later.{reading_later}
use Rattle.world.proofs.Giving.{used_same, given_more, seen_as, give_same, give_told}
use Rattle.client.specs.declared.ClientFault.{ClientFault}
use Rattle.world.specs.World as world
use Rattle.world.specs.Runs.{begins, goes_on, takes_out}

-- Each request that was accepted has a text that stands for it: a step keeps that, where the request that it accepts is made of texts,
-- numbers and cells.
-- the client's answer to a submit, of the connection that it was for
abbrev pub TellsWritten : World → Event → Type 0
TellsWritten w (Submit c q) =
    (k : Connection) → slice_get w.conns c ≡ Some k → (wish : Wish) → k.peer ≡ Ours wish → refusal_of (heard_by_bytes k) k.client_lost k.sent q ≡ None → IsWritten (wish_version wish) q
TellsWritten w e = Unit {0}

-- the version that a client of ours knows is the one that was wished
pub knows_if : {R : Type 0} (S : Setting) (all : List EntryView) (wish : Wish) (k : Connection) → Talk S all wish k → ((heard_by_bytes k).version ≡ None) ⊎ (Trace S (said_version k) all k.sent k.says × R × ((heard_by_bytes k).version ≡ Some (said_version k))) → ((heard_by_bytes k).version ≡ None) ⊎ ((heard_by_bytes k).version ≡ Some (wish_version wish))
knows_if S all wish k talk (inl e) = inl e
knows_if S all wish k (inr s) (inr e) = inr (e.2 ∙ ap (λ o. Some (unwrap_or o Version.V51)) s.0)
knows_if S all wish k (inl s) (inr e) = let bad : Trace S (said_version k) all k.sent [] = subst (λ xs. Trace S (said_version k) all k.sent xs) s.1 e.0 in elim bad [ ]

-- what a client that accepts is known to be
pub accepting : (r : Reading) (lost : Bool) (sent : List RequestView) (q : RequestView) → refusal_of r lost sent q ≡ None → (lost ≡ false) × (r.bad ≡ false) × (r.version ≡ None → ⊥)
accepting r lost sent q h =
    let a = accepted_facts (knows_of r sent lost) q h in let o = or_parts lost (r.ended || r.bad) a.0 in
    (o.0, (or_parts r.ended r.bad o.1).1, knows_version (knows_of r sent lost) q r.version a.1)

-- and the text of a request that it accepts
written_by : (x : Result (List ℕ) MsgFault) → writing_fault_by x ≡ None → (b : List ℕ) × (x ≡ Ok b)
written_by (Ok b) h = (b, refl)
written_by (Err e) h = cc

-- A request that is made of texts, numbers and cells and that the client accepts has a text that stands for it.
made_written : (wish : Wish) (k : Connection) (q : RequestView) → ((heard_by_bytes k).version ≡ None) ⊎ ((heard_by_bytes k).version ≡ Some (wish_version wish)) → IsRequest (wish_version wish) q → refusal_of (heard_by_bytes k) k.client_lost k.sent q ≡ None
    → IsWritten (wish_version wish) q
made_written wish k q knows ready none =
    let version = ⊎_elim (λ e. absurd ((accepting (heard_by_bytes k) k.client_lost k.sent q none).2 e)) (λ e. e) knows in
    let text = written_by (request_spelling (wish_version wish) q) (ap (writing_fault q) (sym version) ∙ accepted_written (knows_of (heard_by_bytes k) k.sent k.client_lost) q none) in
    (text.0, text.1, (request_reads_back (wish_version wish) q text.0 ready text.1).0)

both : (v : Version) (ms : List RequestView) (q : RequestView) → AreWritten v ms → IsWritten v q → AreWritten v (ms ++ q ∷ [])
both v [] q h y = (y, tt)
both v (m ∷ ms) q h y = (h.0, both v ms q h.1 y)

abbrev pub Written : Connection → Type 0
Written k = AreWritten (wish_version (wish_of k.peer)) k.sent

spoken_written : {k : Connection} {x : Effect} → Speaks k x → Written k → Written x.conn
spoken_written (says t xs up commit seen may wrote untold) h = h

module _ {S : Setting} {c : ℕ} {all : List EntryView} (w : World) (k : Connection) where
  -- each deed
  pub deed_written : {e : Event} {x : Effect} → slice_get w.conns (place e) ≡ Some k → Sound k → ((wish : Wish) → k.peer ≡ Ours wish → ((heard_by_bytes k).version ≡ None) ⊎ ((heard_by_bytes k).version ≡ Some (wish_version wish))) → Written k → Deed S c all k e x
      → IsMade w e x.seen → Written x.conn
  deed_written here s knows h (deed.submits i q wish p none) made =
      both (wish_version (wish_of k.peer)) k.sent q h
      (subst (λ y. IsWritten (wish_version (wish_of y)) q) (sym p) (made_written wish k q (knows wish p) (subst (λ y. IsRequest (wish_version (wish_of y)) q) p (made k here)) none))
  deed_written here s knows h (deed.hands i n wish p) made = spoken_written (feed_speaks k s (take n (drop (length k.up) (input wish k.sent)))) h
  deed_written here s knows h (deed.feeds i piece p) made = spoken_written (feed_speaks k s piece) h
  deed_written here s knows h (deed.works i) made = spoken_written (work_speaks S c all k) h
  deed_written here s knows h (deed.noops i) made = spoken_written (noop_speaks k) h
  deed_written here s knows h _ made = h

  -- And the other way round: what has a text that stands for it is so made.
  deed_made : {e : Event} {x : Effect} → slice_get w.conns (place e) ≡ Some k → Deed S c all k e x → TellsWritten w e → IsMade w e x.seen
  deed_made here (deed.submits i q wish p none) f = λ k2 here2.
      let t = f k here wish p none in let same : k ≡ k2 = cc in
      subst (λ z. IsRequest (wish_version (wish_of z.peer)) q) same (subst (λ y. IsRequest (wish_version (wish_of y)) q) (sym p) (requests_are_made (wish_version wish) q t.0 t.2))
  deed_made here _ f = tt

pub did_made : {S : Setting} {w : World} {e : Event} {seen : Seen} {w2 : World} → TellsWritten w e → Did S w e seen w2 → IsMade w e seen
did_made f (opens peer room) = tt
did_made {w = w} f (acts event k x here d) = deed_made w k here d f

-- How much a client keeps, over every list of steps: the requests that its connection sent and the bytes that it was given are those of
-- a list of calls.
calls_more : (cs : List Call) (c : Call) (x : Run) → calls x (cs ++ c ∷ []) ≡ call (calls x cs) c
calls_more [] c x = refl
calls_more (d ∷ cs) c x = calls_more cs c (call x d)

-- what of a run its connection tells
abbrev Past : Type 0
Past = List RequestView × (List ℕ × Bool)

abbrev past_of : Run → Past
past_of x = (x.sent, (x.took, x.lost))

-- the calls that a connection of ours follows
pub record Follows (wish : Wish) (k : Connection) : Type 0 where
  pub made : List Call
  pub same : past_of (calls (starts wish) made) ≡ (k.sent, (bytes_delivered k, k.client_lost))

abbrev pub Follow : Connection → Type 0
Follow k = (wish : Wish) → k.peer ≡ Ours wish → Follows wish k

alike_follows : (k k2 : Connection) → Alike k k2 → Follow k → Follow k2
alike_follows k k2 a f wish p =
    let h = f wish (sym a.peer ∙ p) in
    record { made = h.made; same = h.same ∙ ap₂ (λ (qs : List RequestView) (z : List ℕ × Bool). (qs, z)) (sym a.sent) (ap₂ (λ (bs : List ℕ) (b : Bool). (bs, b)) (sym a.given) (sym a.lost)) }

-- what a client knows by then, and its unfinished item
module _ (wish : Wish) (k : Connection) (ours : k.peer ≡ Ours wish) (h : Follows wish k) where
  abbrev run : Run
  run = calls (starts wish) h.made

  knows_is : run.rest.knows ≡ knows_of (heard_by_bytes k) k.sent k.client_lost
  knows_is =
      (tells_by_bytes wish h.made).knows ∙ ap (λ (z : Past). knows_of (reading_of wish z.0 z.1.0) z.0 z.1.1) h.same
      ∙ ap (λ x. knows_of (reading_of (wish_of x) k.sent (bytes_delivered k)) k.sent k.client_lost) (sym ours)

  item_is : run.rest.item ≡ state at_client at_client.start (bytes_delivered k)
  item_is = (tells_by_bytes wish h.made).item ∙ ap (λ (z : Past). state at_client at_client.start z.1.0) h.same

  -- before a version is known nothing was sent
  pub sent_none : (heard_by_bytes k).version ≡ None → k.sent ≡ []
  sent_none e =
      let known = ap (λ (z : Past). (reading_of wish z.0 z.1.0).version) h.same ∙ ap (λ x. (reading_of (wish_of x) k.sent (bytes_delivered k)).version) (sym ours) in
      sym (ap (λ (z : Past). z.0) h.same) ∙ (calls_hold wish h.made (starts wish) (starts_hold wish)).before (known ∙ e)

  pub few : (out : ℕ) → IsFew (client_rest out k)
  few out =
      let l = keeps_few wish h.made in
      record { waiting = subst (λ (y : Knows). length y.waiting ≤ 32) knows_is l.0; unfinished = subst (λ (o : Opened). opened_bytes o ≤ 65537) item_is l.1 }

  -- one more call
  follows_more : (c : Call) (k2 : Connection) → past_of (call run c) ≡ (k2.sent, (bytes_delivered k2, k2.client_lost)) → Follows wish k2
  follows_more c k2 e = record { made = h.made ++ c ∷ []; same = ap past_of (calls_more h.made c (starts wish)) ∙ e }

  accepts : (q : RequestView) → refusal_of (heard_by_bytes k) k.client_lost k.sent q ≡ None → Follows wish (record k { sent = k.sent ++ q ∷ [] })
  accepts q none =
      follows_more (Submits q) (record k { sent = k.sent ++ q ∷ [] })
      (ap (λ o. past_of (submits run q o)) (ap (λ y. refuses y q) knows_is ∙ none) ∙ ap (λ (z : Past). let y : Past = (z.0 ++ q ∷ [], z.1) in y) h.same)

  hears_more : (n : ℕ) → k.client_lost ≡ false → ((heard_by_bytes k).ended ≡ false) × ((heard_by_bytes k).bad ≡ false) → Follows wish (give n k).conn
  hears_more n lives on =
      follows_more (FeedsCall piece) (give n k).conn
      (ap₂ (λ (z : Past) (m : ℕ). let y : Past = (z.0, (z.1.0 ++ take m piece, z.1.1)) in y) h.same used ∙ ap (λ (bs : List ℕ). let y : Past = (k.sent, (bs, k.client_lost)) in y) (sym (given_more k 0 n lives on)))
    where
      piece : List ℕ
      piece = take n (drop k.down (output k))

      used : used_of run.rest piece ≡ reach hears (bytes_delivered k) piece
      used =
          ap (λ b. if b then 0 else (takes at_client run.rest.item piece).used) (ap (λ (y : Knows). y.over) knows_is ∙ ap₂ (λ a b. a || b) lives (ap₂ (λ a b. a || b) on.0 on.1))
          ∙ ap (λ (o : Opened). (takes at_client o piece).used) item_is ∙ sym (used_same (wish_of k.peer) k.sent (bytes_delivered k) on piece)

-- each event
does_follow : (k : Connection) (x : Effect) → Does k x → Follow k → Follow x.conn
does_follow k x (stays y a e) f = alike_follows k y.conn a f
does_follow k x (asks q none) f = λ wish p. accepts wish k p (f wish p) q none
does_follow k x loses f = λ wish p. follows_more wish k p (f wish p) Loses (record k { client_lost = true }) (ap (λ (z : Past). let y : Past = (z.0, (z.1.0, true)) in y) (f wish p).same)
does_follow k x (gives wish n p lives on) f = λ wish2 p2. hears_more wish2 k p2 (f wish2 p2) n lives on
does_follow k x (strange n p) f = λ wish2 p2. let bad : Foreign ≡ Ours wish2 = sym p ∙ p2 in absurd cc

pub reached_follow : (S : Setting) (brought : List EntryView) {w : World} → Reached S brought w → (c : ℕ) (k : Connection) → slice_get w.conns c ≡ Some k → Follow k
reached_follow S brought r =
    along S brought (λ _ _ _ k. Follow k) (λ w peer _ _ wish p. record { made = []; same = refl }) (λ w e k x reached here f d _ _. does_follow k x (deed_does k (reached_sound S brought reached (place e) k here) d) f)
    (λ _ _ _ _ _ _ _ _ f. f) (λ _ _ _ n k f. alike_follows k (record k { taken = taken_for n k }) (record { peer = refl; sent = refl; lost = refl; given = refl }) f) r

-- What was seen of each client over a list of steps is what its reading of the bytes tells.
-- a run without what was seen of it
pub ran_reached : {S : Setting} {brought : List EntryView} {past : List (Event × Seen)} {w : World} → Ran S brought past w → Reached S brought w
ran_reached (begins l) = world.begins l
ran_reached (goes_on w w2 e seen past r t) = world.goes_on w w2 e seen (ran_reached r) t
ran_reached (takes_out w c n past r) = world.takes_out w c n (ran_reached r)

-- what the client of a connection tells; none of a foreign peer, and of a connection that wasn't opened
abbrev pub told_of : Option Connection → List Told
told_of None = []
told_of (Some k) = by_peer k.peer (heard_by_bytes k).told

answer_told : (used : ℕ) (a : Result (ℕ × Note) ClientFault) → tellings_in a ≡ told_in (seen_as used a)
answer_told used (Ok t) = refl
answer_told used (Err e) = refl

does_tell : (k : Connection) (x : Effect) → Does k x → told_in x.seen ++ told_of (Some k) ≡ told_of (Some x.conn)
does_tell k x (stays y a e) = ap (λ ts. ts ++ told_of (Some k)) e ∙ sym (ap₂ (λ p (ts : List Told). by_peer p ts) a.peer (ap (λ r. r.told) (client_alike k y.conn a)))
does_tell k x (asks q none) =
    let a = accepting (heard_by_bytes k) k.client_lost k.sent q none in
    sym (ap (λ r. by_peer k.peer r.told) (reading_later (wish_of k.peer) k.sent (q ∷ []) (hears (bytes_delivered k)) a.1))
does_tell k x loses = refl
does_tell k x (gives wish n p lives on) =
    let same = give_same k 0 n lives on in let piece = take n (drop k.down (output k)) in
    ap (λ s. told_in s ++ told_of (Some k)) (sym same.1)
    ∙ ap (λ ts. ts ++ told_of (Some k)) (sym (answer_told ((give n k).conn.down - k.down) (feed_of (client_rest 0 k) piece).answer))
    ∙ ap (λ q. tellings_in (feed_of (client_rest 0 k) piece).answer ++ by_peer q (heard_by_bytes k).told) p ∙ sym (give_told k 0 n lives on)
    ∙ sym (ap (λ q. by_peer q (heard_by_bytes (give n k).conn).told) p)
does_tell k x (strange n p) = ap (λ q. by_peer q (heard_by_bytes k).told) p ∙ sym (ap (λ q. by_peer q (heard_by_bytes (record k { taken = taken_for n k; down = taken_for n k })).told) p)

-- a connection that is opened told nothing
opened_told : (xs : List Connection) (j : ℕ) (peer : Peer) → told_of (slice_get (xs ++ fresh peer ∷ []) j) ≡ told_of (slice_get xs j)
opened_told [] zero (Ours wish) = refl
opened_told (x ∷ xs) (suc j) peer = opened_told xs j peer
opened_told _ _ _ = refl

-- at each number
abbrev pub AllTold : List (Event × Seen) → World → Type 0
AllTold past w = (j : ℕ) → told_at j past ≡ told_of (slice_get w.conns j)

either_way : {A : Type 0} (b : Bool) (x : A) → (if b then x else x) ≡ x
either_way b x = cond_both b x x (λ z. z ≡ x) (λ _. refl) (λ _. refl)

module _ (S : Setting) (w : World) (sound : (c : ℕ) (k : Connection) → slice_get w.conns c ≡ Some k → Sound k) (past : List (Event × Seen)) (all : AllTold past w) where
  -- where one connection was set
  set_tells : (c : ℕ) (k k2 : Connection) → slice_get w.conns c ≡ Some k → (new : List Told) → new ++ told_of (Some k) ≡ told_of (Some k2)
      → (j : ℕ) → (if c == j then new ++ told_at j past else told_at j past) ≡ told_of (slice_get (slice_set w.conns c k2) j)
  set_tells c k k2 here new e j = cond_both (c == j) _ _ (λ (ts : List Told). ts ≡ told_of (slice_get (slice_set w.conns c k2) j))
      (λ h. let same : c ≡ j = eqb-true c j h in
      ap (λ i. new ++ told_at i past) (sym same) ∙ ap (λ ts. new ++ ts) (all c ∙ ap told_of here) ∙ e
      ∙ sym (ap told_of (set_same w.conns c k k2 here)) ∙ ap (λ i. told_of (slice_get (slice_set w.conns c k2) i)) same)
      (λ h. all j ∙ ap told_of (sym (set_other w.conns c j k2 (eqb-false c j h))))

  did_tells : (e : Event) (seen : Seen) (w2 : World) → Did S w e seen w2 → AllTold ((e, seen) ∷ past) w2
  did_tells e seen w2 (opens peer room) j = either_way (place (Opens peer) == j) (told_at j past) ∙ all j ∙ sym (opened_told w.conns j peer)
  did_tells e seen w2 (acts event k x here d) j = set_tells (place event) k x.conn here (told_in x.seen) (does_tell k x (deed_does k (sound (place event) k here) d)) j

  takes_tell : (c n : ℕ) → AllTold past (taken_out w c n (slice_get w.conns c))
  takes_tell c n = go (slice_get w.conns c) refl
    where
      go : (o : Option Connection) → slice_get w.conns c ≡ o → AllTold past (taken_out w c n o)
      go None g = all
      go (Some k) g = λ j. sym (either_way (c == j) (told_at j past)) ∙ set_tells c k (record k { taken = (effect_at_peer k.peer n k).conn.taken }) g [] refl j

pub reached_tell : {S : Setting} {brought : List EntryView} {past : List (Event × Seen)} {w : World} → Ran S brought past w → AllTold past w
reached_tell (begins l) = λ j. refl
reached_tell {S = S} {brought = brought} (goes_on w w2 e seen past r t) = did_tells S w (reached_sound S brought (ran_reached r)) past (reached_tell r) e seen w2 (step_did S w e seen w2 t.steps)
reached_tell {S = S} {brought = brought} (takes_out w c n past r) = takes_tell S w (reached_sound S brought (ran_reached r)) past (reached_tell r) c n
