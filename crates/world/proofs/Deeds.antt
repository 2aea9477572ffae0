-- What a step of the world is: an opening, or one deed at a connection that is there; and the induction along it.
use Rattle.std.proofs.Common.{◌≡◌, refl, sym, ◌∙◌, ap, subst, ℕ, zero, suc, ◌-◌, ◌^◌, Bool, true, false, not, ◌||◌, if◌then◌else◌, nat_le, Option, Some, None, is_some, ◌&&◌, Result, Ok, Err, IfOk, List, [], ◌∷◌, ◌++◌, ◌≢◌, length, slice_get, slice_set, ◌⊎◌, inl, inr, ⊎_elim}
use Rattle.std.proofs.lemmas.Bool.{cases_eq, cond_both, or_parts}
use Rattle.std.proofs.lemmas.Option.{same_Some}
use Rattle.wire.specs.declared.Wish.{Wish}
use Rattle.wire.specs.Prelude.{reach}
use Rattle.messages.specs.Prelude.{RequestView, Arrival, Asked, Unread, TooLong, arrivals}
use Rattle.machine.specs.declared.State.{State}
use Rattle.machine.specs.Prelude.{interruptible}
use Rattle.engine.specs.Prelude.{EntryView}
use Rattle.server_session.specs.declared.Cause.{Cause}
use Rattle.server_session.specs.declared.What.{What}
use Rattle.server_session.specs.Rest as serving
use Rattle.server_session.specs.Prelude.{Kept, Done, Ended, Step, worked_of, rests, replies, serves, turns, work_kept, after_interrupt, interrupts, reset_among, shut, full, commit_entries, Setting, Change, Open, no_result, Tx, no_tx, Reply, serve}
use Rattle.client.specs.declared.SubmitFault.{SubmitFault}
use Rattle.client.specs.Prelude.{refusal_of, Nothing}
use Rattle.world.specs.Prelude.{Peer, Ours, Foreign, Connection, SaysNoop, fresh, answer_count, waiting, said_version, heard_by_bytes, kept_of, keeping, World, Event, Opens, Submit, ToServer, ToClient, Work, PutsNoop, Cut, ClientLost, ServerLost, Feeds, Seen, Opened, Submitted, Fed, Gave, SawWork, SawNoop, SawNothing, Refusal, V3, Effect, quiet, effect_of_submit, feed, to_server, takes, give, taken_for, effect_at_peer, said_by, effect_of_step, work, noop, server_gone, at_peer, after_effect, with_effect, at_conn, live, ledger, place, step, IsMade, IsCountedIn, taken_out, Reached, begins, goes_on, takes_out, told_in}

-- lists of connections
pub get_more : {A : Type 0} (xs : List A) (j : ℕ) (y z : A) → slice_get (xs ++ y ∷ []) j ≡ Some z → (slice_get xs j ≡ Some z) ⊎ ((j ≡ length xs) × (y ≡ z))
get_more [] zero y z h = inr (refl, cc)
get_more [] (suc j) y z h = cc
get_more (x ∷ xs) zero y z h = inl h
get_more (x ∷ xs) (suc j) y z h = ⊎_elim (λ r. inl r) (λ r. inr (ap suc r.0, r.1)) (get_more xs j y z h)

pub set_same : {A : Type 0} (xs : List A) (i : ℕ) (x y : A) → slice_get xs i ≡ Some x → slice_get (slice_set xs i y) i ≡ Some y
set_same [] i x y h = cc
set_same (a ∷ xs) zero x y h = refl
set_same (a ∷ xs) (suc i) x y h = set_same xs i x y h

pub set_other : {A : Type 0} (xs : List A) (i j : ℕ) (y : A) → i ≢ j → slice_get (slice_set xs i y) j ≡ slice_get xs j
set_other (a ∷ xs) zero zero y n = absurd (n refl)
set_other (a ∷ xs) (suc i) (suc j) y n = set_other xs i j y (λ e. n (ap suc e))
set_other _ _ _ y n = refl

pub get_set : {A : Type 0} (xs : List A) (i j : ℕ) (x y z : A) → slice_get xs i ≡ Some x → slice_get (slice_set xs i y) j ≡ Some z → ((i ≡ j) × (y ≡ z)) ⊎ ((i ≢ j) × (slice_get xs j ≡ Some z))
get_set xs i j x y z h e =
    ⊎_elim (λ q. inl (q, same_Some y z (sym (set_same xs i x y h) ∙ ap (slice_get (slice_set xs i y)) q ∙ e))) (λ n. inr (n, sym (set_other xs i j y n) ∙ e)) (cases_eq i j)

-- A RESET interrupts, or it doesn't.
pub interrupt_case : (P : Kept → Type 0) (b : Bool) (s : Kept) → P s → (b && interruptible s.state ≡ true → P (after_interrupt s)) → P (interrupts b s)
interrupt_case P b s x f = cond_both (b && interruptible s.state) (after_interrupt s) s P f (λ _. x)

-- A feed takes nothing, or a piece up to the end of an item.
pub feed_case : (P : Effect → Type 0) (piece : List ℕ) (k : Connection) → ((what : What) → P (quiet k (Fed 0 what)))
    → (k.server_lost ≡ false → k.cut ≡ false → shut (kept_of k) ≡ false → P (takes k piece (reach arrivals k.up piece))) → P (feed piece k)
feed_case P piece k q t =
    cond_both k.server_lost _ _ P (λ _. q What.Closed) (λ lives. cond_both k.cut _ _ P (λ _. q What.Part) (λ joined. cond_both (shut (kept_of k)) _ _ P (λ _. q What.Closed)
    (λ going. cond_both (full (kept_of k)) _ _ P (λ _. q What.Full) (λ _. t lives joined going))))

-- an answer to the first that waits, of a session that stands so
abbrev pub replied : Connection → List EntryView → State → Open → Tx → RequestView → List Arrival → Reply → Step
replied k all st re tx q later r = replies all (record (kept_of k) { state = st; result = re; tx = tx }) q later r

-- A step of a session does nothing, ends it, or answers the first request that waits, after the interrupt of a RESET or without.
pub step_case : (P : Step → Type 0) (S : Setting) (c : ℕ) (all : List EntryView) (k : Connection) → ((d : Done) → said_by d ≡ [] → P (rests (kept_of k) d))
    → (k.ended ≡ None → (cause : Cause) → P (rests (serving.ends cause (kept_of k)) (Ended cause)))
    → (k.ended ≡ None → (st : State) (re : Open) (tx : Tx) (q : RequestView) (later : List Arrival) → waiting k ≡ Asked q ∷ later → P (replied k all st re tx q later (serve S (said_version k) c all st re tx q))) → P (work_kept S c all (kept_of k) k.ended)
step_case P S c all k q over asks = go k.ended refl
  where
    first : (ws : List Arrival) → waiting k ≡ ws → k.ended ≡ None → P (turns S c all (kept_of k) ws)
    first (Asked r ∷ later) e n =
        interrupt_case (λ s. P (serves S c all s r later)) (reset_among (Asked r ∷ later)) (kept_of k) (asks n k.state k.result k.tx r later e)
        (λ _. asks n State.Interrupted no_result no_tx r later e)
    first (Unread x ∷ later) e n = over n Cause.Malformed
    first (TooLong ∷ later) e n = over n Cause.TooBig
    first _ e n = q serving.Idle refl

    go : (o : Option Cause) → k.ended ≡ o → P (work_kept S c all (kept_of k) o)
    go (Some cause) e = q (Ended cause) refl
    go None e = cond_both (nat_le 65536 (length (kept_of k).unsent)) _ _ P (λ _. q serving.Full refl) (λ _. first (waiting k) refl e)

-- what was done where nothing was said
pub silent_step : (P : Effect → Type 0) (k : Connection) (d : Done) → said_by d ≡ [] → P (quiet k (SawWork (worked_of d))) → P (effect_of_step k (rests (kept_of k) d))
silent_step P k d e h = subst (λ xs. P (quiet (keeping k (kept_of k) xs) (SawWork (worked_of d)))) (sym e) h

-- A no-op is said by a session that has a version and hasn't ended, or not at all.
pub noop_case : (P : Effect → Type 0) (k : Connection) → P (quiet k (SawNoop false)) → (is_some k.version ≡ true → is_some k.ended ≡ false → P (quiet (record k { says = SaysNoop ∷ k.says }) (SawNoop true))) → P (noop k)
noop_case P k q t = go (is_some k.version) (is_some k.ended) (nat_le 65536 (length (kept_of k).unsent)) t
  where
    go : (a b c : Bool) → (a ≡ true → b ≡ false → P (quiet (record k { says = SaysNoop ∷ k.says }) (SawNoop true)))
        → P (let put = not (not a || b || c) in quiet (record k { says = if put then SaysNoop ∷ k.says else k.says }) (SawNoop put))
    go true false false t = t refl refl
    go _ _ _ t = q

-- What is taken out for a peer is what was taken, or more.
pub taken_case : (P : ℕ → Type 0) (p : Peer) (n : ℕ) (k : Connection) → P k.taken → P (taken_for n k) → P (effect_at_peer p n k).conn.taken
taken_case P (Ours wish) n k a b = cond_both (k.cut || (k.client_lost || ((heard_by_bytes k).ended || (heard_by_bytes k).bad))) _ _ (λ (x : Effect). P x.conn.taken) (λ _. a) (λ _. b)
taken_case P Foreign n k a b = cond_both k.cut _ _ (λ (x : Effect). P x.conn.taken) (λ _. a) (λ _. b)

-- What is fed is told to no client, and commits nothing.
pub feed_hushed : (piece : List ℕ) (k : Connection) → (told_in (feed piece k).seen ≡ []) × ((feed piece k).commit ≡ None)
feed_hushed piece k = feed_case (λ x. (told_in x.seen ≡ []) × (x.commit ≡ None)) piece k (λ what. (refl, refl)) (λ _ _ _. (refl, refl))

-- What an event does at a connection whose peer takes it.
pub data Deed (S : Setting) (c : ℕ) (all : List EntryView) (k : Connection) : Event → Effect → Type 0 where
  declines : (i : ℕ) (q : RequestView) (fault : SubmitFault) → Deed S c all k (Submit i q) (quiet k (Submitted (Err fault)))
  submits : (i : ℕ) (q : RequestView) (wish : Wish) → k.peer ≡ Ours wish → refusal_of (heard_by_bytes k) k.client_lost k.sent q ≡ None → Deed S c all k (Submit i q) (effect_of_submit q k None)
  hands : (i n : ℕ) (wish : Wish) → k.peer ≡ Ours wish → Deed S c all k (ToServer i n) (to_server wish n k)
  feeds : (i : ℕ) (piece : List ℕ) → k.peer ≡ Foreign → Deed S c all k (Feeds i piece) (feed piece k)
  misses : (i n : ℕ) → Deed S c all k (ToClient i n) (quiet k (Gave 0 (Ok Nothing)))
  gives : (i n : ℕ) (wish : Wish) → k.peer ≡ Ours wish → (k.cut || (k.client_lost || ((heard_by_bytes k).ended || (heard_by_bytes k).bad))) ≡ false → Deed S c all k (ToClient i n) (give n k)
  drains : (i n : ℕ) → k.peer ≡ Foreign → Deed S c all k (ToClient i n) (quiet (record k { taken = taken_for n k; down = taken_for n k }) (Gave (taken_for n k - k.down) (Ok Nothing)))
  works : (i : ℕ) → Deed S c all k (Work i) (work S c all k)
  noops : (i : ℕ) → Deed S c all k (PutsNoop i) (noop k)
  cuts : (i : ℕ) → Deed S c all k (Cut i) (quiet (record k { cut = true }) SawNothing)
  loses : (i : ℕ) (wish : Wish) → k.peer ≡ Ours wish → Deed S c all k (ClientLost i) (quiet (record k { client_lost = true }) SawNothing)
  ends : (i : ℕ) → Deed S c all k (ServerLost i) (server_gone k)

module _ (S : Setting) (c : ℕ) (all : List EntryView) (k : Connection) where
  submit_deed : (i : ℕ) (q : RequestView) (wish : Wish) → k.peer ≡ Ours wish → (o : Option SubmitFault) → refusal_of (heard_by_bytes k) k.client_lost k.sent q ≡ o → Deed S c all k (Submit i q) (effect_of_submit q k o)
  submit_deed i q wish p None e = submits i q wish p e
  submit_deed i q wish p (Some fault) e = declines i q fault

  event_deed : (p : Peer) (e : Event) → k.peer ≡ p → IfOk (at_peer S c all e p k) (Deed S c all k e)
  event_deed (Ours wish) (Submit i q) p = submit_deed i q wish p (refusal_of (heard_by_bytes k) k.client_lost k.sent q) refl
  event_deed (Ours wish) (ToServer i n) p = hands i n wish p
  event_deed (Ours wish) (ToClient i n) p = cond_both (k.cut || (k.client_lost || ((heard_by_bytes k).ended || (heard_by_bytes k).bad))) _ _ (Deed S c all k (ToClient i n)) (λ _. misses i n) (λ e. gives i n wish p e)
  event_deed Foreign (ToClient i n) p = cond_both k.cut _ _ (Deed S c all k (ToClient i n)) (λ _. misses i n) (λ _. drains i n p)
  event_deed Foreign (Feeds i piece) p = feeds i piece p
  event_deed _ (Work i) p = works i
  event_deed _ (PutsNoop i) p = noops i
  event_deed _ (Cut i) p = cuts i
  event_deed (Ours wish) (ClientLost i) p = loses i wish p
  event_deed _ (ServerLost i) p = ends i
  event_deed _ _ p = tt

-- a world with one connection more
abbrev pub with_fresh : World → Peer → World
with_fresh w peer = record { conns = w.conns ++ fresh peer ∷ []; brought = w.brought; since = w.since }

-- What a step did that was answered: the event, what was seen, and the world after it.
pub data Did (S : Setting) (w : World) : Event → Seen → World → Type 0 where
  opens : (peer : Peer) → (nat_le 16 (live w) || nat_le (2 ^ 63) (length w.conns)) ≡ false → Did S w (Opens peer) (Opened (length w.conns)) (with_fresh w peer)
  acts : (e : Event) (k : Connection) (x : Effect) → slice_get w.conns (place e) ≡ Some k → Deed S (place e) (ledger w) k e x → Did S w e x.seen (after_effect w (place e) k x)

module _ (S : Setting) (w : World) where
  abbrev DidBy : Event → Result (World × Seen) Refusal → Type 0
  DidBy e r = IfOk r (λ z. Did S w e z.1 z.0)

  at_did : (e : Event) → DidBy e (at_conn S w e (place e) (slice_get w.conns (place e)))
  at_did e = go (slice_get w.conns (place e)) refl
    where
      made : (k : Connection) → slice_get w.conns (place e) ≡ Some k → (r : Result Effect Refusal) → IfOk r (Deed S (place e) (ledger w) k e) → DidBy e (with_effect w (place e) k r)
      made k here (Err refusal) d = tt
      made k here (Ok x) d = acts e k x here d

      go : (o : Option Connection) → slice_get w.conns (place e) ≡ o → DidBy e (at_conn S w e (place e) o)
      go None g = tt
      go (Some k) g = made k g (at_peer S (place e) (ledger w) e k.peer k) (event_deed S (place e) (ledger w) k k.peer e refl)

  did_by : (e : Event) → DidBy e (step S w e)
  did_by (Opens peer) = cond_both (nat_le 16 (live w) || nat_le (2 ^ 63) (length w.conns)) (Err V3) (Ok (with_fresh w peer, Opened (length w.conns))) (DidBy (Opens peer)) (λ _. tt) (λ room. opens peer room)
  did_by e = at_did e

  pub step_did : (e : Event) (seen : Seen) (w2 : World) → step S w e ≡ Ok (w2, seen) → Did S w e seen w2
  step_did e seen w2 h = subst (DidBy e) h (did_by e)

-- What holds of each connection of every world that is reached: of a fresh one; of the one at which a deed is done, after it; of each other, whatever entry comes; and of one of which bytes are taken out.
module _ (S : Setting) (brought : List EntryView) (P : (brought since : List EntryView) → ℕ → Connection → Type 0)
    (begun : (w : World) (peer : Peer) → Reached S brought w → nat_le (2 ^ 63) (length w.conns) ≡ false → P w.brought w.since (length w.conns) (fresh peer))
    (did : (w : World) (e : Event) (k : Connection) (x : Effect) → Reached S brought w → slice_get w.conns (place e) ≡ Some k → P w.brought w.since (place e) k → Deed S (place e) (ledger w) k e x → IsMade w e x.seen → IsCountedIn x.seen
    → P w.brought (w.since ++ commit_entries (place e) (answer_count k.says) x.commit) (place e) x.conn)
    (others : (brought since : List EntryView) (j c i : ℕ) (o : Option Change) (k : Connection) → c ≢ j → P brought since j k → P brought (since ++ commit_entries c i o) j k)
    (drawn : (brought since : List EntryView) (c n : ℕ) (k : Connection) → P brought since c k → P brought since c (record k { taken = taken_for n k })) where
  abbrev All : World → Type 0
  All w = (c : ℕ) (k : Connection) → slice_get w.conns c ≡ Some k → P w.brought w.since c k

  -- each connection, where one was set
  set_all : (w : World) (c : ℕ) (k k2 : Connection) (since : List EntryView) → slice_get w.conns c ≡ Some k → P w.brought since c k2 → ((j : ℕ) (k3 : Connection) → c ≢ j → slice_get w.conns j ≡ Some k3 → P w.brought since j k3)
      → (j : ℕ) (k3 : Connection) → slice_get (slice_set w.conns c k2) j ≡ Some k3 → P w.brought since j k3
  set_all w c k k2 since here p f j k3 g = ⊎_elim (λ h. subst (λ i. P w.brought since i k3) h.0 (subst (P w.brought since c) h.1 p)) (λ h. f j k3 h.0 h.1) (get_set w.conns c j k k2 k3 here g)

  step_along : (w : World) (e : Event) (seen : Seen) (w2 : World) → Reached S brought w → All w → Did S w e seen w2 → IsMade w e seen → IsCountedIn seen → All w2
  step_along w e seen w2 r all (opens peer room) made counted = λ j k g. ⊎_elim (λ h. all j k h)
      (λ h. subst (λ i. P w.brought w.since i k) (sym h.0) (subst (P w.brought w.since (length w.conns)) h.1 (begun w peer r (or_parts (nat_le 16 (live w)) _ room).1))) (get_more w.conns j (fresh peer) k g)
  step_along w e seen w2 r all (acts event k x here d) made counted =
      set_all w (place event) k x.conn (w.since ++ commit_entries (place event) (answer_count k.says) x.commit) here (did w event k x r here (all (place event) k here) d made counted)
      (λ j k3 n g. others w.brought w.since j (place event) (answer_count k.says) x.commit k3 n (all j k3 g))

  pub along : {w : World} → Reached S brought w → All w
  along (begins l) = λ c k g. cc
  along (goes_on w w2 e seen r t) = step_along w e seen w2 r (along r) (step_did S w e seen w2 t.steps) t.made t.counted
  along (takes_out w c n r) = go (slice_get w.conns c) refl (along r)
    where
      go : (o : Option Connection) → slice_get w.conns c ≡ o → All w → All (taken_out w c n o)
      go None g all = all
      go (Some k) g all = set_all w c k (record k { taken = (effect_at_peer k.peer n k).conn.taken }) w.since g (taken_case (λ t. P w.brought w.since c (record k { taken = t })) k.peer n k (all c k g) (drawn w.brought w.since c n k (all c k g))) (λ j k3 _ h. all j k3 h)
