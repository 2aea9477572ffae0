-- The server's rest of a world, call by call.
use Rattle.std.proofs.Common.{◌≡◌, refl, sym, ◌∙◌, ap, ℕ, Bool, true, false, if◌then◌else◌, Option, Some, None, option_to_list, List, [], ◌∷◌, ◌++◌, take, drop, map, append-nil, ap₂, subst, zero, suc, ◌+◌, ◌^◌, ◌==◌, not, ◌||◌, nat_le, min, option_map, Result, length, slice_get, slice_set, count_by, arith, append_assoc, length-append, length-set, cond}
use Rattle.std.proofs.lemmas.List.{drop-append-le, drop-drop, drop_min}
use Rattle.wire.specs.Prelude.{state, takes as reads, reach, at_server, bytes_newest_first, Opened}
use Rattle.messages.specs.Prelude.{RequestView, ResponseView, Arrival, Shook, NoMagic, Asked, Unread, TooLong, arrivals, Heard, Chosen, heard_bytes}
use Rattle.machine.specs.declared.State.{State}
use Rattle.machine.specs.Prelude.{kind_of, is_reset}
use Rattle.engine.specs.Prelude.{EntryView, WriteView, ParameterView, AnswerView, QueryFault, Welcome}
use Rattle.server_session.specs.declared.Cause.{Cause}
use Rattle.server_session.specs.Prelude.{Setting, Open, Tx, Reply, OneRow, Summary, Bye, Step, after_item, after_interrupt, ends, puts, puts_noop, noop_kept, unread_among, work_kept, Kept, worked_of, what_of, shut, full, commit_entries}
use Rattle.server.specs.Prelude.{arrival, Feeding, feeding, takes_item, Live, find, replace, without, places_of}
use Rattle.world.specs.Prelude.{Connection, SaysNoop, heard_as, said_version, output, arrivals_at, waiting, answer_count, kept_of, keeping, Peer, fresh, said_by, take_item, noop, live, World, Effect, Seen, quiet, Fed, SawNothing, takes, feed, server_gone, ledger, work, after_effect, live_of, sessions_from, server_rest}
use Rattle.client.proofs.Steps.{drop_next}
use Rattle.world.proofs.Deeds.{replied, step_case, interrupt_case}
use Rattle.server.proofs.Arriving.{placed-append}
use Rattle.world.proofs.Sound.{more_arrives, unsaid, Sound, spoken, last_same, used_same, rest_same, reads_on}
use Rattle.std.proofs.lemmas.Bool.{eq-eqb, ne_eqb, cond-true, cond-false, cond_both}
use Rattle.std.proofs.lemmas.List.Recursion.{is_count_by}
use Rattle.engine.specs.declared.Mode.{Mode as QueryMode}
use Rattle.server.specs.declared.Took.{Took}
use Rattle.server.specs.Serving as serving

-- What a session keeps after a call is what its connection then says that it keeps.
module _ (k : Connection) (s : Sound k) where
  -- what is said is unsent, behind the rest
  unsent_more : (x : Heard) → drop k.taken (output k ++ heard_bytes (said_version k) x) ≡ drop k.taken (output k) ++ heard_bytes (said_version k) x
  unsent_more x = drop-append-le k.taken (output k) (heard_bytes (said_version k) x) s.counts

  -- a work step
  abbrev Keeps : Step → Type 0
  Keeps d = kept_of (keeping k d.kept (said_by d.answer)) ≡ d.kept

  reply_kept : (all : List EntryView) (st : State) (re : Open) (tx : Tx) (q : RequestView) (later : List Arrival) → waiting k ≡ Asked q ∷ later → (r : Reply) → Keeps (replied k all st re tx q later r)
  reply_kept all st re tx q later w (OneRow row left) = ap (λ u. record (kept_of k) { state = st; result = left; tx = tx; unsent = u }) (unsent_more (Heard.Told (ResponseView.Record row)))
  reply_kept all st re tx q later w Bye = refl
  reply_kept all st re tx q later w (Summary v a left t entry) = rw (unsent_more (Heard.Told a), drop_next (arrivals_at k) (answer_count k.says) ∙ ap (drop 1) w) refl

  pub step_keeps : (S : Setting) (c : ℕ) (all : List EntryView) → Keeps (work_kept S c all (kept_of k) k.ended)
  step_keeps S c all =
      step_case Keeps S c all k (λ d e. ap (λ xs. kept_of (keeping k (kept_of k) xs)) e) (λ _ cause. refl)
      (λ _ st re tx q later w. reply_kept all st re tx q later w _)

  -- a no-op
  pub noop_keeps : kept_of (noop k).conn ≡ noop_kept (kept_of k)
  noop_keeps = go (puts_noop (kept_of k))
    where
      go : (b : Bool) → kept_of (record k { says = if b then SaysNoop ∷ k.says else k.says }) ≡ (if b then record (kept_of k) { unsent = puts (kept_of k) Heard.Quiet } else kept_of k)
      go true = ap (λ u. record (kept_of k) { unsent = u }) (unsent_more Heard.Quiet)
      go false = refl

  -- an item that arrives
  module _ (going : k.ended ≡ None) (good : unread_among (arrivals_at k) ≡ false) (piece : List ℕ) where
    abbrev up2 : List ℕ
    up2 = k.up ++ take (reach arrivals k.up piece) piece

    abbrev a : Option Arrival
    a = arrival (kept_of k) (reads at_server (state at_server at_server.start k.up) piece).item

    waits : (o : Option Arrival) → a ≡ o → drop (answer_count k.says) (places_of (arrivals up2)) ≡ waiting k ++ places_of (option_to_list o)
    waits o e =
        ap (λ z. drop (answer_count k.says) (places_of z)) (more_arrives k.up k.version k.says (s.stage going) good piece ∙ ap (λ x. arrivals k.up ++ option_to_list x) e)
        ∙ ap (drop (answer_count k.says)) (placed-append (arrivals k.up) (option_to_list o))
        ∙ drop-append-le (answer_count k.says) (arrivals_at k) (places_of (option_to_list o)) s.past

    none_waits : (o : Option Arrival) → a ≡ o → places_of (option_to_list o) ≡ [] → drop (answer_count k.says) (places_of (arrivals up2)) ≡ waiting k
    none_waits o e h = waits o e ∙ ap (λ z. waiting k ++ z) h ∙ append-nil (waiting k)

    pub item_keeps : (used : ℕ) (o : Option Arrival) → a ≡ o → kept_of (take_item k up2 used o).conn ≡ after_item (kept_of k) o
    item_keeps used (Some NoMagic) e = ap (λ w. record (ends Cause.BadMagic (kept_of k)) { waiting = w }) (none_waits (Some NoMagic) e refl)
    item_keeps used (Some (Unread x)) e = ap (λ w. record (kept_of k) { waiting = w }) (waits (Some (Unread x)) e)
    item_keeps used (Some TooLong) e = ap (λ w. record (kept_of k) { waiting = w }) (waits (Some TooLong) e)
    item_keeps used (Some (Asked q)) e =
        interrupt_case (λ t. kept_of (spoken k t [] up2) ≡ t) (is_reset (kind_of q)) (record (kept_of k) { waiting = waiting k ++ Asked q ∷ [] })
        (ap (λ w. record (kept_of k) { waiting = w }) (waits (Some (Asked q)) e)) (λ _. ap (λ w. record (after_interrupt (kept_of k)) { waiting = w }) (waits (Some (Asked q)) e))
    item_keeps used (Some (Shook (Some v))) e =
        let f = (unsaid k.up k.version k.says (s.stage going) good piece (Some v) e).1 in
        let said : bytes_newest_first (heard_bytes v) (map heard_as k.says) ≡ output k = ap (λ xs. bytes_newest_first (heard_bytes v) (map heard_as xs)) f ∙ sym (ap (λ xs. bytes_newest_first (heard_bytes (said_version k)) (map heard_as xs)) f) in
        rw (none_waits (Some (Shook (Some v))) e refl, said, drop-append-le k.taken (output k) (heard_bytes v (Chosen (Some v))) s.counts) refl
    item_keeps used (Some (Shook None)) e = rw (none_waits (Some (Shook None)) e refl, unsent_more (Chosen None)) refl
    item_keeps used o e = ap (λ w. record (kept_of k) { waiting = w }) (none_waits o e refl)

-- two choices by one test, where what is chosen stands so
same_choice : {A B : Type 0} (R : A → B → Type 0) (b : Bool) (x y : A) (z w : B) → R x z → (b ≡ false → R y w) → R (if b then x else y) (if b then z else w)
same_choice R true x y z w p q = p
same_choice R false x y z w p q = q refl

-- the session of a place that wasn't given up
pub find_at : (ks : List Connection) (c i j : ℕ) (k : Connection) → j ≡ c + i → slice_get ks i ≡ Some k → k.server_lost ≡ false → find j (sessions_from c ks) ≡ Some (live_of j k)
find_at [] c i j k e h l = cc
find_at (x ∷ ks) c zero j k e h l =
    let same : x ≡ k = cc in let here : c ≡ j = omega arith in
    ap (find j) (cond-false x.server_lost _ _ (ap (λ z. z.server_lost) same ∙ l)) ∙ cond-true (c == j) _ _ (eq-eqb c j here) ∙ ap₂ (λ a z. Some (live_of a z)) here same
find_at (x ∷ ks) c (suc i) j k e h l =
    let r = find_at ks (suc c) i j k (omega arith) h l in
    cond_both x.server_lost (sessions_from (suc c) ks) (live_of c x ∷ sessions_from (suc c) ks) (λ ss. find j ss ≡ Some (live_of j k)) (λ _. r) (λ _. cond-false (c == j) _ _ (ne_eqb c j (λ q. absurd (omega arith))) ∙ r)

-- a session in another's place
pub replace_at : (ks : List Connection) (c i j : ℕ) (k k2 : Connection) (s : Live) → j ≡ c + i → slice_get ks i ≡ Some k → k.server_lost ≡ false → k2.server_lost ≡ false → s ≡ live_of j k2
    → replace j s (sessions_from c ks) ≡ sessions_from c (slice_set ks i k2)
replace_at [] c i j k k2 s e h l l2 m = cc
replace_at (x ∷ ks) c zero j k k2 s e h l l2 m =
    let same : x ≡ k = cc in let here : c ≡ j = omega arith in
    ap (replace j s) (cond-false x.server_lost _ _ (ap (λ z. z.server_lost) same ∙ l)) ∙ cond-true (c == j) _ _ (eq-eqb c j (omega arith))
    ∙ ap (λ z. z ∷ sessions_from (suc c) ks) (m ∙ ap (λ a. live_of a k2) (sym here)) ∙ sym (cond-false k2.server_lost _ _ l2)
replace_at (x ∷ ks) c (suc i) j k k2 s e h l l2 m =
    let r = replace_at ks (suc c) i j k k2 s (omega arith) h l l2 m in
    same_choice (λ (ss : List Live) (zs : List Live). replace j s ss ≡ zs) x.server_lost _ _ _ _ r (λ _. cond-false (c == j) _ _ (ne_eqb c j (λ q. absurd (omega arith))) ∙ ap (λ z. live_of c x ∷ z) r)

-- a session that is given up
pub without_at : (ks : List Connection) (c i j : ℕ) (k k2 : Connection) → j ≡ c + i → slice_get ks i ≡ Some k → k.server_lost ≡ false → k2.server_lost ≡ true → without j (sessions_from c ks) ≡ sessions_from c (slice_set ks i k2)
without_at [] c i j k k2 e h g l = cc
without_at (x ∷ ks) c zero j k k2 e h g l =
    let same : x ≡ k = cc in
    ap (without j) (cond-false x.server_lost _ _ (ap (λ z. z.server_lost) same ∙ g)) ∙ cond-true (c == j) _ _ (eq-eqb c j (omega arith)) ∙ sym (cond-true k2.server_lost _ _ l)
without_at (x ∷ ks) c (suc i) j k k2 e h g l =
    let r = without_at ks (suc c) i j k k2 (omega arith) h g l in
    same_choice (λ (ss : List Live) (zs : List Live). without j ss ≡ zs) x.server_lost _ _ _ _ r (λ _. cond-false (c == j) _ _ (ne_eqb c j (λ q. absurd (omega arith))) ∙ ap (λ z. live_of c x ∷ z) r)

-- a change that no session sees
pub unseen_at : (ks : List Connection) (c i : ℕ) (k k2 : Connection) → slice_get ks i ≡ Some k → k2.server_lost ≡ k.server_lost → (k.server_lost ≡ false → (j : ℕ) → live_of j k2 ≡ live_of j k) → sessions_from c (slice_set ks i k2) ≡ sessions_from c ks
unseen_at [] c i k k2 h l m = cc
unseen_at (x ∷ ks) c zero k k2 h l m = let same : x ≡ k = cc in subst (λ z. sessions_from c (k2 ∷ ks) ≡ sessions_from c (z ∷ ks)) (sym same)
    (cond_both k.server_lost (sessions_from (suc c) ks) (live_of c k ∷ sessions_from (suc c) ks) (λ ss. sessions_from c (k2 ∷ ks) ≡ ss) (λ e. cond-true k2.server_lost _ _ (l ∙ e)) (λ e. cond-false k2.server_lost _ _ (l ∙ e) ∙ ap (λ z. z ∷ sessions_from (suc c) ks) (m e c)))
unseen_at (x ∷ ks) c (suc i) k k2 h l m = ap (λ z. if x.server_lost then z else live_of c x ∷ z) (unseen_at ks (suc c) i k k2 h l m)

-- one more session
pub sessions-append : (ks : List Connection) (c : ℕ) (k : Connection) → k.server_lost ≡ false → sessions_from c (ks ++ k ∷ []) ≡ sessions_from c ks ++ live_of (c + length ks) k ∷ []
sessions-append [] c k l = let same : c ≡ c + 0 = omega arith in cond-false k.server_lost _ _ l ∙ ap (λ n. live_of n k ∷ []) same
sessions-append (x ∷ ks) c k l =
    let same : suc c + length ks ≡ c + suc (length ks) = omega arith in
    let r = sessions-append ks (suc c) k l ∙ ap (λ n. sessions_from (suc c) ks ++ live_of n k ∷ []) same in
    same_choice (λ (ss : List Live) (zs : List Live). ss ≡ zs ++ live_of (c + suc (length ks)) k ∷ []) x.server_lost _ _ _ _ r (λ _. ap (λ z. live_of c x ∷ z) r)

-- as many sessions as live
lengths_same : (ks : List Connection) (c d : ℕ) → length (sessions_from c ks) ≡ length (sessions_from d ks)
lengths_same [] c d = refl
lengths_same (x ∷ ks) c d = let r = lengths_same ks (suc c) (suc d) in same_choice (λ (ss : List Live) (zs : List Live). length ss ≡ length zs) x.server_lost _ _ _ _ r (λ _. ap suc r)

pub sessions-length : (ks : List Connection) → length (sessions_from 0 ks) ≡ count_by (λ k. not k.server_lost) ks
sessions-length ks = is_count_by (λ xs. length (sessions_from 0 xs)) (λ k. not k.server_lost) refl (λ x xs. go x xs x.server_lost (lengths_same xs 1 0)) ks
  where
    go : (x : Connection) (xs : List Connection) (b : Bool) → length (sessions_from 1 xs) ≡ length (sessions_from 0 xs)
        → length (if b then sessions_from 1 xs else live_of 0 x ∷ sessions_from 1 xs) ≡ cond (not b) (1 + length (sessions_from 0 xs)) (length (sessions_from 0 xs))
    go x xs true e = e
    go x xs false e = omega (arith, e)

-- A change at a connection that no session sees, and two that are one to its session.
module _ {G : Type 0} (gate : G) (w : World) (c : ℕ) (k : Connection) (here : slice_get w.conns c ≡ Some k) where
  pub unseen : (k2 : Connection) (seen : Seen) → k2.server_lost ≡ k.server_lost → (k.server_lost ≡ false → (j : ℕ) → live_of j k2 ≡ live_of j k) → server_rest gate w ≡ server_rest gate (after_effect w c k (quiet k2 seen))
  unseen k2 seen l m =
      ap₂ (λ (ss : List Live) (x : ℕ × List EntryView). record { sessions = ss; next = x.0; ledger = w.brought ++ x.1; gate = gate }) (sym (unseen_at w.conns 0 c k k2 here l m))
      (ap₂ (λ (a : ℕ) (b : List EntryView). (a, b)) (sym (length-set w.conns c k2)) (sym (append-nil w.since)))

  pub alike : (k2 k3 : Connection) (s2 s3 : Seen) → k.server_lost ≡ false → k2.server_lost ≡ false → k3.server_lost ≡ false → live_of c k2 ≡ live_of c k3
      → server_rest gate (after_effect w c k (quiet k2 s2)) ≡ server_rest gate (after_effect w c k (quiet k3 s3))
  alike k2 k3 s2 s3 lives l2 l3 e =
      ap₂ (λ (ss : List Live) (n : ℕ). record { sessions = ss; next = n; ledger = w.brought ++ (w.since ++ []); gate = gate })
      (sym (replace_at w.conns 0 c c k k2 (live_of c k2) (omega arith) here lives l2 refl) ∙ replace_at w.conns 0 c c k k3 (live_of c k2) (omega arith) here lives l3 e)
      (length-set w.conns c k2 ∙ sym (length-set w.conns c k3))

-- Each call, on the rest of a world.
module _ (G : Type 0) (gate : G) (w : World) (c : ℕ) (k : Connection) (here : slice_get w.conns c ≡ Some k) (lives : k.server_lost ≡ false) (s : Sound k) where
  abbrev r : serving.Rest G
  r = server_rest gate w

  found : find c r.sessions ≡ Some (live_of c k)
  found = find_at w.conns 0 c c k (omega arith) here lives

  -- what a call leaves of the server that commits this, with what it keeps in the place of the connection
  after_call : (e : Effect) (l : Live) → e.conn.server_lost ≡ false → l ≡ live_of c e.conn
      → ◌≡◌ {A = serving.Rest G} (record { sessions = replace c l r.sessions; next = length w.conns; ledger = ledger w ++ commit_entries c (answer_count k.says) e.commit; gate = gate }) (server_rest gate (after_effect w c k e))
  after_call e l gone same =
      ap₂ (λ (ss : List Live) (x : ℕ × List EntryView). record { sessions = ss; next = x.0; ledger = x.1; gate = gate }) (replace_at w.conns 0 c c k e.conn l (omega arith) here lives gone same)
      (ap₂ (λ (n : ℕ) (es : List EntryView). (n, es)) (sym (length-set w.conns c e.conn)) (append_assoc w.brought w.since (commit_entries c (answer_count k.says) e.commit)))

  -- one that commits nothing
  call_served : {A : Type 0} (f : Live → A × Live) (e : Effect) → (f (live_of c k)).1.conn ≡ c → e.commit ≡ None → e.conn.server_lost ≡ false → (f (live_of c k)).1 ≡ live_of c e.conn
      → serving.on_live f c r ≡ Some ((f (live_of c k)).0, server_rest gate (after_effect w c k e))
  call_served f e conn none gone same =
      let l = (f (live_of c k)).1 in
      ap (option_map (λ z. ((f z).0, serving.with_session (f z).1 r))) found ∙ ap (λ x. Some ((f (live_of c k)).0, x))
      (ap₂ (λ (n : ℕ) (es : List EntryView). record { sessions = replace n l r.sessions; next = length w.conns; ledger = es; gate = gate }) conn (sym (append-nil (ledger w)) ∙ ap (λ o. ledger w ++ commit_entries c (answer_count k.says) o) (sym none))
      ∙ after_call e l gone same)

  -- `work`
  pub work_served : (answer : List EntryView → List WriteView → List ℕ → List ParameterView → QueryMode → Result AnswerView QueryFault) (welcomes : G → Welcome) → let S = serving.setting answer welcomes r in
      serving.work_at answer welcomes c r ≡ Some (worked_of (work_kept S c (ledger w) (kept_of k) k.ended).answer, server_rest gate (after_effect w c k (work S c (ledger w) k)))
  work_served answer welcomes =
      let S = serving.setting answer welcomes r in let d = work_kept S c (ledger w) (kept_of k) k.ended in
      ap (option_map (λ (l : Live). serving.after_step l (work_kept S l.conn r.ledger l.kept l.kept.ended) r)) found
      ∙ ap (λ x. Some (worked_of d.answer, x)) (after_call (work S c (ledger w) k) _ lives (ap (λ (x : Kept). let l : Live = record { conn = c; kept = x; unfinished = state at_server at_server.start k.up } in l) (sym (step_keeps k s S c (ledger w)))))

  -- `noop`
  pub noop_served : serving.noop_at c r ≡ Some (puts_noop (kept_of k), server_rest gate (after_effect w c k (noop k)))
  noop_served = call_served serving.noop_put (noop k) refl refl lives (ap (λ (x : Kept). let l : Live = record { conn = c; kept = x; unfinished = state at_server at_server.start k.up } in l) (sym (noop_keeps k s)))

  -- `take_out` of so many bytes
  pub take_served : (n : ℕ) → let t = min (k.taken + n) (length (output k)) in
      serving.take_out_at c n r ≡ Some (take n (drop k.taken (output k)), server_rest gate (after_effect w c k (quiet (record k { taken = t }) SawNothing)))
  take_served n =
      call_served (serving.taken_from n) (quiet (record k { taken = min (k.taken + n) (length (output k)) }) SawNothing) refl refl lives
      (ap (λ (z : List ℕ). let l : Live = record { conn = c; kept = record (kept_of k) { unsent = z }; unfinished = state at_server at_server.start k.up } in l) (drop-drop n k.taken (output k) ∙ sym (drop_min (k.taken + n) (output k))))

  -- `feed`, where no cut stands between
  abbrev SameFeed : Effect → Feeding → Type 0
  SameFeed e f = (e.commit ≡ None) × (e.conn.server_lost ≡ false) × ((serving.after_feeding c f).1 ≡ live_of c e.conn) × (e.seen ≡ Fed f.took.used f.took.what)

  feed_same : k.cut ≡ false → (piece : List ℕ) → SameFeed (feed piece k) (feeding (state at_server at_server.start k.up) piece (kept_of k))
  feed_same joined piece =
      subst (λ e. SameFeed e (feeding (state at_server at_server.start k.up) piece (kept_of k))) (sym (cond-false k.server_lost _ _ lives ∙ cond-false k.cut _ _ joined))
      (same_choice SameFeed (shut (kept_of k)) _ _ _ _ (refl, lives, refl, refl) (λ going. same_choice SameFeed (full (kept_of k)) _ _ _ _ (refl, lives, refl, refl)
      (λ _. let g = reads_on k s going in taken g.0 g.1)))
    where
      taken : (going : k.ended ≡ None) (good : unread_among (arrivals_at k) ≡ false)
          → SameFeed (takes k piece (reach arrivals k.up piece)) (takes_item (kept_of k) (reads at_server (state at_server at_server.start k.up) piece))
      taken going good =
          let st = s.stage going in let n = reach arrivals k.up piece in
          let up2 = k.up ++ take n piece in let a = arrival (kept_of k) (reads at_server (state at_server at_server.start k.up) piece).item in
          subst (λ o. SameFeed (take_item k up2 n o) (takes_item (kept_of k) (reads at_server (state at_server at_server.start k.up) piece))) (sym (last_same k.up k.version k.says st good piece)) (
            refl,
            lives,
            ap₂ (λ (x : Kept) (y : Opened). let l : Live = record { conn = c; kept = x; unfinished = y } in l) (sym (item_keeps k s going good piece n a refl)) (sym (rest_same k.up k.version k.says st good piece)),
            ap (λ z. Fed z (what_of a)) (used_same k.up k.version k.says st good piece),
          )

  pub feed_served : k.cut ≡ false → (piece : List ℕ) → let e = feed piece k in
      (took : Took) × (serving.feed_at c piece r ≡ Some (took, server_rest gate (after_effect w c k e))) × (e.seen ≡ Fed took.used took.what)
  feed_served joined piece =
      let f = feeding (state at_server at_server.start k.up) piece (kept_of k) in let same = feed_same joined piece in
      (f.took, call_served (λ z. serving.fed_live z piece) (feed piece k) refl same.0 same.1 same.2, same.3)

  -- `lost`
  pub lost_served : serving.lost_at c r ≡ (Some (serving.cause_or k.ended), server_rest gate (after_effect w c k (server_gone k)))
  lost_served =
      ap₂ (λ (o : Option Cause) (x : serving.Rest G). (o, x)) (ap (option_map (λ (z : Live). serving.cause_or z.kept.ended)) found)
      (ap₂ (λ (ss : List Live) (x : ℕ × List EntryView). record { sessions = ss; next = x.0; ledger = w.brought ++ x.1; gate = gate }) (without_at w.conns 0 c c k (server_gone k).conn (omega arith) here lives refl)
      (ap₂ (λ (n : ℕ) (es : List EntryView). (n, es)) (sym (length-set w.conns c (server_gone k).conn)) (sym (append-nil w.since))))

-- `open`
pub open_served : (G : Type 0) (gate : G) (w : World) (peer : Peer)
    → (serving.is_full (server_rest gate w) ≡ (nat_le 16 (live w) || nat_le (2 ^ 63) (length w.conns)))
    × (serving.opened (server_rest gate w) ≡ server_rest gate (record { conns = w.conns ++ fresh peer ∷ []; brought = w.brought; since = w.since }))
open_served G gate w peer = (
  ap (λ n. nat_le 16 n || nat_le (2 ^ 63) (length w.conns)) (sessions-length w.conns),
  ap₂ (λ (ss : List Live) (n : ℕ). record { sessions = ss; next = n; ledger = ledger w; gate = gate })
      (ap (λ n. sessions_from 0 w.conns ++ live_of n (fresh peer) ∷ []) (let same : length w.conns ≡ 0 + length w.conns = omega arith in same) ∙ sym (sessions-append w.conns 0 (fresh peer) refl)) (sym (length-append w.conns (fresh peer ∷ []))),
)
