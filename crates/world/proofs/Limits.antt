-- What a step leaves as it was, how the ledger grows, and how much is kept.
use Rattle.std.proofs.Common.{◌==◌, ◌≡◌, ℕ, Some, List, refl, sym, ◌∙◌, subst, Option, Ok, None, [], ◌∷◌, ◌++◌, length, take, drop, slice_get, slice_set, append-nil, append_assoc, length-append, length-set, ◌<◌, arith, ◌⊎◌, inl, inr, ap, ◌+◌, ◌-◌, ◌≤◌, true, false, min, true≢false, is_some, ⊎_elim}
use Rattle.messages.specs.Prelude.{RequestView, Arrival, Asked}
use Rattle.machine.specs.declared.State.{State}
use Rattle.engine.specs.Prelude.{EntryView, TokensOnce, added_by, Welcome}
use Rattle.server_session.proofs.Free.{entry_in, serve_free}
use Rattle.server_session.specs.Prelude.{IsFree, Open, Reply, Setting, Summary, Tx, Change, commit_entries, Step, work_kept, worked_of}
use Rattle.world.specs.Prelude.{Connection, said_version, fresh, answer_count, input, output, kept_of, arrivals_at, Effect, IsCountedIn, effect_of_step, work, World, Event, Work, Seen, IsLedger, after_effect, effect_at_peer, ledger, place, step, taken_out, Reached, begins, goes_on, takes_out, Fed, SawWork, SawNoop, SawNothing, quiet, Gave, feed, give, taken_for, noop, server_gone, live, CommitsOnce, Each, IsAt, Enters, LeavesOthers, GrowsByWork, Commits, GrowsByCommits, server_rest, live_of, Definition, setting_of}
use Rattle.world.proofs.Deeds.{replied, step_case, Deed, Did, opens, acts, step_did, set_other, feed_hushed, taken_case, feed_case, silent_step, noop_case}
use Rattle.world.proofs.Serve.{Counted}
use Rattle.std.proofs.lemmas.Option.{slice_get_within, same_Some}
use Rattle.world.proofs.Deeds as deed
use Rattle.world.proofs.Trace.{each_append, each_map, get_append}
use Rattle.engine.proofs.Once.{once_after}
use Rattle.std.proofs.lemmas.Bool.{cases_Bool, cond-false, cond_both}
use Rattle.client.specs.Prelude.{Nothing}
use Rattle.server.specs.Serving as serving
use Rattle.server.specs.Prelude.{is_full, Live, find, after_call, after_event, after_events, Bounded, AllBounded, IsKept, Adds, Grows, nothing, one}
use Rattle.server.specs.Running as running
use Rattle.world.proofs.Sound.{Sound, AllSound, still_lives, reached_sound, first_of}
use Rattle.world.proofs.Served.{unseen, alike, sessions-length, work_served, feed_served, noop_served, take_served, lost_served, open_served, find_at}
use Rattle.machine.specs.Prelude.{phase_of, kind_of, commits}
use Rattle.server.proofs.Ledgers.{grows}

-- what an effect adds was free, and where it is counted leaves a ledger shorter than 2^63
pub record AddsFree (all : List EntryView) (e : Effect) : Type 0 where
  pub free : IsFree all e.commit
  pub counted : IsCountedIn e.seen → Counted all e.commit

module _ (all : List EntryView) where
  reply_adds : (k : Connection) (st : State) (re : Open) (t : Tx) (q : RequestView) (later : List Arrival) (r : Reply) → IsFree all (entry_in r) → AddsFree all (effect_of_step k (replied k all st re t q later r))
  reply_adds k st re t q later (Summary d a left tx (Some u)) f = record { free = f; counted = λ n. n }
  reply_adds k st re t q later _ f = record { free = tt; counted = λ _. tt }

  pub work_adds : (S : Setting) (c : ℕ) (k : Connection) → AddsFree all (work S c all k)
  work_adds S c k =
      step_case (λ d. AddsFree all (effect_of_step k d)) S c all k (λ d _. record { free = tt; counted = λ _. tt }) (λ _ cause. record { free = tt; counted = λ _. tt })
      (λ _ st re t q later _. reply_adds k st re t q later _ (serve_free S (said_version k) c all st re t q))

-- no event but Work commits
abbrev pub CommitsAtWork : List EntryView → Event → Effect → Type 0
CommitsAtWork all e x = ((x.commit ≡ None) ⊎ (e ≡ Work (place e))) × AddsFree all x

none : (all : List EntryView) (e : Event) (x : Effect) → x.commit ≡ None → CommitsAtWork all e x
none all e x h = (inl h, record { free = subst (IsFree all) (sym h) tt; counted = λ _. subst (Counted all) (sym h) tt })

module _ {S : Setting} {c : ℕ} {all : List EntryView} {k : Connection} where
  pub deed_commits : {e : Event} {x : Effect} → Deed S c all k e x → CommitsAtWork all e x
  deed_commits (deed.works i) = (inr refl, work_adds all S c k)
  deed_commits (deed.hands i n wish p) = none all _ _ (feed_hushed (take n (drop (length k.up) (input wish k.sent))) k).1
  deed_commits (deed.feeds i piece p) = none all _ _ (feed_hushed piece k).1
  deed_commits _ = none all _ _ refl

  deed_at : {e : Event} {x : Effect} → Deed S c all k e x → (j : ℕ) → place e ≡ j → IsAt e j
  deed_at (deed.works i) j p = p
  deed_at _ j p = p

-- what a ledger is, of a world: entries that came since are of its connections
pub record LedgerOf (w : World) : Type 0 where
  pub is : IsLedger (ledger w)
  pub below : Each (λ e. e.conn < length w.conns) w.since

-- all of it, of a step from one world to another; and that the ledger stays one
pub record KeptBy (w : World) (e : Event) (seen : Seen) (w2 : World) : Type 0 where
  pub others : (j : ℕ) (k : Connection) → (IsAt e j → ⊥) → slice_get w.conns j ≡ Some k → slice_get w2.conns j ≡ Some k
  pub grows : (w2.brought ≡ w.brought) × ((w2.since ≡ w.since) ⊎ Enters w e w2)
  pub stays : IsCountedIn seen → LedgerOf w → LedgerOf w2

module _ (S : Setting) (w : World) where
  entry_of : (e : Event) (k : Connection) (w2 : World) (o : Option Change) → w2.since ≡ w.since ++ commit_entries (place e) (answer_count k.says) o → (o ≡ None) ⊎ (e ≡ Work (place e)) → IsFree (ledger w) o
      → (w2.since ≡ w.since) ⊎ Enters w e w2
  entry_of e k w2 None is h f = inl (is ∙ append-nil w.since)
  entry_of e k w2 (Some u) is (inl h) f = cc
  entry_of e k w2 (Some u) is (inr h) f = inr (record { conn = place e; ordinal = answer_count k.says; change = u; works = h; free = f; entry = is })

  is_after : (c : ℕ) (k k2 : Connection) (o : Option Change) → slice_get w.conns c ≡ Some k → IsFree (ledger w) o → Counted (ledger w) o → LedgerOf w
      → LedgerOf (record { conns = slice_set w.conns c k2; brought = w.brought; since = w.since ++ commit_entries c (answer_count k.says) o })
  is_after c k k2 None here f n h = record {
    is = subst (λ es. IsLedger (w.brought ++ es)) (sym (append-nil w.since)) h.is;
    below = rw (length-set w.conns c k2) (subst (Each (λ e. e.conn < length w.conns)) (sym (append-nil w.since)) h.below);
  }
  is_after c k k2 (Some u) here f n h =
      let x : EntryView = record { conn = c; ordinal = answer_count k.says; writes = u.writes; token = u.token } in
      record {
        is = subst IsLedger (append_assoc w.brought w.since (x ∷ [])) (record { once = subst (λ a. TokensOnce (ledger w ++ added_by x a)) f (once_after (ledger w) x h.is.once); counted = omega (arith, n, length-append (ledger w) (x ∷ [])) });
        below = rw (length-set w.conns c k2) (each_append _ w.since (x ∷ []) h.below (slice_get_within w.conns c k here, tt));
      }

  did_keeps : (e : Event) (seen : Seen) (w2 : World) → Did S w e seen w2 → KeptBy w e seen w2
  did_keeps e seen w2 (opens peer room) = record { others = λ j k far g. get_append w.conns (fresh peer ∷ []) j k g; grows = (refl, inl refl); stays = λ n h. record { is = h.is; below = each_map _ _ w.since (λ e l. omega (arith, length-append w.conns (fresh peer ∷ []))) h.below } }
  did_keeps e seen w2 (acts event k x here d) =
      let commits = deed_commits d in
      record {
        others = λ j k3 far g. set_other w.conns (place event) j x.conn (λ p. far (deed_at d j p)) ∙ g;
        grows = (refl, entry_of event k (after_effect w (place event) k x) x.commit refl commits.0 commits.1.free);
        stays = λ n h. is_after (place event) k x.conn x.commit here commits.1.free (commits.1.counted n) h;
      }

  pub step_keeps : (e : Event) (seen : Seen) (w2 : World) → step S w e ≡ Ok (w2, seen) → KeptBy w e seen w2
  step_keeps e seen w2 h = did_keeps e seen w2 (step_did S w e seen w2 h)

taken_ledger : (w : World) (c n : ℕ) (o : Option Connection) → LedgerOf w → LedgerOf (taken_out w c n o)
taken_ledger w c n None h = h
taken_ledger w c n (Some k) h = record { is = h.is; below = rw (length-set w.conns c (record k { taken = (effect_at_peer k.peer n k).conn.taken })) h.below }

-- every reached ledger keeps its tokens apart
pub reached_ledger : (S : Setting) (brought : List EntryView) {w : World} → Reached S brought w → LedgerOf w
reached_ledger S brought (begins l) = record { is = subst IsLedger (sym (append-nil brought)) l; below = tt }
reached_ledger S brought (goes_on w w2 e seen r s) = (step_keeps S w e seen w2 s.steps).stays s.counted (reached_ledger S brought r)
reached_ledger S brought (takes_out w c n r) = taken_ledger w c n (slice_get w.conns c) (reached_ledger S brought r)

pub commits_once : CommitsOnce
commits_once S brought w r = (reached_ledger S brought r).is.once

pub leaves_others : LeavesOthers
leaves_others S w e seen w2 h j k far here = (step_keeps S w e seen w2 h).others j k far here

pub grows_by_work : GrowsByWork
grows_by_work S w e seen w2 h = (step_keeps S w e seen w2 h).grows

-- How much is kept of each connection: what a step does to a world is one call on the server, and one on the client, or none.
-- what a list of sessions keeps, each of them keeps
bounded_at : (ss : List Live) (j : ℕ) (l : Live) → AllBounded ss → find j ss ≡ Some l → Bounded l
bounded_at [] j l b h = cc
bounded_at (s ∷ ss) j l b h = cond_both (s.conn == j) (Some s) (find j ss) (λ o. o ≡ Some l → Bounded l) (λ _ e. subst Bounded (same_Some s l e) b.0) (λ _ e. bounded_at ss j l b.1 e) h

module _ {G : Type 0} (answer : Definition) (welcomes : G → Welcome) (gate : G) where
  abbrev S : Setting
  S = setting_of answer welcomes gate

  abbrev rest : World → serving.Rest G
  rest w = server_rest gate w

  -- the server's part of a step: nothing, or one call
  abbrev MovesTo : World → serving.Rest G → Type 0
  MovesTo w r = (rest w ≡ r) ⊎ ((e : running.Event) × (r ≡ after_event answer welcomes e (rest w)))

  module _ (w : World) (c : ℕ) (k : Connection) (here : slice_get w.conns c ≡ Some k) (s : Sound k) where
    abbrev P : Effect → Type 0
    P e = MovesTo w (rest (after_effect w c k e))

    -- a change that no session sees
    hidden : (k2 : Connection) (seen : Seen) → k2.server_lost ≡ k.server_lost → (k.server_lost ≡ false → (j : ℕ) → live_of j k2 ≡ live_of j k) → P (quiet k2 seen)
    hidden k2 seen l m = inl (unseen gate w c k here k2 seen l m)

    still : (seen : Seen) → P (quiet k seen)
    still seen = hidden k seen refl (λ _ j. refl)

    -- of a session that was given up nothing is seen
    lost_hidden : (k2 : Connection) (seen : Seen) → k.server_lost ≡ true → k2.server_lost ≡ k.server_lost → P (quiet k2 seen)
    lost_hidden k2 seen e l = hidden k2 seen l (λ lives. absurd (true≢false (sym e ∙ lives)))

    -- one call, by what it answers
    called : {A : Type 0} (e : running.Event) (o : Option (A × serving.Rest G)) (a : A) (r : serving.Rest G) → after_event answer welcomes e (rest w) ≡ after_call o (rest w) → o ≡ Some (a, r) → MovesTo w r
    called e o a r h is = inr (e, sym (h ∙ ap (λ z. after_call z (rest w)) is))

    works : P (work S c (ledger w) k)
    works =
        step_case (λ d. d ≡ work_kept S c (ledger w) (kept_of k) k.ended → P (effect_of_step k d)) S c (ledger w) k (λ d e _. silent_step P k d e (still (SawWork (worked_of d)))) (λ n cause e. moved _ n e)
        (λ n st re tx q later _ e. moved _ n e) refl
      where
        moved : (d : Step) → k.ended ≡ None → d ≡ work_kept S c (ledger w) (kept_of k) k.ended → P (effect_of_step k d)
        moved d n e = subst (λ z. P (effect_of_step k z)) (sym e) (called (running.works c) _ _ _ refl (work_served G gate w c k here (still_lives k s (ap is_some n)) s answer welcomes))

    noops : P (noop k)
    noops =
        noop_case (λ x. x ≡ noop k → P x) k (λ _. still (SawNoop false))
        (λ _ n e. subst P (sym e) (called (running.noops c) _ _ _ refl (noop_served G gate w c k here (still_lives k s n) s))) refl

    feeds : (piece : List ℕ) → P (feed piece k)
    feeds piece =
        feed_case (λ x. x ≡ feed piece k → P x) piece k (λ what _. still (Fed 0 what))
        (λ lives joined _ e. subst P (sym e) (called (running.feeds c piece) _ _ _ refl (feed_served G gate w c k here lives s joined piece).1)) refl

    -- more was taken out, and some of it was given
    takes : (n d : ℕ) (seen : Seen) → P (quiet (record k { taken = taken_for n k; down = d }) seen)
    takes n d seen = ⊎_elim (λ e. lost_hidden k2 seen e refl) lives (cases_Bool k.server_lost)
      where
        k2 : Connection
        k2 = record k { taken = taken_for n k; down = d }

        lives : k.server_lost ≡ false → P (quiet k2 seen)
        lives e =
            let m = (k.down + n) - k.taken in let k3 = record k { taken = min (k.taken + m) (length (output k)) } in
            let same : min (k.taken + ((k.down + n) - k.taken)) (length (output k)) ≡ taken_for n k = let a = s.counts in omega arith in
            subst (MovesTo w) (alike gate w c k here k3 k2 SawNothing seen e e e (ap (λ t. live_of c (record k { taken = t })) same))
            (called (running.takes c m) _ _ _ refl (take_served G gate w c k here e s m))

    loses : P (server_gone k)
    loses =
        ⊎_elim (λ e. lost_hidden (server_gone k).conn SawNothing e (sym e)) (λ e. inr (running.loses c, sym (ap (λ x. x.1) (lost_served G gate w c k here e s)))) (cases_Bool k.server_lost)

    deed_moves : {e : Event} {x : Effect} → Deed S c (ledger w) k e x → P x
    deed_moves (deed.hands i n wish p) = feeds (take n (drop (length k.up) (input wish k.sent)))
    deed_moves (deed.feeds i piece p) = feeds piece
    deed_moves (deed.gives i n wish p e) = takes n (give n k).conn.down (give n k).seen
    deed_moves (deed.drains i n p) = takes n (taken_for n k) (Gave (taken_for n k - k.down) (Ok Nothing))
    deed_moves (deed.works i) = works
    deed_moves (deed.noops i) = noops
    deed_moves (deed.ends i) = loses
    deed_moves {x = x} _ = hidden x.conn x.seen refl (λ _ j. refl)

  did_moves : (w : World) → AllSound w → (e : Event) (seen : Seen) (w2 : World) → Did S w e seen w2 → MovesTo w (rest w2)
  did_moves w sound e seen w2 (opens peer room) = let served = open_served G gate w peer in inr (running.opens, sym (cond-false (is_full (rest w)) _ _ (served.0 ∙ room) ∙ served.1))
  did_moves w sound e seen w2 (acts event k x here d) = deed_moves w (place event) k here (sound (place event) k here) d

  -- over every list of steps: the server's rest is that of a list of calls
  abbrev Calls : List EntryView → World → Type 0
  Calls brought w = (es : List running.Event) × (rest w ≡ after_events answer welcomes es (serving.empty brought gate))

  events_more : (es : List running.Event) (e : running.Event) (r : serving.Rest G) → after_events answer welcomes (es ++ e ∷ []) r ≡ after_event answer welcomes e (after_events answer welcomes es r)
  events_more [] e r = refl
  events_more (x ∷ es) e r = events_more es e (after_event answer welcomes x r)

  one_more : (brought : List EntryView) (w w2 : World) → MovesTo w (rest w2) → Calls brought w → Calls brought w2
  one_more brought w w2 (inl e) h = (h.0, sym e ∙ h.1)
  one_more brought w w2 (inr m) h = (h.0 ++ m.0 ∷ [], m.1 ∙ ap (after_event answer welcomes m.0) h.1 ∙ sym (events_more h.0 m.0 (serving.empty brought gate)))

  reached_calls : (brought : List EntryView) {w : World} → Reached S brought w → Calls brought w
  reached_calls brought (begins l) = ([], ap (λ es. serving.empty es gate) (append-nil brought))
  reached_calls brought (goes_on w w2 e seen r t) = one_more brought w w2 (did_moves w (reached_sound S brought r) e seen w2 (step_did S w e seen w2 t.steps)) (reached_calls brought r)
  reached_calls brought (takes_out w c n r) = one_more brought w (taken_out w c n (slice_get w.conns c)) (go (slice_get w.conns c) refl) (reached_calls brought r)
    where
      go : (o : Option Connection) → slice_get w.conns c ≡ o → MovesTo w (rest (taken_out w c n o))
      go None g = inl refl
      go (Some k) g =
          let s = reached_sound S brought r c k g in
          let put = λ (t : ℕ) (es : List EntryView). rest (record { conns = slice_set w.conns c (record k { taken = t }); brought = w.brought; since = es }) in
          taken_case (λ t. MovesTo w (put t w.since)) k.peer n k (subst (λ es. MovesTo w (put k.taken es)) (append-nil w.since) (still w c k g s SawNothing))
          (subst (λ es. MovesTo w (put (taken_for n k) es)) (append-nil w.since) (takes w c k g s n k.down SawNothing))

  pub sessions_within : ((brought : List EntryView) (events : List running.Event) → IsKept (after_events answer welcomes events (serving.empty brought gate)))
      → (brought : List EntryView) (w : World) → Reached S brought w → (live w ≤ 16) × ((c : ℕ) (k : Connection) → slice_get w.conns c ≡ Some k → k.server_lost ≡ false → Bounded (live_of c k))
  sessions_within kept brought w r =
      let h = reached_calls brought r in
      let is : IsKept (rest w) = subst IsKept (sym h.1) (kept brought h.0) in (
        subst (λ n. n ≤ 16) (sessions-length w.conns) is.live,
        λ c k here lives. bounded_at (rest w).sessions c (live_of c k) is.bounded (find_at w.conns 0 c c k (omega arith) here lives),
      )

  -- That an entry comes by a row that commits, for a request that came whole.
  module _ (w : World) (c : ℕ) (k : Connection) (here : slice_get w.conns c ≡ Some k) (s : Sound k) where
    abbrev w2 : World
    w2 = after_effect w c k (work S c (ledger w) k)

    abbrev Comes : World → Type 0
    Comes v = (ledger v ≡ ledger w) ⊎ Commits w (Work c) v

    by_call : k.server_lost ≡ false → Comes w2
    by_call lives = go g2.0 g2.1 (running.works c) refl g2.2
      where
        g2 : Grows (running.works c) (rest w) (rest w2)
        g2 = subst (λ r. Grows (running.works c) (rest w) r) (ap (λ o. after_call o (rest w)) (work_served G gate w c k here lives s answer welcomes)) (grows answer welcomes (running.works c) (rest w))

        go : (more : List EntryView) → ledger w2 ≡ ledger w ++ more → (ev : running.Event) → ev ≡ running.works c → Adds (rest w) ev more → Comes w2
        go more h ev e (nothing x) = inl (h ∙ append-nil (ledger w))
        go more h ev e (one conn t q later change found first row) =
            let at : conn ≡ c = cc in
            let same : t ≡ live_of c k = same_Some t (live_of c k) (sym found ∙ ap (λ n. find n (rest w).sessions) at ∙ find_at w.conns 0 c c k (omega arith) here lives) in
            inr
            (record {
              conn = c;
              connection = k;
              request = q;
              change = change;
              works = refl;
              here = here;
              first = first_of (answer_count k.says) (arrivals_at k) later (Asked q) (ap (λ (z : Live). z.kept.waiting) (sym same) ∙ first);
              row = ap (λ (z : Live). commits (phase_of z.kept.state) (kind_of q)) (sym same) ∙ row;
              entry = h ∙ ap (λ (z : Live). ledger w ++ commit_entries z.conn z.kept.first (Some change)) same;
            })

    comes : Comes w2
    comes =
        step_case (λ d. d ≡ work_kept S c (ledger w) (kept_of k) k.ended → Comes (after_effect w c k (effect_of_step k d))) S c (ledger w) k (λ d _ _. inl (ap (λ es. w.brought ++ es) (append-nil w.since)))
        (λ n cause e. moved _ n e) (λ n st re tx q later _ e. moved _ n e) refl
      where
        moved : (d : Step) → k.ended ≡ None → d ≡ work_kept S c (ledger w) (kept_of k) k.ended → Comes (after_effect w c k (effect_of_step k d))
        moved d n e = subst (λ z. Comes (after_effect w c k (effect_of_step k z))) (sym e) (by_call (still_lives k s (ap is_some n)))

pub grows_by_commits : GrowsByCommits
grows_by_commits S brought w reached e seen w2 h = go e seen w2 (step_did S w e seen w2 h)
  where
    comes_by : (e : Event) (k : Connection) (x : Effect) → slice_get w.conns (place e) ≡ Some k → Deed S (place e) (ledger w) k e x → (ledger (after_effect w (place e) k x) ≡ ledger w) ⊎ Commits w e (after_effect w (place e) k x)
    comes_by e k x here (deed.works i) = comes S.run (λ (u : Unit {0}). S.welcome) tt w i k here (reached_sound S brought reached i k here)
    comes_by e k x here d = inl (ap (λ o. w.brought ++ (w.since ++ commit_entries (place e) (answer_count k.says) o)) (⊎_elim (λ none. none) (λ is. cc) (deed_commits d).0) ∙ ap (λ es. w.brought ++ es) (append-nil w.since))

    go : (e : Event) (seen : Seen) (w2 : World) → Did S w e seen w2 → (ledger w2 ≡ ledger w) ⊎ Commits w e w2
    go e seen w2 (opens peer room) = inl refl
    go e seen w2 (acts event k x here d) = comes_by event k x here d
