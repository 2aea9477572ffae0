-- Each call on a server is an event of a world whose peers are foreign, or is refused in both.
use Rattle.std.proofs.Common.{◌≡◌, refl, sym, ◌∙◌, ap, subst, ℕ, ◌+◌, ◌-◌, ◌≤◌, ◌^◌, min, max, Bool, true, false, not, ◌||◌, if◌then◌else◌, nat_le, is_some, Option, Some, None, Result, Ok, Err, IsErr, List, [], ◌∷◌, ◌++◌, length, map, slice_get, append-nil, inl, inr, ⊎_elim, true≢false, arith}
use Rattle.std.proofs.lemmas.Bool.{cond-true, cond-false, cases_Bool}
use Rattle.engine.specs.Prelude.{EntryView, Welcome}
use Rattle.server_session.specs.declared.Cause.{Cause}
use Rattle.server_session.specs.declared.What.{What}
use Rattle.server_session.specs.declared.Worked.{Worked}
use Rattle.server_session.specs.Prelude.{Setting, work_kept}
use Rattle.server.specs.Prelude.{Rest, empty, is_full, fed_live, taken_from, noop_put, with_session, after_step, setting, work_at, Event as Call, opens, feeds, works, takes, noops, loses, after_call, after_event, after_events}
use Rattle.world.specs.Prelude.{Connection, Foreign, fresh, output, kept_of, SaysNoop, World, Event, Feeds, Work, ToClient, PutsNoop, ServerLost, Seen, Opened, Fed, Gave, SawWork, SawNoop, SawNothing, Refusal, V1, V3, Effect, quiet, ledger, empty as empty_world, live, step, at_conn, at_peer, with_effect, after_effect, taken_for, feed, work, noop, server_gone, effect_of_step, IsCountedIn, WStep, Reached, begins, goes_on, server_rest, live_of, Definition, setting_of, Follows, Replays}
use Rattle.client.specs.Prelude.{Nothing}
use Rattle.world.proofs.Deeds.{get_more, get_set}
use Rattle.world.proofs.Sound.{Sound, reached_sound, Speaks, says, feed_speaks, work_speaks, noop_speaks}
use Rattle.world.proofs.Served.{unseen, alike, feed_served, work_served, noop_served, take_served, lost_served, open_served}
use Rattle.world_guarantees.specs.Prelude.{event_of, counted_if, AreCounted, AreEvents}
use Rattle.world_guarantees.proofs.Places.{IsGone, idle_call, idle_loss}

-- what is kept of each connection: its foreign peer takes all that is taken out
pub record IsForeign (k : Connection) : Type 0 where
  pub peer : k.peer ≡ Foreign
  pub joined : k.cut ≡ false
  pub even : k.server_lost ≡ false → k.down ≡ k.taken

abbrev AllForeign : World → Type 0
AllForeign w = (c : ℕ) (k : Connection) → slice_get w.conns c ≡ Some k → IsForeign k

speaks_foreign : {k : Connection} {x : Effect} → Speaks k x → IsForeign k → IsForeign x.conn
speaks_foreign (says t xs up commit seen may a b) f = record { peer = f.peer; joined = f.joined; even = f.even }

pub same_count : (taken down long n : ℕ) → down ≡ taken → taken ≤ long → min (taken + n) long ≡ max taken (min (down + n) long)
same_count taken down long n e l = omega arith

-- a session that has ended puts no no-op
pub noop_not : (x y z : Bool) → y ≡ true → not (not x || y || z) ≡ false
noop_not true false z e = cc
noop_not _ _ z e = refl

pub some_is : {A : Type 0} (o : Option A) → is_some o ≡ true → (x : A) × (o ≡ Some x)
some_is (Some x) h = (x, refl)
some_is None h = cc

module _ {G : Type 0} (answer : Definition) (welcomes : G → Welcome) (gate : G) (brought : List EntryView) where
  abbrev S : Setting
  S = setting_of answer welcomes gate

  abbrev rest : World → Rest G
  rest w = server_rest gate w

  -- a call is an event that leads to this world
  record Goes (w : World) (call : Call) : Type 0 where
    after : World
    follows : Follows S w (event_of call) after
    server : rest after ≡ after_event answer welcomes call (rest w)
    foreign : AllForeign after

  -- what a step tells is counted
  abbrev Counts : Call → Rest G → Type 0
  Counts call r = (conn : ℕ) → call ≡ works conn → counted_if (work_at answer welcomes conn r)

  module _ (w : World) (reached : Reached S brought w) (all : AllForeign w) where
    -- it is refused by both
    refused : (call : Call) (x : Refusal) → step S w (event_of call) ≡ Err x → after_event answer welcomes call (rest w) ≡ rest w → Goes w call
    refused call x e same = record { after = w; follows = inr (subst IsErr (sym e) refl, refl); server = sym same; foreign = all }

    goes_open : Goes w opens
    goes_open = go (nat_le 16 (live w) || nat_le (2 ^ 63) (length w.conns)) refl
      where
        go : (b : Bool) → (nat_le 16 (live w) || nat_le (2 ^ 63) (length w.conns)) ≡ b → Goes w opens
        go true e = refused opens V3 (cond-true (nat_le 16 (live w) || nat_le (2 ^ 63) (length w.conns)) _ _ e) (cond-true (is_full (rest w)) _ _ ((open_served G gate w Foreign).0 ∙ e))
        go false e =
            let w2 : World = record { conns = w.conns ++ fresh Foreign ∷ []; brought = w.brought; since = w.since } in
            record {
              after = w2;
              follows = inl (Opened (length w.conns), record { steps = cond-false (nat_le 16 (live w) || nat_le (2 ^ 63) (length w.conns)) _ _ e; made = tt; counted = tt });
              server = sym (cond-false (is_full (rest w)) _ _ ((open_served G gate w Foreign).0 ∙ e) ∙ (open_served G gate w Foreign).1);
              foreign = λ c k g. ⊎_elim (λ h. all c k h) (λ h. subst IsForeign h.1 (record { peer = refl; joined = refl; even = λ _. refl })) (get_more w.conns c (fresh Foreign) k g);
            }

    module _ (c : ℕ) (k : Connection) (here : slice_get w.conns c ≡ Some k) where
      s : Sound k
      s = reached_sound S brought reached c k here

      f : IsForeign k
      f = all c k here

      -- the event does this at the connection
      abbrev IsDone : Event → Effect → Type 0
      IsDone e x = step S w e ≡ Ok (after_effect w c k x, x.seen)

      -- where its peer is foreign
      at_foreign_peer : (e : Event) (x : Effect) → at_peer S c (ledger w) e Foreign k ≡ Ok x → at_conn S w e c (slice_get w.conns c) ≡ Ok (after_effect w c k x, x.seen)
      at_foreign_peer e x h = ap (at_conn S w e c) here ∙ ap (with_effect w c k) (ap (λ p. at_peer S c (ledger w) e p k) f.peer ∙ h)

      done : (call : Call) (x : Effect) (wstep : WStep S w (event_of call) x.seen (after_effect w c k x)) → rest (after_effect w c k x) ≡ after_event answer welcomes call (rest w) → IsForeign x.conn → Goes w call
      done call x wstep same g = record {
        after = after_effect w c k x;
        follows = inl (x.seen, wstep);
        server = same;
        foreign = λ j k3 h. ⊎_elim (λ e. subst IsForeign e.1 g) (λ e. all j k3 e.1) (get_set w.conns c j k x.conn k3 here h);
      }

      -- where no session lives any more
      module _ (gone : k.server_lost ≡ true) where
        was : IsGone (slice_get w.conns c)
        was = subst IsGone (sym here) gone

        never : k.server_lost ≡ false → {A : Type 0} → A
        never alive = absurd (true≢false (sym gone ∙ alive))

        still : (seen : Seen) → rest (after_effect w c k (quiet k seen)) ≡ rest w
        still seen = sym (unseen gate w c k here k seen refl (λ _ j. refl))

        end : (cause : Cause) × (k.ended ≡ Some cause)
        end = some_is k.ended (s.gone gone).0

        gone_feeds : (piece : List ℕ) → Goes w (feeds c piece)
        gone_feeds piece =
            let x = quiet k (Fed 0 What.Closed) in
            done (feeds c piece) x (record { steps = at_foreign_peer (Feeds c piece) x (ap (λ z. let y : Result Effect Refusal = Ok z in y) (cond-true k.server_lost _ _ gone)); made = tt; counted = tt })
            (still (Fed 0 What.Closed) ∙ sym (idle_call gate w c was (λ l. ((fed_live l piece).0, with_session (fed_live l piece).1 (rest w))))) f

        gone_works : Goes w (works c)
        gone_works =
            let x = quiet k (SawWork (Worked.Ended end.0)) in
            done (works c) x
            (record {
              steps = at_foreign_peer (Work c) x (ap (λ o. let y : Result Effect Refusal = Ok (effect_of_step k (work_kept S c (ledger w) (kept_of k) o)) in y) end.1);
              made = tt;
              counted = tt;
            })
            (still (SawWork (Worked.Ended end.0)) ∙ sym (idle_call gate w c was (λ l. after_step l (work_kept (setting answer welcomes (rest w)) l.conn (rest w).ledger l.kept l.kept.ended) (rest w)))) f

        gone_noops : Goes w (noops c)
        gone_noops =
            let x = quiet k (SawNoop false) in
            done (noops c) x
            (record {
              steps = at_foreign_peer (PutsNoop c) x (ap (λ z. let y : Result Effect Refusal = Ok (quiet (record k { says = if z then SaysNoop ∷ k.says else k.says }) (SawNoop z)) in y) (noop_not (is_some k.version) (is_some k.ended) _ (s.gone gone).0));
              made = tt;
              counted = tt;
            })
            (still (SawNoop false) ∙ sym (idle_call gate w c was (λ l. ((noop_put l).0, with_session (noop_put l).1 (rest w))))) f

        gone_takes : (n : ℕ) → Goes w (takes c n)
        gone_takes n =
            let k2 = record k { taken = taken_for n k; down = taken_for n k } in let seen = Gave (taken_for n k - k.down) (Ok Nothing) in
            done (takes c n) (quiet k2 seen)
            (record { steps = at_foreign_peer (ToClient c n) (quiet k2 seen) (ap (λ z. let y : Result Effect Refusal = Ok z in y) (cond-false k.cut _ _ f.joined)); made = tt; counted = tt })
            (sym (unseen gate w c k here k2 seen refl (λ alive j. never alive)) ∙ sym (idle_call gate w c was (λ l. ((taken_from n l).0, with_session (taken_from n l).1 (rest w)))))
            (record { peer = f.peer; joined = f.joined; even = λ _. refl })

        gone_loses : Goes w (loses c)
        gone_loses =
            let x = server_gone k in
            done (loses c) x (record { steps = at_foreign_peer (ServerLost c) x refl; made = tt; counted = tt })
            (sym (unseen gate w c k here x.conn SawNothing (sym gone) (λ alive j. never alive)) ∙ sym (idle_loss gate w c was))
            (record { peer = f.peer; joined = f.joined; even = λ e. absurd (true≢false e) })

      -- where its session lives
      module _ (alive : k.server_lost ≡ false) where
        live_feeds : (piece : List ℕ) → Goes w (feeds c piece)
        live_feeds piece =
            let x = feed piece k in let served = feed_served G gate w c k here alive s f.joined piece in
            done (feeds c piece) x (record { steps = at_foreign_peer (Feeds c piece) x refl; made = tt; counted = subst IsCountedIn (sym served.2) tt })
            (ap (λ o. after_call o (rest w)) (sym served.1)) (speaks_foreign (feed_speaks k s piece) f)

        live_works : Counts (works c) (rest w) → Goes w (works c)
        live_works counts =
            let x = work S c (ledger w) k in let served = work_served G gate w c k here alive s answer welcomes in
            done (works c) x (record { steps = at_foreign_peer (Work c) x refl; made = tt; counted = subst counted_if served (counts c refl) })
            (ap (λ o. after_call o (rest w)) (sym served)) (speaks_foreign (work_speaks S c (ledger w) k) f)

        live_noops : Goes w (noops c)
        live_noops =
            let x = noop k in let served = noop_served G gate w c k here alive s in
            done (noops c) x (record { steps = at_foreign_peer (PutsNoop c) x refl; made = tt; counted = tt })
            (ap (λ o. after_call o (rest w)) (sym served)) (speaks_foreign (noop_speaks k) f)

        live_takes : (n : ℕ) → Goes w (takes c n)
        live_takes n =
            let k2 = record k { taken = taken_for n k; down = taken_for n k } in let seen = Gave (taken_for n k - k.down) (Ok Nothing) in
            let k1 = record k { taken = min (k.taken + n) (length (output k)) } in
            let same = same_count k.taken k.down (length (output k)) n (f.even alive) s.counts in
            done (takes c n) (quiet k2 seen)
            (record { steps = at_foreign_peer (ToClient c n) (quiet k2 seen) (ap (λ z. let y : Result Effect Refusal = Ok z in y) (cond-false k.cut _ _ f.joined)); made = tt; counted = tt })
            (sym (alike gate w c k here k1 k2 SawNothing seen alive alive alive (ap (λ t. live_of c (record k { taken = t })) same)) ∙ ap (λ o. after_call o (rest w)) (sym (take_served G gate w c k here alive s n)))
            (record { peer = f.peer; joined = f.joined; even = λ _. refl })

        live_loses : Goes w (loses c)
        live_loses =
            let x = server_gone k in
            done (loses c) x (record { steps = at_foreign_peer (ServerLost c) x refl; made = tt; counted = tt })
            (ap (λ z. z.1) (sym (lost_served G gate w c k here alive s)))
            (record { peer = f.peer; joined = f.joined; even = λ e. absurd (true≢false e) })

    -- by what stands in the place of its number
    at_place : (c : ℕ) (call : Call) → (slice_get w.conns c ≡ None → Goes w call) → ((k : Connection) → slice_get w.conns c ≡ Some k → k.server_lost ≡ true → Goes w call)
        → ((k : Connection) → slice_get w.conns c ≡ Some k → k.server_lost ≡ false → Goes w call) → Goes w call
    at_place c call absent gone lives = go (slice_get w.conns c) refl
      where
        go : (o : Option Connection) → slice_get w.conns c ≡ o → Goes w call
        go None e = absent e
        go (Some k) e = ⊎_elim (λ t. gone k e t) (λ n. lives k e n) (cases_Bool k.server_lost)

    module _ (c : ℕ) (none : slice_get w.conns c ≡ None) where
      nowhere : IsGone (slice_get w.conns c)
      nowhere = subst IsGone (sym none) tt

    goes : (call : Call) → Counts call (rest w) → Goes w call
    goes opens counts = goes_open
    goes (feeds c piece) counts =
        at_place c (feeds c piece)
        (λ none. refused (feeds c piece) V1 (ap (at_conn S w (Feeds c piece) c) none) (idle_call gate w c (nowhere c none) (λ l. ((fed_live l piece).0, with_session (fed_live l piece).1 (rest w)))))
        (λ k here t. gone_feeds c k here t piece) (λ k here n. live_feeds c k here n piece)
    goes (works c) counts =
        at_place c (works c)
        (λ none. refused (works c) V1 (ap (at_conn S w (Work c) c) none) (idle_call gate w c (nowhere c none) (λ l. after_step l (work_kept (setting answer welcomes (rest w)) l.conn (rest w).ledger l.kept l.kept.ended) (rest w))))
        (λ k here t. gone_works c k here t) (λ k here n. live_works c k here n counts)
    goes (takes c n) counts =
        at_place c (takes c n)
        (λ none. refused (takes c n) V1 (ap (at_conn S w (ToClient c n) c) none) (idle_call gate w c (nowhere c none) (λ l. ((taken_from n l).0, with_session (taken_from n l).1 (rest w)))))
        (λ k here t. gone_takes c k here t n) (λ k here b. live_takes c k here b n)
    goes (noops c) counts =
        at_place c (noops c)
        (λ none. refused (noops c) V1 (ap (at_conn S w (PutsNoop c) c) none) (idle_call gate w c (nowhere c none) (λ l. ((noop_put l).0, with_session (noop_put l).1 (rest w)))))
        (λ k here t. gone_noops c k here t) (λ k here n. live_noops c k here n)
    goes (loses c) counts =
        at_place c (loses c)
        (λ none. refused (loses c) V1 (ap (at_conn S w (ServerLost c) c) none) (idle_loss gate w c (nowhere c none)))
        (λ k here t. gone_loses c k here t) (λ k here n. live_loses c k here n)

  reached_after : (w w2 : World) (e : Event) → Reached S brought w → Follows S w e w2 → Reached S brought w2
  reached_after w w2 e r (inl f) = goes_on w w2 e f.0 r f.1
  reached_after w w2 e r (inr f) = subst (Reached S brought) (sym f.1) r

  -- the calls from a world on
  record Leads (w : World) (calls : List Call) : Type 0 where
    after : World
    replays : Replays S w (map event_of calls) after
    reached : Reached S brought after
    server : rest after ≡ after_events answer welcomes calls (rest w)
    foreign : AllForeign after

  leads : (calls : List Call) (w : World) → Reached S brought w → AllForeign w → AreCounted answer welcomes calls (rest w) → Leads w calls
  leads [] w r all counted = record { after = w; replays = refl; reached = r; server = refl; foreign = all }
  leads (call ∷ calls) w r all counted =
      let g = goes w r all call (λ conn is. counted [] calls conn (ap (λ z. z ∷ calls) (sym is))) in
      let l = leads calls g.after (reached_after w g.after (event_of call) r g.follows) g.foreign
      (subst (AreCounted answer welcomes calls) (sym g.server) (λ before later conn e. counted (call ∷ before) later conn (ap (λ z. call ∷ z) e))) in
      record {
        after = l.after;
        replays = (g.after, g.follows, l.replays);
        reached = l.reached;
        server = l.server ∙ ap (after_events answer welcomes calls) g.server;
        foreign = l.foreign;
      }

module _ {G : Type 0} (answer : Definition) (welcomes : G → Welcome) (gate : G) where
  -- the server at the beginning
  pub begun : (brought : List EntryView) → server_rest gate (empty_world brought) ≡ empty brought gate
  begun brought = ap (λ es. empty es gate) (append-nil brought)

  pub are_events : AreEvents answer welcomes gate
  are_events brought calls is counted =
      let l = leads answer welcomes gate brought calls (empty_world brought) (begins is) (λ c k h. cc)
      (subst (AreCounted answer welcomes calls) (sym (begun brought)) counted) in
      record {
        after = l.after;
        replays = l.replays;
        behind = record { reached = l.reached; server = l.server ∙ ap (after_events answer welcomes calls) (begun brought) };
        foreign = λ c k h. (l.foreign c k h).peer;
      }
