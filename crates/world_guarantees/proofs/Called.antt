-- A call on the server, where some of the peers are clients of ours: it leads to a world that stands for the calls with it.
use Rattle.std.proofs.Common.{◌≡◌, refl, sym, ◌∙◌, ap, ap₂, subst, ℕ, ◌+◌, ◌-◌, ◌≤◌, ◌^◌, ◌==◌, min, max, Bool, true, false, ◌||◌, nat_le, Option, Some, None, Result, Ok, List, [], ◌∷◌, ◌++◌, length, take, drop, slice_get, slice_set, append-nil, ⊎_elim, true≢false, arith}
use Rattle.std.proofs.lemmas.Bool.{cond-true, cond-false, cond_both, cases_Bool, cases_eq, eq-eqb}
use Rattle.std.proofs.lemmas.List.{take-take, take_min}
use Rattle.std.proofs.lemmas.Option.{some_pair_parts}
use Rattle.std.proofs.Math.Seq.{take-add}
use Rattle.wire.specs.declared.Wish.{Wish}
use Rattle.messages.specs.Prelude.{Arrival, Shook}
use Rattle.engine.specs.Prelude.{EntryView, Welcome}
use Rattle.server_session.specs.Prelude.{Setting, Done, WroteRow, Wrote, work_kept}
use Rattle.server.specs.declared.Took.{Took}
use Rattle.server.specs.Prelude.{Rest, Live, is_full, find, setting, feed_at, work_at, take_out_at, Event as Call, opens, feeds, works, takes, noops, loses, after_call, after_event, used_of, took_by, fed_live, taken_from, noop_put, with_session, after_step}
use Rattle.server_event_loop.specs.ConnectionPrelude.{out_of, gave_by}
use Rattle.client.specs.Prelude.{Run, starts, Reading, reading_of, put_out}
use Rattle.client.proofs.Runs.{tells_by_bytes, calls_hold, starts_hold}
use Rattle.world.specs.Prelude.{Peer, Ours, Foreign, Connection, Said, fresh, output, bytes_delivered, heard_by_bytes, wish_of, input, kept_of, World, Event, Opens, Feeds, ToServer, ToClient, Work, PutsNoop, ServerLost, Opened, Gave, SawNothing, Refusal, Effect, quiet, ledger, live, at_conn, at_peer, with_effect, after_effect, effect_at_peer, taken_for, taken_out, feed, work, noop, server_gone, said_by, said_to, IsCountedIn, Reached, goes_on, takes_out, server_rest, live_of, Definition, setting_of, to_client, give}
use Rattle.client.specs.Prelude.{Nothing}
use Rattle.world.proofs.Deeds.{set_same, set_other, feed_case, noop_case}
use Rattle.world.proofs.Fitting.{used_seen}
use Rattle.world.proofs.Giving.{parts}
use Rattle.world.proofs.Sound.{Sound, reached_sound, Speaks, says, feed_speaks, work_speaks, noop_speaks, speaks_alike, given_same, falling_same, Alike}
use Rattle.world.proofs.Kept.{tells}
use Rattle.world.proofs.Clients.{knows_if}
use Rattle.world.proofs.Headline.{reached_inv, all_good}
use Rattle.world.proofs.Served.{find_at, alike, feed_served, work_served, noop_served, take_served, lost_served, open_served}
use Rattle.world_guarantees.specs.Prelude.{Moment, serves, client_calls, run_of, step_said, call_said, counted_if, IsFront, IsLinked}
use Rattle.world_guarantees.proofs.Pieces.{front_next, feed_front}
use Rattle.world_guarantees.proofs.Places.{IsGone, idle_call, idle_loss, push_cases}
use Rattle.world_guarantees.proofs.Replayed.{same_count}
use Rattle.world_guarantees.proofs.Ended.{all_out}
use Rattle.world_guarantees.proofs.Histories.{answers_among, peer_by, IsOut, Meets, Side, Facts, Unopened, OnConn, IsSilent, silent_other, silent_gone, AtMoments, Stands, server_then, took_then, run_then, at_then, at_still}

-- what a session says changes nothing of what was taken out before
front_in_two : (xs : List ℕ) (down taken : ℕ) → down ≤ taken → take taken xs ≡ take down xs ++ take (taken - down) (drop down xs)
front_in_two xs down taken l = ap (λ n. take n xs) (parts taken down l) ∙ take-add down (taken - down) xs

taken_same : {k : Connection} {x : Effect} → Sound k → Speaks k x → take k.taken (output x.conn) ≡ take k.taken (output k)
taken_same {k = k} s (says t xs up commit seen may a b) =
    let k2 = record k { version = t.version; says = xs ++ k.says; state = t.state; ended = t.ended; result = t.result; tx = t.tx; up = up } in
    front_in_two (output k2) k.down k.taken s.below ∙ ap₂ (λ (y z : List ℕ). y ++ z) (given_same k t xs up may s.counts s.below) (falling_same k t xs up may s.counts s.below)
    ∙ sym (front_in_two (output k) k.down k.taken s.below)

speaks_out : {k : Connection} {x : Effect} → Sound k → Speaks k x → (bytes : List ℕ) → IsOut k bytes → IsOut x.conn (bytes ++ [])
speaks_out {k = k} s (says t xs up commit seen may a b) bytes o =
    let k2 = record k { version = t.version; says = xs ++ k.says; state = t.state; ended = t.ended; result = t.result; tx = t.tx; up = up } in
    let same : take k.taken (output k2) ≡ take k.taken (output k) = taken_same {k = k} s (says t xs up commit seen may a b) in
    record {
      count = o.count;
      is = append-nil bytes ∙ o.is ∙ sym (take-take o.count k.taken (output k) o.most) ∙ ap (take o.count) (sym same) ∙ take-take o.count k.taken (output k2) o.most;
      most = o.most;
      all = o.all;
    }

speaks_side : {k : Connection} {x : Effect} → Speaks k x → Alike k x.conn → (o : Option Wish) (run : Wish → Run) → Side o run k → Side o run x.conn
speaks_side (says t xs up commit seen may a b) same None run h = h
speaks_side p same (Some wish) run h = record { lives = same.lost ∙ h.lives; sent = same.sent ∙ h.sent; took = same.given ∙ h.took }

speaks_joined : {k : Connection} {x : Effect} → Speaks k x → x.conn.cut ≡ k.cut
speaks_joined (says t xs up commit seen may a b) = refl

-- the rows and summaries that were said then
told_work : (d : Done) (xs : List Said) → answers_among (said_by d ++ xs) ≡ said_by d ++ answers_among xs
told_work (WroteRow row) xs = refl
told_work (Wrote x) xs = refl
told_work _ xs = refl

told_item : (o : Option Arrival) (xs : List Said) → answers_among (said_to o ++ xs) ≡ answers_among xs
told_item (Some (Shook v)) xs = refl
told_item _ xs = refl

count_more : (taken down n long : ℕ) → down ≤ taken → taken ≤ long → max taken (min (down + ((taken - down) + n)) long) ≡ min (taken + n) long
count_more taken down n long a b = omega arith

count_full : (taken n long : ℕ) → taken ≡ long → taken ≡ min (taken + n) long
count_full taken n long e = omega arith

ended_alone : (a b c d : Bool) → a ≡ false → b ≡ false → d ≡ false → a || (b || (c || d)) ≡ true → c ≡ true
ended_alone false false true false x y z h = refl
ended_alone _ _ _ _ x y z h = cc

-- Facts of a connection after an effect, by what it adds.
spoken_facts : {k : Connection} {x : Effect} → Sound k → Speaks k x → (o : Option Wish) (run : Wish → Run) (up out more : List ℕ) (said new : List Said) → Facts o run up out said k
    → x.conn.up ≡ k.up ++ more → answers_among x.conn.says ≡ new ++ answers_among k.says → Facts o run (up ++ more) (out ++ []) (new ++ said) x.conn
spoken_facts {k = k} s p o run up out more said new f u t =
    let same = speaks_alike k s p in
    record {
      peer = same.peer ∙ f.peer;
      joined = speaks_joined p ∙ f.joined;
      taken = u ∙ ap (λ z. z ++ more) f.taken;
      given = speaks_out s p out f.given;
      told = t ∙ ap (λ z. new ++ z) f.told;
      side = speaks_side p same o run f.side;
    }

module _ {G : Type 0} (answer : Definition) (welcomes : G → Welcome) (gate : G) (ours : ℕ → Option Wish) (brought : List EntryView) where
  abbrev S : Setting
  S = setting_of answer welcomes gate

  abbrev rest : World → Rest G
  rest w = server_rest gate w

  abbrev StandsIn : List Moment → Type 0
  StandsIn ms = Stands answer welcomes gate ours brought ms

  abbrev Links : List Moment → Type 0
  Links ms = (c : ℕ) (wish : Wish) → ours c ≡ Some wish → IsLinked answer welcomes wish c ms (record { sessions = []; next = 0; ledger = brought; gate = gate })

  module _ (ms : List Moment) (st : StandsIn ms) where
    abbrev w : World
    w = st.world

    abbrev ms_with : Call → List Moment
    ms_with e = ms ++ serves e ∷ []

    -- a call that is refused
    idles : (e : Call) → after_event answer welcomes e (rest w) ≡ rest w → ((c : ℕ) → IsSilent answer welcomes e (rest w) c) → StandsIn (ms_with e)
    idles e same silent = record {
      world = w;
      reached = st.reached;
      server = sym (server_then answer welcomes gate ours brought ms w st.server e ∙ same);
      at = λ c. at_still answer welcomes gate ours brought ms w st.server e c (slice_get w.conns c) (silent c) (st.at c);
    }

    -- an opening
    opening : StandsIn (ms_with opens)
    opening = go (nat_le 16 (live w) || nat_le (2 ^ 63) (length w.conns)) refl
      where
        n : ℕ
        n = length w.conns

        peer : Peer
        peer = peer_by (ours n)

        silent : (c : ℕ) → IsSilent answer welcomes opens (rest w) c
        silent c = record { took = refl; gave = refl; wrote = refl }

        new_side : (o : Option Wish) (run : Wish → Run) → ((wish : Wish) → o ≡ Some wish → ((run wish).sent ≡ []) × ((run wish).took ≡ [])) → Side o run (fresh (peer_by o))
        new_side None run h = λ _. refl
        new_side (Some wish) run h = let e = h wish refl in record { lives = refl; sent = sym e.0; took = sym e.1 }

        new : (o : Option Wish) (run : Wish → Run) (up out : List ℕ) (said : List Said) → Unopened o run up out said → Facts o run up out said (fresh (peer_by o))
        new o run up out said u = record {
          peer = refl;
          joined = refl;
          taken = sym u.taken;
          given = record { count = 0; is = u.given; most = omega arith; all = λ _. refl };
          told = sym u.told;
          side = new_side o run u.side;
        }

        go : (b : Bool) → (nat_le 16 (live w) || nat_le (2 ^ 63) (length w.conns)) ≡ b → StandsIn (ms_with opens)
        go true e = idles opens (cond-true (is_full (rest w)) _ _ ((open_served G gate w peer).0 ∙ e)) silent
        go false e =
            let w2 : World = record { conns = w.conns ++ fresh peer ∷ []; brought = w.brought; since = w.since } in
            record {
              world = w2;
              reached = goes_on w w2 (Opens peer) (Opened n) st.reached (record { steps = cond-false (nat_le 16 (live w) || nat_le (2 ^ 63) (length w.conns)) _ _ e; made = tt; counted = tt });
              server = sym (server_then answer welcomes gate ours brought ms w st.server opens ∙ cond-false (is_full (rest w)) _ _ ((open_served G gate w peer).0 ∙ e) ∙ (open_served G gate w peer).1);
              at = λ c. at_still answer welcomes gate ours brought ms w st.server opens c (slice_get w2.conns c) (silent c)
                  (⊎_elim (λ same. subst (AtMoments answer welcomes gate ours brought ms c) (sym same) (st.at c))
                  (λ here. subst (AtMoments answer welcomes gate ours brought ms c) (sym here.1)
                  (subst (λ (z : Peer). AtMoments answer welcomes gate ours brought ms c (Some (fresh z))) (ap (λ j. peer_by (ours j)) here.0)
                  (new (ours c) _ _ _ _ (subst (AtMoments answer welcomes gate ours brought ms c) here.2 (st.at c))))) (push_cases w.conns (fresh peer) c));
            }

    module _ (c : ℕ) (k : Connection) (here : slice_get w.conns c ≡ Some k) where
      s : Sound k
      s = reached_sound S brought st.reached c k here

      abbrev FactsNow : Type 0
      FactsNow = AtMoments answer welcomes gate ours brought ms c (Some k)

      f : FactsNow
      f = subst (AtMoments answer welcomes gate ours brought ms c) here (st.at c)

      -- an effect at the connection that the call stands for
      record Does (e : Call) : Type 0 where
        effect : Effect
        reached : Reached S brought (after_effect w c k effect)
        server : rest (after_effect w c k effect) ≡ after_event answer welcomes e (rest w)
        at : AtMoments answer welcomes gate ours brought (ms_with e) c (Some effect.conn)

      does : (e : Call) → OnConn c e → Does e → StandsIn (ms_with e)
      does e on d = record {
        world = after_effect w c k d.effect;
        reached = d.reached;
        server = d.server ∙ sym (server_then answer welcomes gate ours brought ms w st.server e);
        at = λ j.
            ⊎_elim (λ same. subst (λ i. AtMoments answer welcomes gate ours brought (ms_with e) i (slice_get (slice_set w.conns c d.effect.conn) i)) same
            (subst (AtMoments answer welcomes gate ours brought (ms_with e) c) (sym (set_same w.conns c k d.effect.conn here)) d.at))
            (λ apart. subst (AtMoments answer welcomes gate ours brought (ms_with e) j) (sym (set_other w.conns c j d.effect.conn apart))
            (at_still answer welcomes gate ours brought ms w st.server e j (slice_get w.conns j) (silent_other answer welcomes e c j (rest w) on apart) (st.at j))) (cases_eq c j);
      }

      -- an event of the connection, by what it does there
      acts : (e : Event) (x : Effect) → at_peer S c (ledger w) e k.peer k ≡ Ok x → at_conn S w e c (slice_get w.conns c) ≡ Ok (after_effect w c k x, x.seen)
      acts e x h = ap (at_conn S w e c) here ∙ ap (with_effect w c k) h

      either : (e : Event) (x : Effect) → at_peer S c (ledger w) e Foreign k ≡ Ok x → ((wish : Wish) → at_peer S c (ledger w) e (Ours wish) k ≡ Ok x) → at_peer S c (ledger w) e k.peer k ≡ Ok x
      either e x a b = go k.peer
        where
          go : (p : Peer) → at_peer S c (ledger w) e p k ≡ Ok x
          go Foreign = a
          go (Ours wish) = b wish

      -- of its own number
      module _ (alive : k.server_lost ≡ false) where
        abbrev r : Rest G
        r = rest w

        found : find c r.sessions ≡ Some (live_of c k)
        found = find_at w.conns 0 c c k (omega arith) here alive

        working : counted_if (work_at answer welcomes c r) → Does (works c)
        working counts =
            let x = work S c (ledger w) k in let served = work_served G gate w c k here alive s answer welcomes in
            let d = work_kept S c (ledger w) (kept_of k) k.ended in
            let wrote : call_said answer welcomes c (works c) r ≡ said_by d.answer = cond-true (c == c) _ _ (eq-eqb c c refl) ∙ ap (λ (o : Option Live). step_said answer welcomes o r) found in
            record {
              effect = x;
              reached = goes_on w (after_effect w c k x) (Work c) x.seen st.reached (record { steps = acts (Work c) x (either (Work c) x refl (λ _. refl)); made = tt; counted = subst counted_if served counts });
              server = ap (λ o. after_call o r) (sym served);
              at = at_then answer welcomes gate ours brought ms w st.server (works c) c (Some x.conn)
                  (spoken_facts s (work_speaks S c (ledger w) k) (ours c) _ _ _ [] _ (call_said answer welcomes c (works c) r) f (sym (append-nil k.up)) (told_work d.answer k.says ∙ ap (λ z. z ++ answers_among k.says) (sym wrote)));
            }

        putting : Does (noops c)
        putting =
            let x = noop k in let served = noop_served G gate w c k here alive s in
            record {
              effect = x;
              reached = goes_on w (after_effect w c k x) (PutsNoop c) x.seen st.reached (record { steps = acts (PutsNoop c) x (either (PutsNoop c) x refl (λ _. refl)); made = tt; counted = tt });
              server = ap (λ o. after_call o r) (sym served);
              at = at_then answer welcomes gate ours brought ms w st.server (noops c) c (Some x.conn)
                  (spoken_facts s (noop_speaks k) (ours c) _ _ _ [] _ [] f (sym (append-nil k.up)) (noop_case (λ y. answers_among y.conn.says ≡ answers_among k.says) k refl (λ _ _. refl)));
            }

        losing : Does (loses c)
        losing =
            let x = server_gone k in
            record {
              effect = x;
              reached = goes_on w (after_effect w c k x) (ServerLost c) SawNothing st.reached (record { steps = acts (ServerLost c) x (either (ServerLost c) x refl (λ _. refl)); made = tt; counted = tt });
              server = ap (λ z. z.1) (sym (lost_served G gate w c k here alive s));
              at = at_then answer welcomes gate ours brought ms w st.server (loses c) c (Some x.conn) (gone_facts (ours c) _ _ _ _ f);
            }
          where
            gone_side : (o : Option Wish) (run : Wish → Run) → Side o run k → Side o run (server_gone k).conn
            gone_side None run h = λ e. absurd (true≢false e)
            gone_side (Some wish) run h = record { lives = h.lives; sent = h.sent; took = h.took }

            gone_facts : (o : Option Wish) (run : Wish → Run) (up out : List ℕ) (said : List Said) → Facts o run up out said k → Facts o run (up ++ []) (out ++ []) said (server_gone k).conn
            gone_facts o run up out said g =
                let most = g.given.most in let counts = s.counts in
                record {
                  peer = g.peer;
                  joined = g.joined;
                  taken = g.taken ∙ sym (append-nil up);
                  given = record { count = g.given.count; is = append-nil out ∙ g.given.is; most = omega arith; all = λ e. absurd (true≢false e) };
                  told = g.told;
                  side = gone_side o run g.side;
                }

        -- bytes that come out
        module _ (n : ℕ) where
          abbrev t : ℕ
          t = min (k.taken + n) (length (output k))

          abbrev more : List ℕ
          more = take n (drop k.taken (output k))

          served : take_out_at c n r ≡ Some (more, rest (after_effect w c k (quiet (record k { taken = t }) SawNothing)))
          served = take_served G gate w c k here alive s n

          gave : gave_by c (takes c n) r ≡ more
          gave = cond-true (c == c) _ _ (eq-eqb c c refl) ∙ ap out_of served

          -- by what was taken then, and given
          out_facts : (o : Option Wish) (run : Wish → Run) (up out : List ℕ) (said : List Said) (count down : ℕ) → count ≡ t → Facts o run up out said k → Side o run (record k { taken = count; down = down })
              → Facts o run (up ++ []) (out ++ gave_by c (takes c n) r) said (record k { taken = count; down = down })
          out_facts o run up out said count down e g side = record {
            peer = g.peer;
            joined = g.joined;
            taken = g.taken ∙ sym (append-nil up);
            given = record {
              count = count;
              is = ap₂ (λ (y z : List ℕ). y ++ z) (g.given.is ∙ ap (λ i. take i (output k)) (g.given.all alive)) gave ∙ sym (take-add k.taken n (output k)) ∙ sym (take_min (k.taken + n) (output k)) ∙ ap (λ i. take i (output k)) (sym e);
              most = omega arith;
              all = λ _. refl;
            };
            told = g.told;
            side = side;
          }

          taking_foreign : ours c ≡ None → Does (takes c n)
          taking_foreign strange =
              let even : k.down ≡ k.taken = subst (λ o. Side o (λ wish. run_of wish c ms) k) strange f.side alive in
              let same : t ≡ taken_for n k = same_count k.taken k.down (length (output k)) n even s.counts in
              let k2 = record k { taken = taken_for n k; down = taken_for n k } in let seen = Gave (taken_for n k - k.down) (Ok Nothing) in
              let x = quiet k2 seen in
              let h : at_peer S c (ledger w) (ToClient c n) k.peer k ≡ Ok x =
              ap (λ p. at_peer S c (ledger w) (ToClient c n) p k) (f.peer ∙ ap peer_by strange) ∙ ap (λ z. let y : Result Effect Refusal = Ok z in y) (cond-false k.cut _ _ f.joined) in
              record {
                effect = x;
                reached = goes_on w (after_effect w c k x) (ToClient c n) seen st.reached (record { steps = acts (ToClient c n) x h; made = tt; counted = tt });
                server = sym (alike gate w c k here (record k { taken = t }) k2 SawNothing seen alive alive alive (ap (λ i. live_of c (record k { taken = i })) same)) ∙ ap (λ o. after_call o r) (sym served);
                at = at_then answer welcomes gate ours brought ms w st.server (takes c n) c (Some k2)
                    (out_facts (ours c) _ _ _ _ (taken_for n k) (taken_for n k) (sym same) f (subst (λ o. Side o (λ wish. run_of wish c ms) k2) (sym strange) (λ _. refl)));
              }

          taking_ours : (wish : Wish) → ours c ≡ Some wish → Does (takes c n)
          taking_ours wish mine =
              let peer : k.peer ≡ Ours wish = f.peer ∙ ap peer_by mine in
              let side : Meets (run_of wish c ms) k = subst (λ o. Side o (λ wish. run_of wish c ms) k) mine f.side in
              let m = (k.taken - k.down) + n in
              let good = all_good S brought w st.reached c k wish here peer in
              let same : (effect_at_peer k.peer m k).conn.taken ≡ t =
              ap (λ p. (effect_at_peer p m k).conn.taken) peer ∙ count_is m refl side.lives good.no_bad (all_out S brought st.reached c k here wish peer) in
              let x = quiet (record k { taken = t }) SawNothing in
              let is : taken_out w c m (slice_get w.conns c) ≡ after_effect w c k x =
              ap (taken_out w c m) here ∙ ap₂ (λ (i : ℕ) (es : List EntryView). let y : World = record { conns = slice_set w.conns c (record k { taken = i }); brought = w.brought; since = es } in y) same (sym (append-nil w.since)) in
              record {
                effect = x;
                reached = subst (Reached S brought) is (takes_out w c m st.reached);
                server = ap (λ o. after_call o r) (sym served);
                at = at_then answer welcomes gate ours brought ms w st.server (takes c n) c (Some x.conn)
                    (out_facts (ours c) _ _ _ _ t k.down refl f (subst (λ o. Side o (λ wish. run_of wish c ms) x.conn) (sym mine) (record { lives = side.lives; sent = side.sent; took = side.took })));
              }
            where
              counted : taken_for ((k.taken - k.down) + n) k ≡ t
              counted = count_more k.taken k.down n (length (output k)) s.below s.counts

              count_is : (m : ℕ) → m ≡ (k.taken - k.down) + n → k.client_lost ≡ false → (heard_by_bytes k).bad ≡ false → ((heard_by_bytes k).ended ≡ true → k.taken ≡ length (output k)) → (to_client m k).conn.taken ≡ t
              count_is m is lives sound ended =
                  cond_both (k.cut || (k.client_lost || ((heard_by_bytes k).ended || (heard_by_bytes k).bad))) (quiet k (Gave 0 (Ok Nothing))) (give m k) (λ (y : Effect). y.conn.taken ≡ t)
                  (λ shut. count_full k.taken n (length (output k)) (ended (ended_alone k.cut k.client_lost (heard_by_bytes k).ended (heard_by_bytes k).bad f.joined lives sound shut)))
                  (λ free. ap (λ i. taken_for i k) is ∙ counted)

        -- bytes that the session takes
        fed_facts : (piece : List ℕ) (p : List ℕ) (took : Took) → feed_at c piece r ≡ Some (took, rest (after_effect w c k (feed p k))) → (feed p k).conn.up ≡ k.up ++ take took.used piece
            → AtMoments answer welcomes gate ours brought (ms_with (feeds c piece)) c (Some (feed p k).conn)
        fed_facts piece p took served up =
            let took_is : took_by c (feeds c piece) r ≡ take took.used piece = cond-true (c == c) _ _ (eq-eqb c c refl) ∙ ap (used_of piece) served in
            at_then answer welcomes gate ours brought ms w st.server (feeds c piece) c (Some (feed p k).conn)
            (spoken_facts s (feed_speaks k s p) (ours c) _ _ _ (took_by c (feeds c piece) r) _ [] f (up ∙ ap (λ z. k.up ++ z) (sym took_is))
            (feed_case (λ y. answers_among y.conn.says ≡ answers_among k.says) p k (λ what. refl) (λ _ _ _. told_item _ k.says)))

        up_more : (p : List ℕ) → (feed p k).conn.up ≡ k.up ++ take (used_seen (feed p k).seen) p
        up_more p = feed_case (λ y. y.conn.up ≡ k.up ++ take (used_seen y.seen) p) p k (λ what. sym (append-nil k.up)) (λ _ _ _. refl)

        feeding_foreign : (piece : List ℕ) → ours c ≡ None → Does (feeds c piece)
        feeding_foreign piece strange =
            let x = feed piece k in let served = feed_served G gate w c k here alive s f.joined piece in
            let h : at_peer S c (ledger w) (Feeds c piece) k.peer k ≡ Ok x = ap (λ p. at_peer S c (ledger w) (Feeds c piece) p k) (f.peer ∙ ap peer_by strange) in
            record {
              effect = x;
              reached = goes_on w (after_effect w c k x) (Feeds c piece) x.seen st.reached (record { steps = acts (Feeds c piece) x h; made = tt; counted = subst IsCountedIn (sym served.2) tt });
              server = ap (λ o. after_call o r) (sym served.1);
              at = fed_facts piece piece served.0 served.1 (up_more piece ∙ ap (λ z. k.up ++ take (used_seen z) piece) served.2);
            }

        feeding_ours : (piece : List ℕ) (wish : Wish) → ours c ≡ Some wish → Links (ms_with (feeds c piece)) → Does (feeds c piece)
        feeding_ours piece wish mine links =
            let peer : k.peer ≡ Ours wish = f.peer ∙ ap peer_by mine in
            let side : Meets (run_of wish c ms) k = subst (λ o. Side o (λ wish. run_of wish c ms) k) mine f.side in
            let whole = feed_served G gate w c k here alive s f.joined piece in
            let p = take whole.0.used piece in
            let x = feed p k in let served = feed_served G gate w c k here alive s f.joined p in
            let is = some_pair_parts whole.0 served.0 (rest (after_effect w c k (feed piece k))) (rest (after_effect w c k x)) (sym (feed_front c piece r (rest (after_effect w c k (feed piece k))) whole.0 whole.1) ∙ served.1) in
            let all : feed_at c piece r ≡ Some (whole.0, rest (after_effect w c k x)) = whole.1 ∙ ap (λ z. Some (whole.0, z)) is.1 in
            let up : x.conn.up ≡ k.up ++ p =
            up_more p ∙ ap (λ z. k.up ++ take (used_seen z) p) served.2 ∙ ap (λ (z : Took). k.up ++ take z.used p) (sym is.0) ∙ ap (λ z. k.up ++ z) (take-take whole.0.used whole.0.used piece (omega arith)) in
            let came : take (length p) (drop (length k.up) (input wish k.sent)) ≡ p = front_next k.up p (input wish k.sent) (in_input wish mine side peer links p (cond-true (c == c) _ _ (eq-eqb c c refl) ∙ ap (used_of piece) whole.1)) in
            let h : at_peer S c (ledger w) (ToServer c (length p)) k.peer k ≡ Ok x =
            ap (λ z. at_peer S c (ledger w) (ToServer c (length p)) z k) peer ∙ ap (λ z. let y : Result Effect Refusal = Ok (feed z k) in y) came in
            record {
              effect = x;
              reached = goes_on w (after_effect w c k x) (ToServer c (length p)) x.seen st.reached (record { steps = acts (ToServer c (length p)) x h; made = tt; counted = subst IsCountedIn (sym served.2) tt });
              server = ap (λ o. after_call o r) (sym all);
              at = fed_facts piece p whole.0 all up;
            }
          where
            in_input : (wish : Wish) → ours c ≡ Some wish → Meets (run_of wish c ms) k → k.peer ≡ Ours wish → Links (ms_with (feeds c piece)) → (p : List ℕ) → took_by c (feeds c piece) r ≡ p → IsFront (k.up ++ p) (input wish k.sent)
            in_input wish mine side peer links p is =
                let run = run_of wish c ms in let made = reading_of wish run.sent run.took in
                let inv = reached_inv S brought st.reached c k here wish peer in
                let reads : heard_by_bytes k ≡ made = ap (λ z. reading_of (wish_of z) k.sent (bytes_delivered k)) peer ∙ ap₂ (λ qs bs. reading_of wish qs bs) side.sent side.took in
                let puts : put_out wish made.version run.sent ≡ input wish k.sent =
                ⊎_elim
                (λ e. let none = (calls_hold wish (client_calls c ms) (starts wish) (starts_hold wish)).before (ap (λ (z : Reading). z.version) (sym reads) ∙ e) in
                ap (λ qs. put_out wish made.version qs) none ∙ sym (ap (input wish) (side.sent ∙ none)))
                (λ e. ap (λ v. put_out wish v run.sent) (ap (λ (z : Reading). z.version) (sym reads) ∙ e) ∙ sym (ap (input wish) side.sent))
                (knows_if S (ledger w) wish k inv.talk (tells S w.brought w.since c wish k peer inv.talk).version) in
                let link = (links c wish mine).up in
                let front : IsFront (k.up ++ p) (run.out ++ run.rest.unsent) =
                subst (λ (z : Run). IsFront (k.up ++ p) (z.out ++ z.rest.unsent)) (run_then answer welcomes gate ours brought ms w st.server (feeds c piece) c wish)
                (subst (λ bs. IsFront bs ((run_of wish c (ms_with (feeds c piece))).out ++ (run_of wish c (ms_with (feeds c piece))).rest.unsent)) (took_then answer welcomes gate ours brought ms w st.server (feeds c piece) c ∙ ap₂ (λ (y z : List ℕ). y ++ z) (sym f.taken) is) link) in
                subst (IsFront (k.up ++ p)) ((tells_by_bytes wish (client_calls c ms)).out ∙ puts) front

    -- by what stands in the place of its number
    module _ (c : ℕ) where
      at_place : (e : Call) → (IsGone (slice_get w.conns c) → StandsIn (ms_with e)) → ((k : Connection) → slice_get w.conns c ≡ Some k → k.server_lost ≡ false → StandsIn (ms_with e)) → StandsIn (ms_with e)
      at_place e gone lives = go (slice_get w.conns c) refl
        where
          go : (o : Option Connection) → slice_get w.conns c ≡ o → StandsIn (ms_with e)
          go None h = gone (subst IsGone (sym h) tt)
          go (Some k) h = ⊎_elim (λ t. gone (subst IsGone (sym h) t)) (λ n. lives k h n) (cases_Bool k.server_lost)

      -- and by who its peer is
      by_peer : {A : Type 0} → (ours c ≡ None → A) → ((wish : Wish) → ours c ≡ Some wish → A) → A
      by_peer {A = A} none some = go (ours c) refl
        where
          go : (o : Option Wish) → ours c ≡ o → A
          go None e = none e
          go (Some wish) e = some wish e

    -- what a step tells is counted
    abbrev Counts : Call → Type 0
    Counts e = (conn : ℕ) → e ≡ works conn → counted_if (work_at answer welcomes conn (rest w))

    pub calls : (e : Call) → Counts e → Links (ms_with e) → StandsIn (ms_with e)
    calls opens counts links = opening
    calls (feeds c piece) counts links =
        at_place c (feeds c piece)
        (λ gone. idles (feeds c piece) (idle_call gate w c gone (λ l. ((fed_live l piece).0, with_session (fed_live l piece).1 (rest w)))) (λ j. silent_gone answer welcomes gate w c gone (feeds c piece) j refl))
        (λ k here n. does c k here (feeds c piece) refl (by_peer c (λ e. feeding_foreign c k here n piece e) (λ wish e. feeding_ours c k here n piece wish e links)))
    calls (works c) counts links =
        at_place c (works c)
        (λ gone. idles (works c) (idle_call gate w c gone (λ l. after_step l (work_kept (setting answer welcomes (rest w)) l.conn (rest w).ledger l.kept l.kept.ended) (rest w))) (λ j. silent_gone answer welcomes gate w c gone (works c) j refl))
        (λ k here n. does c k here (works c) refl (working c k here n (counts c refl)))
    calls (takes c m) counts links =
        at_place c (takes c m)
        (λ gone. idles (takes c m) (idle_call gate w c gone (λ l. ((taken_from m l).0, with_session (taken_from m l).1 (rest w)))) (λ j. silent_gone answer welcomes gate w c gone (takes c m) j refl))
        (λ k here n. does c k here (takes c m) refl (by_peer c (λ e. taking_foreign c k here n m e) (λ wish e. taking_ours c k here n m wish e)))
    calls (noops c) counts links =
        at_place c (noops c)
        (λ gone. idles (noops c) (idle_call gate w c gone (λ l. ((noop_put l).0, with_session (noop_put l).1 (rest w)))) (λ j. silent_gone answer welcomes gate w c gone (noops c) j refl))
        (λ k here n. does c k here (noops c) refl (putting c k here n))
    calls (loses c) counts links =
        at_place c (loses c) (λ gone. idles (loses c) (idle_loss gate w c gone) (λ j. silent_gone answer welcomes gate w c gone (loses c) j refl))
        (λ k here n. does c k here (loses c) refl (losing c k here n))
