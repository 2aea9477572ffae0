-- Calls at both ends, from the first to the last, and the losses of clients at the end of them.
use Rattle.std.proofs.Common.{◌≡◌, ◌≢◌, refl, sym, ◌∙◌, ap, subst, ℕ, zero, suc, ◌≤◌, ◌<◌, true, false, Option, Some, None, Ok, List, [], ◌∷◌, ◌++◌, slice_get, append-nil, append_assoc, ⊎_elim, arith}
use Rattle.std.proofs.lemmas.Bool.{cases_Bool, cases_eq}
use Rattle.std.proofs.lemmas.Option.{slice_get_within, same_Some}
use Rattle.wire.specs.declared.Wish.{Wish}
use Rattle.engine.specs.Prelude.{EntryView, Welcome}
use Rattle.server_session.specs.Prelude.{Setting}
use Rattle.server.specs.Prelude.{Rest, empty, work_at, after_events, Event as Call}
use Rattle.world.specs.Prelude.{Connection, bytes_delivered, World, ClientLost, SawNothing, quiet, ledger, empty as empty_world, at_conn, at_peer, with_effect, after_effect, IsLedger, Reached, begins, goes_on, server_rest, Definition, setting_of}
use Rattle.world.proofs.Deeds.{get_set}
use Rattle.world.proofs.Served.{unseen}
use Rattle.world_guarantees.specs.Tied.{IsAt}
use Rattle.world_guarantees.specs.Prelude.{counted_if, Moment, serves, asks, server_calls, run_of, attempt_of, ArePlayed, IsRun, AreRuns, all_said}
use Rattle.world_guarantees.proofs.Replayed.{begun}
use Rattle.world_guarantees.proofs.Histories.{answers_among, peer_by, Meets, Side, AtMoments, Stands}
use Rattle.world_guarantees.proofs.Called.{calls}
use Rattle.world_guarantees.proofs.Asked.{asked}

calls_before : (before : List Moment) (e : Call) (later : List Moment) → server_calls (before ++ serves e ∷ later) ≡ server_calls before ++ e ∷ server_calls later
calls_before [] e later = refl
calls_before (serves d ∷ before) e later = ap (λ z. d ∷ z) (calls_before before e later)
calls_before (asks c x ∷ before) e later = calls_before before e later

module _ {G : Type 0} (answer : Definition) (welcomes : G → Welcome) (gate : G) (ours : ℕ → Option Wish) (brought : List EntryView) (is : IsLedger brought) where
  abbrev S : Setting
  S = setting_of answer welcomes gate

  abbrev rest : World → Rest G
  rest w = server_rest gate w

  abbrev r0 : Rest G
  r0 = empty brought gate

  abbrev StandsIn : List Moment → Type 0
  StandsIn ms = Stands answer welcomes gate ours brought ms

  -- before the first call
  first : StandsIn []
  first = record {
    world = empty_world brought;
    reached = begins is;
    server = begun answer welcomes gate brought;
    at = λ c. record { taken = refl; given = refl; told = refl; side = λ wish e. (refl, refl) };
  }

  module _ (ms : List Moment) (played : ArePlayed answer welcomes ours ms r0) where
    -- one more call
    moment : (before : List Moment) (m : Moment) (later : List Moment) → before ++ m ∷ later ≡ ms → StandsIn before → StandsIn (before ++ m ∷ [])
    moment before (serves e) later at st =
        calls answer welcomes gate ours brought before st e
        (λ conn is. subst (λ z. counted_if (work_at answer welcomes conn z)) (sym st.server)
        (played.counted (server_calls before) (server_calls later) conn (ap (λ z. server_calls before ++ z ∷ server_calls later) (sym is) ∙ sym (calls_before before e later) ∙ ap server_calls at)))
        (λ c wish mine. played.linked (before ++ serves e ∷ []) later c wish mine (append_assoc before (serves e ∷ []) later ∙ at))
    moment before (asks c x) later at st =
        asked answer welcomes gate ours brought before st c x (λ d wish mine. played.linked (before ++ asks c x ∷ []) later d wish mine (append_assoc before (asks c x ∷ []) later ∙ at))
        (λ wish q mine is. played.written before later c wish q mine (ap (λ z. before ++ asks c z ∷ later) (sym is) ∙ at))

    moments : (later before : List Moment) → before ++ later ≡ ms → StandsIn before → StandsIn ms
    moments [] before at st = subst StandsIn (sym (append-nil before) ∙ at) st
    moments (m ∷ later) before at st = moments later (before ++ m ∷ []) (append_assoc before (m ∷ []) later ∙ at) (moment before m later at st)

    pub stands : StandsIn ms
    stands = moments ms [] refl first

    -- Of a connection after that, where each client with a number below n that was lost is lost in the world too.
    pub record IsMet (n c : ℕ) (wish : Wish) (k : Connection) : Type 0 where
      pub sent : k.sent ≡ (run_of wish c ms).sent
      pub took : bytes_delivered k ≡ (run_of wish c ms).took
      pub lost : c < n → k.client_lost ≡ (run_of wish c ms).lost
      pub lives : n ≤ c → k.client_lost ≡ false

    pub record IsHere (n c : ℕ) (k : Connection) : Type 0 where
      pub peer : k.peer ≡ peer_by (ours c)
      pub told : answers_among k.says ≡ all_said answer welcomes c (server_calls ms) r0
      pub met : (wish : Wish) → ours c ≡ Some wish → IsMet n c wish k

    pub record Ends (n : ℕ) : Type 0 where
      pub world : World
      pub reached : Reached S brought world
      pub server : rest world ≡ after_events answer welcomes (server_calls ms) r0
      pub here : (c : ℕ) (k : Connection) → slice_get world.conns c ≡ Some k → IsHere n c k

    at_first : Ends 0
    at_first = record {
      world = stands.world;
      reached = stands.reached;
      server = stands.server;
      here = λ c k h.
          let f = subst (AtMoments answer welcomes gate ours brought ms c) h (stands.at c) in
          record {
            peer = f.peer;
            told = f.told;
            met = λ wish mine. let m : Meets (run_of wish c ms) k = subst (λ o. Side o (λ y. run_of y c ms) k) mine f.side in
                record { sent = m.sent; took = m.took; lost = λ l. absurd (omega (arith, l)); lives = λ _. m.lives };
          };
    }

    module _ (n : ℕ) (e : Ends n) where
      abbrev w : World
      w = e.world

      -- of the others, and where nothing is to be done
      kept : (c : ℕ) (k : Connection) → c ≢ n → IsHere n c k → IsHere (suc n) c k
      kept c k apart h = record {
        peer = h.peer;
        told = h.told;
        met = λ wish mine. let m = h.met wish mine in
            record { sent = m.sent; took = m.took; lost = λ l. m.lost (omega (arith, l, apart)); lives = λ l. m.lives (omega (arith, l)) };
      }

      still : ((k : Connection) → slice_get w.conns n ≡ Some k → IsHere n n k → IsHere (suc n) n k) → Ends (suc n)
      still f = record {
        world = w;
        reached = e.reached;
        server = e.server;
        here = λ c k h. ⊎_elim (λ same. subst (λ j. IsHere (suc n) j k) (sym same) (f k (subst (λ j. slice_get w.conns j ≡ Some k) same h) (subst (λ j. IsHere n j k) same (e.here c k h)))) (λ apart. kept c k apart (e.here c k h)) (cases_eq c n);
      }

      foreign : ours n ≡ None → Ends (suc n)
      foreign strange = still (λ k here h. record { peer = h.peer; told = h.told; met = λ wish mine. let no : None ≡ Some wish = sym strange ∙ mine in cc })

      absent : slice_get w.conns n ≡ None → Ends (suc n)
      absent none = still (λ k here h. let no : None ≡ Some k = sym none ∙ here in cc)

      goes_on_living : (wish : Wish) → ours n ≡ Some wish → (run_of wish n ms).lost ≡ false → Ends (suc n)
      goes_on_living wish mine lives = still (λ k here h. record {
        peer = h.peer;
        told = h.told;
        met = λ wish2 mine2.
            let m = h.met wish2 mine2 in
            let same : wish ≡ wish2 = same_Some wish wish2 (sym mine ∙ mine2) in
            record { sent = m.sent; took = m.took; lost = λ _. m.lives (omega arith) ∙ sym (subst (λ z. (run_of z n ms).lost ≡ false) same lives); lives = λ l. absurd (omega (arith, l)) };
      })

      loses : (wish : Wish) → ours n ≡ Some wish → (run_of wish n ms).lost ≡ true → (k : Connection) → slice_get w.conns n ≡ Some k → Ends (suc n)
      loses wish mine lost k here =
          let h = e.here n k here in
          let k2 = record k { client_lost = true } in let x = quiet k2 SawNothing in
          let w2 = after_effect w n k x in
          let does : at_peer S n (ledger w) (ClientLost n) k.peer k ≡ Ok x = ap (λ p. at_peer S n (ledger w) (ClientLost n) p k) (h.peer ∙ ap peer_by mine) in
          let here2 : IsHere (suc n) n k2 = record {
            peer = h.peer;
            told = h.told;
            met = λ wish2 mine2.
                let m = h.met wish2 mine2 in
                let same : wish ≡ wish2 = same_Some wish wish2 (sym mine ∙ mine2) in
                record { sent = m.sent; took = m.took; lost = λ _. sym (subst (λ z. (run_of z n ms).lost ≡ true) same lost); lives = λ l. absurd (omega (arith, l)) };
          } in
          record {
            world = w2;
            reached = goes_on w w2 (ClientLost n) SawNothing e.reached (record { steps = ap (at_conn S w (ClientLost n) n) here ∙ ap (with_effect w n k) does; made = tt; counted = tt });
            server = sym (unseen gate w n k here k2 SawNothing refl (λ _ j. refl)) ∙ e.server;
            here = λ c k3 g. ⊎_elim (λ a. subst (λ j. IsHere (suc n) j k3) a.0 (subst (IsHere (suc n) n) a.1 here2)) (λ a. kept c k3 (λ q. a.0 (sym q)) (e.here c k3 a.1)) (get_set w.conns n c k k2 k3 here g);
          }

      next : Ends (suc n)
      next = by_wish (ours n) refl
        where
          by_place : (wish : Wish) → ours n ≡ Some wish → (run_of wish n ms).lost ≡ true → (o : Option Connection) → slice_get w.conns n ≡ o → Ends (suc n)
          by_place wish mine lost None g = absent g
          by_place wish mine lost (Some k) g = loses wish mine lost k g

          by_wish : (o : Option Wish) → ours n ≡ o → Ends (suc n)
          by_wish None g = foreign g
          by_wish (Some wish) g = ⊎_elim (λ t. by_place wish g t (slice_get w.conns n) refl) (λ f. goes_on_living wish g f) (cases_Bool (run_of wish n ms).lost)

    ends : (n : ℕ) → Ends n
    ends zero = at_first
    ends (suc n) = next n (ends n)

    -- each client whose connection was opened
    pub last : Ends (after_events answer welcomes (server_calls ms) r0).next
    last = ends (after_events answer welcomes (server_calls ms) r0).next

    pub opened : (c : ℕ) (k : Connection) → slice_get last.world.conns c ≡ Some k → c < (after_events answer welcomes (server_calls ms) r0).next
    opened c k h = subst (λ n. c < n) (ap (λ (z : Rest G). z.next) last.server) (slice_get_within last.world.conns c k h)

    pub at_attempt : (c : ℕ) (k : Connection) (wish : Wish) → ours c ≡ Some wish → slice_get last.world.conns c ≡ Some k → IsAt last.world c k (attempt_of wish c ms)
    at_attempt c k wish mine h =
        let g = last.here c k h in let m = g.met wish mine in
        record { here = h; ours = g.peer ∙ ap peer_by mine; sent = m.sent; took = m.took; lost = m.lost (opened c k h) }

    pub is_run : IsRun answer welcomes gate ours brought ms
    is_run = record {
      after = last.world;
      behind = record { reached = last.reached; server = last.server };
      attempts = at_attempt;
      foreign = λ c k strange h. (last.here c k h).peer ∙ ap peer_by strange;
    }

pub are_runs : {G : Type 0} (answer : Definition) (welcomes : G → Welcome) (gate : G) (ours : ℕ → Option Wish) → AreRuns answer welcomes gate ours
are_runs answer welcomes gate ours brought ms is played = is_run answer welcomes gate ours brought is ms played
