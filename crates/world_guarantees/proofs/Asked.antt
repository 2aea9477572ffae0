-- A call on a client of ours: it leads to a world that stands for the calls with it.
use Rattle.std.proofs.Common.{◌≡◌, ◌≢◌, refl, sym, ◌∙◌, ap, ap₂, subst, ℕ, ◌+◌, ◌≤◌, min, max, Bool, true, false, ◌||◌, Option, Some, None, Result, Ok, List, [], ◌∷◌, ◌++◌, length, take, drop, slice_get, append-nil, length-take, ◌⊎◌, ⊎_elim, arith, length-append, take-append-drop}
use Rattle.std.proofs.lemmas.Bool.{cond-true, cond-false, cases_Bool, cases_eq, or_parts}
use Rattle.std.proofs.lemmas.List.{length-take-le}
use Rattle.std.proofs.lemmas.Option.{same_Some}
use Rattle.std.proofs.Math.Seq.{take-add}
use Rattle.wire.specs.declared.Wish.{Wish}
use Rattle.wire.specs.Prelude.{wish_version, reach, state, takes as reads, at_client, Took, Opened, Item}
use Rattle.wire.proofs.Readers.{reads_pieces}
use Rattle.messages.specs.Prelude.{RequestView, hears, IsWritten}
use Rattle.engine.specs.Prelude.{EntryView, Welcome}
use Rattle.server_session.specs.Prelude.{Setting}
use Rattle.server.specs.Prelude.{Rest}
use Rattle.client.specs.declared.SubmitFault.{SubmitFault}
use Rattle.client.specs.Prelude.{Call as ClientCall, Submits, Feeds, TakesOut, Loses, Run, call as called, submits, used_of, refuses, Knows, Reading, knows_of, reading_of, refusal_of, IsWrittenBy}
use Rattle.client.proofs.Runs.{tells_by_bytes}
use Rattle.client.proofs.Refusing.{accepted_facts, knows_version}
use Rattle.world.specs.Prelude.{Ours, Connection, Said, output, bytes_delivered, heard_by_bytes, wish_of, World, Event, Submit, ToClient, Seen, Submitted, Refusal, Effect, quiet, effect_of_submit, ledger, step, at_conn, at_peer, with_effect, after_effect, give, WStep, Reached, goes_on, server_rest, live_of, Definition, setting_of}
use Rattle.world.proofs.Deeds.{set_same, set_other, step_did}
use Rattle.world.proofs.Giving.{used_same}
use Rattle.world.proofs.Sound.{Sound, reached_sound}
use Rattle.world.proofs.Kept.{tells}
use Rattle.world.proofs.Clients.{knows_if, did_made}
use Rattle.world.proofs.Headline.{reached_inv}
use Rattle.world.proofs.Served.{unseen}
use Rattle.world_guarantees.specs.Prelude.{Moment, asks, client_calls, run_of, IsFront, IsLinked}
use Rattle.world_guarantees.proofs.Pieces.{front_length, front_trans, front_none, front_next, takes_front}
use Rattle.world_guarantees.proofs.Histories.{peer_by, Meets, Side, At, AtMoments, Stands, server_still, gave_still, at_other, at_own, took_in, gave_in, said_in, run_more, answers_among}

-- a client that has taken nothing accepts nothing, since it knows no version
quiet_sent : (wish : Wish) (c : ℕ) (ms : List Moment) (x : ClientCall) → (run_of wish c ms).sent ≡ [] → (run_of wish c ms).took ≡ [] → (called (run_of wish c ms) x).sent ≡ []
quiet_sent wish c ms (Submits q) e t = go (refuses run.rest.knows q) refl
  where
    run : Run
    run = run_of wish c ms

    go : (o : Option SubmitFault) → refuses run.rest.knows q ≡ o → (submits run q o).sent ≡ []
    go (Some fault) h = e
    go None h =
        let unknown : run.rest.knows.version ≡ None = ap (λ (z : Knows). z.version) (tells_by_bytes wish (client_calls c ms)).knows ∙ ap₂ (λ qs bs. (reading_of wish qs bs).version) e t in
        absurd (knows_version run.rest.knows q run.rest.knows.version (accepted_facts run.rest.knows q h).1 unknown)
quiet_sent wish c ms (Feeds piece) e t = e
quiet_sent wish c ms (TakesOut n) e t = e
quiet_sent wish c ms Loses e t = e

-- what was taken out already is enough
none_more : (taken down long : ℕ) → down ≤ taken → max taken (min down long) ≡ taken
none_more taken down long l = omega arith

all_false : (a b c d : Bool) → a ≡ false → b ≡ false → c ≡ false → d ≡ false → a || (b || (c || d)) ≡ false
all_false false false false false w x y z = refl
all_false _ _ _ _ w x y z = cc

module _ {G : Type 0} (answer : Definition) (welcomes : G → Welcome) (gate : G) (ours : ℕ → Option Wish) (brought : List EntryView) where
  abbrev S : Setting
  S = setting_of answer welcomes gate

  abbrev rest : World → Rest G
  rest w = server_rest gate w

  abbrev StandsIn : List Moment → Type 0
  StandsIn ms = Stands answer welcomes gate ours brought ms

  abbrev Links : List Moment → Type 0
  Links ms = (c : ℕ) (wish : Wish) → ours c ≡ Some wish → IsLinked answer welcomes wish c ms (record { sessions = []; next = 0; ledger = brought; gate = gate })

  module _ (ms : List Moment) (st : StandsIn ms) (c : ℕ) (x : ClientCall) where
    abbrev w : World
    w = st.world

    abbrev ms_with : List Moment
    ms_with = ms ++ asks c x ∷ []

    -- a world that differs at one connection, to the session of which the same
    record Next : Type 0 where
      world : World
      reached : Reached S brought world
      server : rest world ≡ rest w
      others : (j : ℕ) → c ≢ j → slice_get world.conns j ≡ slice_get w.conns j
      at : AtMoments answer welcomes gate ours brought ms_with c (slice_get world.conns c)

    next : Next → StandsIn ms_with
    next n = record {
      world = n.world;
      reached = n.reached;
      server = n.server ∙ st.server ∙ sym (server_still answer welcomes gate ours brought ms c x);
      at = λ j.
          ⊎_elim (λ same. subst (λ i. AtMoments answer welcomes gate ours brought ms_with i (slice_get n.world.conns i)) same n.at)
          (λ apart. subst (AtMoments answer welcomes gate ours brought ms_with j) (sym (n.others j apart)) (at_other answer welcomes gate ours brought ms c x j (slice_get w.conns j) apart (st.at j))) (cases_eq c j);
    }

    -- where the world doesn't change
    same_world : AtMoments answer welcomes gate ours brought ms_with c (slice_get w.conns c) → StandsIn ms_with
    same_world h = next (record { world = w; reached = st.reached; server = refl; others = λ j n. refl; at = h })

    -- of the connection with its number, after the call
    abbrev AtOwn : Option Connection → Type 0
    AtOwn k = At (ours c) (λ wish. called (run_of wish c ms) x) (took_in answer welcomes gate ours brought c ms) (gave_in answer welcomes gate ours brought c ms) (said_in answer welcomes gate ours brought c ms) k

    own : (k : Option Connection) → AtOwn k → AtMoments answer welcomes gate ours brought ms_with c k
    own k h = at_own answer welcomes gate ours brought ms c x k h

    -- where its peer is foreign
    foreign : ours c ≡ None → StandsIn ms_with
    foreign strange = same_world (own (slice_get w.conns c) (go (ours c) strange _ _ _ _ _ (slice_get w.conns c) (st.at c)))
      where
        go : (o : Option Wish) → o ≡ None → (run run2 : Wish → Run) (up out : List ℕ) (said : List Said) (k : Option Connection) → At o run up out said k → At o run2 up out said k
        go None e run run2 up out said None h = record { taken = h.taken; given = h.given; told = h.told; side = λ wish q. cc }
        go None e run run2 up out said (Some k) h = record { peer = h.peer; joined = h.joined; taken = h.taken; given = h.given; told = h.told; side = h.side }
        go (Some wish) e run run2 up out said k h = cc

    -- the bytes that the client has taken by then came out of its session
    came : Links ms_with → (wish : Wish) → ours c ≡ Some wish → IsFront (called (run_of wish c ms) x).took (gave_in answer welcomes gate ours brought c ms)
    came links wish mine =
        subst (λ bs. IsFront (called (run_of wish c ms) x).took bs) (gave_still answer welcomes gate ours brought ms c x c)
        (subst (λ (z : Run). IsFront z.took (gave_in answer welcomes gate ours brought c ms_with)) (run_more wish c ms x) (links c wish mine).down)

    -- where it wasn't opened
    absent : Links ms_with → slice_get w.conns c ≡ None → StandsIn ms_with
    absent links none =
        let u = subst (AtMoments answer welcomes gate ours brought ms c) none (st.at c) in
        same_world (subst (AtMoments answer welcomes gate ours brought ms_with c) (sym none) (own None (record {
          taken = u.taken;
          given = u.given;
          told = u.told;
          side = λ wish mine. (
            quiet_sent wish c ms x (u.side wish mine).0 (u.side wish mine).1,
            front_none (called (run_of wish c ms) x).took (subst (λ bs. IsFront (called (run_of wish c ms) x).took bs) u.given (came links wish mine)),
          );
        })))

    module _ (wish : Wish) (mine : ours c ≡ Some wish) (k : Connection) (here : slice_get w.conns c ≡ Some k) where
      s : Sound k
      s = reached_sound S brought st.reached c k here

      f : AtMoments answer welcomes gate ours brought ms c (Some k)
      f = subst (AtMoments answer welcomes gate ours brought ms c) here (st.at c)

      abbrev run : Run
      run = run_of wish c ms

      abbrev made : Reading
      made = reading_of wish run.sent run.took

      peer : k.peer ≡ Ours wish
      peer = f.peer ∙ ap peer_by mine

      side : Meets run k
      side = subst (λ o. Side o (λ y. run_of y c ms) k) mine f.side

      heard : heard_by_bytes k ≡ made
      heard = ap (λ z. reading_of (wish_of z) k.sent (bytes_delivered k)) peer ∙ ap₂ (λ qs bs. reading_of wish qs bs) side.sent side.took

      knows_is : run.rest.knows ≡ knows_of made run.sent run.lost
      knows_is = (tells_by_bytes wish (client_calls c ms)).knows

      -- of a client that isn't over
      goes : run.rest.knows.over ≡ false → (run.lost ≡ false) × ((made.ended ≡ false) × (made.bad ≡ false))
      goes e = let o = or_parts run.lost (made.ended || made.bad) (sym (ap (λ (z : Knows). z.over) knows_is) ∙ e) in (o.0, or_parts made.ended made.bad o.1)

      known : ((heard_by_bytes k).version ≡ None) ⊎ ((heard_by_bytes k).version ≡ Some (wish_version wish))
      known = let inv = reached_inv S brought st.reached c k here wish peer in knows_if S (ledger w) wish k inv.talk (tells S w.brought w.since c wish k peer inv.talk).version

      side_then : (k2 : Connection) → Meets (called run x) k2 → Side (ours c) (λ y. called (run_of y c ms) x) k2
      side_then k2 m = subst (λ o. Side o (λ y. called (run_of y c ms) x) k2) (sym mine) m

      -- what is so of another connection that says the same, and of which more was given
      facts_then : (k2 : Connection) → k2.peer ≡ k.peer → k2.cut ≡ k.cut → k2.up ≡ k.up → output k2 ≡ output k → k2.taken ≡ k.taken → k2.server_lost ≡ k.server_lost → k2.says ≡ k.says → Meets (called run x) k2 → AtOwn (Some k2)
      facts_then k2 a b d e g h i m = record {
        peer = a ∙ f.peer;
        joined = b ∙ f.joined;
        taken = d ∙ f.taken;
        given = record { count = f.given.count; is = f.given.is ∙ ap (take f.given.count) (sym e); most = subst (λ t. f.given.count ≤ t) (sym g) f.given.most; all = λ alive. f.given.all (sym h ∙ alive) ∙ sym g };
        told = ap answers_among i ∙ f.told;
        side = side_then k2 m;
      }

      unchanged : Meets (called run x) k → StandsIn ms_with
      unchanged m = same_world (subst (AtMoments answer welcomes gate ours brought ms_with c) (sym here) (own (Some k) (facts_then k refl refl refl refl refl refl refl m)))

      changed : (e : Event) (k2 : Connection) (seen : Seen) → WStep S w e seen (after_effect w c k (quiet k2 seen)) → k2.server_lost ≡ k.server_lost → ((j : ℕ) → live_of j k2 ≡ live_of j k) → AtOwn (Some k2) → StandsIn ms_with
      changed e k2 seen wstep l m at = next (record {
        world = after_effect w c k (quiet k2 seen);
        reached = goes_on w (after_effect w c k (quiet k2 seen)) e seen st.reached wstep;
        server = sym (unseen gate w c k here k2 seen l (λ _ j. m j));
        others = λ j n. set_other w.conns c j k2 n;
        at = subst (AtMoments answer welcomes gate ours brought ms_with c) (sym (set_same w.conns c k k2 here)) (own (Some k2) at);
      })

      acts : (e : Event) (y : Effect) → at_peer S c (ledger w) e (Ours wish) k ≡ Ok y → at_conn S w e c (slice_get w.conns c) ≡ Ok (after_effect w c k y, y.seen)
      acts e y h = ap (at_conn S w e c) here ∙ ap (with_effect w c k) (ap (λ p. at_peer S c (ledger w) e p k) peer ∙ h)

    -- a request
    module _ (q : RequestView) (is : x ≡ Submits q) (wish : Wish) (mine : ours c ≡ Some wish) (k : Connection) (here : slice_get w.conns c ≡ Some k)
        (written : refuses (run_of wish c ms).rest.knows q ≡ None → IsWrittenBy (run_of wish c ms).rest.knows.version q) where
      abbrev client : Run
      client = run_of wish c ms

      refused : (fault : SubmitFault) → refuses client.rest.knows q ≡ Some fault → StandsIn ms_with
      refused fault e =
          unchanged wish mine k here (subst (λ z. Meets (called client z) k) (sym is) (subst (λ o. Meets (submits client q o) k) (sym e) (side wish mine k here)))

      accepted : refuses client.rest.knows q ≡ None → StandsIn ms_with
      accepted e =
          let facts = accepted_facts client.rest.knows q e in
          let met = side wish mine k here in let on = goes wish mine k here facts.0 in
          let same : knows_of (heard_by_bytes k) k.sent k.client_lost ≡ client.rest.knows =
          (λ i. knows_of (heard wish mine k here i) (met.sent i) ((met.lives ∙ sym on.0) i)) ∙ sym (knows_is wish mine k here) in
          let none : refusal_of (heard_by_bytes k) k.client_lost k.sent q ≡ None = ap (λ z. refuses z q) same ∙ e in
          let version : client.rest.knows.version ≡ (heard_by_bytes k).version = ap (λ (z : Knows). z.version) (sym same) in
          let text : IsWritten (wish_version wish) q =
          ⊎_elim (λ no. absurd (knows_version client.rest.knows q client.rest.knows.version facts.1 (version ∙ no))) (λ is. subst (λ o. IsWrittenBy o q) (version ∙ is) (written e)) (known wish mine k here) in
          let k2 = record k { sent = k.sent ++ q ∷ [] } in let seen = Submitted (Ok (length k.sent)) in
          let steps : step S w (Submit c q) ≡ Ok (after_effect w c k (quiet k2 seen), seen) =
          acts wish mine k here (Submit c q) (quiet k2 seen) (ap (λ o. let y : Result Effect Refusal = Ok (effect_of_submit q k o) in y) none) in
          changed wish mine k here (Submit c q) k2 seen
          (record {
            steps = steps;
            made = did_made
                (λ k3 here3 wish3 p3 _. subst (λ z. IsWritten (wish_version z) q) (ap wish_of (sym (peer wish mine k here) ∙ ap (λ (z : Connection). z.peer) (same_Some k k3 (sym here ∙ here3)) ∙ p3)) text)
                (step_did S w (Submit c q) seen (after_effect w c k (quiet k2 seen)) steps);
            counted = tt;
          }) refl (λ j. refl)
          (facts_then wish mine k here k2 refl refl refl refl refl refl refl
          (subst (λ z. Meets (called client z) k2) (sym is) (subst (λ o. Meets (submits client q o) k2) (sym e) (record { lives = met.lives; sent = ap (λ qs. qs ++ q ∷ []) met.sent; took = met.took }))))

      submitted : StandsIn ms_with
      submitted = go (refuses client.rest.knows q) refl
        where
          go : (o : Option SubmitFault) → refuses client.rest.knows q ≡ o → StandsIn ms_with
          go (Some fault) e = refused fault e
          go None e = accepted e

    -- bytes
    module _ (piece : List ℕ) (is : x ≡ Feeds piece) (links : Links ms_with) (wish : Wish) (mine : ours c ≡ Some wish) (k : Connection) (here : slice_get w.conns c ≡ Some k) where
      abbrev fed : Run
      fed = run_of wish c ms

      abbrev n : ℕ
      n = used_of fed.rest piece

      abbrev p : List ℕ
      p = take n piece

      over : fed.rest.knows.over ≡ true → StandsIn ms_with
      over e =
          let met = side wish mine k here in
          let unused : n ≡ 0 = cond-true fed.rest.knows.over _ _ e in
          unchanged wish mine k here (subst (λ z. Meets (called fed z) k) (sym is) (record { lives = met.lives; sent = met.sent; took = met.took ∙ sym (append-nil fed.took) ∙ ap (λ i. fed.took ++ take i piece) (sym unused) }))

      module _ (e : fed.rest.knows.over ≡ false) where
        abbrev kept : Opened
        kept = state at_client at_client.start fed.took

        on : (fed.lost ≡ false) × (((reading_of wish fed.sent fed.took).ended ≡ false) × ((reading_of wish fed.sent fed.took).bad ≡ false))
        on = goes wish mine k here e

        used : n ≡ (reads at_client kept piece).used
        used = cond-false fed.rest.knows.over _ _ e ∙ ap (λ (o : Opened). (reads at_client o piece).used) (tells_by_bytes wish (client_calls c ms)).item

        long : length p ≡ n
        long = length-take-le n piece (subst (λ i. i ≤ length piece) (sym used) ((reads_pieces Opened Item at_client).within kept piece))

        -- the client uses all of what it used
        all_used : reach hears (bytes_delivered k) p ≡ length p
        all_used =
            ap (λ bs. reach hears bs p) (side wish mine k here).took ∙ used_same wish fed.sent fed.took on.1 p ∙ ap (λ i. (reads at_client kept (take i piece)).used) used
            ∙ ap (λ (t : Took Opened Item). t.used) (takes_front at_client kept piece) ∙ sym used ∙ sym long

        abbrev count : ℕ
        count = (f wish mine k here).given.count

        out : IsFront (fed.took ++ p) (take count (output k))
        out = subst (λ bs. IsFront (fed.took ++ p) bs) (f wish mine k here).given.is (subst (λ z. IsFront (called fed z).took (gave_in answer welcomes gate ours brought c ms)) is (came links wish mine))

        whole : IsFront (fed.took ++ p) (output k)
        whole = front_trans (fed.took ++ p) (take count (output k)) (output k) out (drop count (output k), take-append-drop count (output k))

        down : length fed.took ≡ k.down
        down = ap length (sym (side wish mine k here).took) ∙ length-take-le k.down (output k) (let a = (s wish mine k here).counts in let b = (s wish mine k here).below in omega arith)

        comes : take (length p) (drop k.down (output k)) ≡ p
        comes = ap (λ i. take (length p) (drop i (output k))) (sym down) ∙ front_next fed.took p (output k) whole

        -- no more than was taken out
        within : k.down + length p ≤ k.taken
        within =
            let a = front_length (fed.took ++ p) (take count (output k)) out in let b = (f wish mine k here).given.most in
            omega (arith, length-append fed.took p, length-take count (output k), a, b, down)

        abbrev k3 : Connection
        k3 = (give (length p) k).conn

        taken : k3.taken ≡ k.taken
        taken = none_more k.taken (k.down + length p) (length (output k)) within

        given : k3.down ≡ k.down + length p
        given = ap (λ bs. k.down + reach hears (bytes_delivered k) bs) comes ∙ ap (λ i. k.down + i) all_used

        open_end : (k.cut || (k.client_lost || ((heard_by_bytes k).ended || (heard_by_bytes k).bad))) ≡ false
        open_end =
            all_false k.cut k.client_lost (heard_by_bytes k).ended (heard_by_bytes k).bad (f wish mine k here).joined (side wish mine k here).lives
            (ap (λ (z : Reading). z.ended) (heard wish mine k here) ∙ on.1.0) (ap (λ (z : Reading). z.bad) (heard wish mine k here) ∙ on.1.1)

        delivered : bytes_delivered k3 ≡ fed.took ++ p
        delivered = ap (λ i. take i (output k)) given ∙ take-add k.down (length p) (output k) ∙ ap₂ (λ (y z : List ℕ). y ++ z) (side wish mine k here).took comes

        goes_on_hearing : StandsIn ms_with
        goes_on_hearing =
            let y = give (length p) k in let met = side wish mine k here in
            changed wish mine k here (ToClient c (length p)) k3 y.seen
            (record {
              steps = acts wish mine k here (ToClient c (length p)) y (ap (λ z. let r : Result Effect Refusal = Ok z in r) (cond-false (k.cut || (k.client_lost || ((heard_by_bytes k).ended || (heard_by_bytes k).bad))) _ _ open_end));
              made = tt;
              counted = tt;
            }) refl (λ j. ap (λ t. live_of j (record k { taken = t })) taken)
            (facts_then wish mine k here k3 refl refl refl refl taken refl refl (subst (λ z. Meets (called fed z) k3) (sym is) (record { lives = met.lives; sent = met.sent; took = delivered })))

      heard_more : StandsIn ms_with
      heard_more = ⊎_elim over (λ e. goes_on_hearing e) (cases_Bool fed.rest.knows.over)

  -- the premise of a request
  abbrev IsWell : List Moment → ℕ → ClientCall → Type 0
  IsWell ms c x = (wish : Wish) (q : RequestView) → ours c ≡ Some wish → x ≡ Submits q → refuses (run_of wish c ms).rest.knows q ≡ None → IsWrittenBy (run_of wish c ms).rest.knows.version q

  pub asked : (ms : List Moment) → StandsIn ms → (c : ℕ) (x : ClientCall) → Links (ms ++ asks c x ∷ []) → IsWell ms c x → StandsIn (ms ++ asks c x ∷ [])
  asked ms st c x links well = by_wish (ours c) refl
    where
      present : (wish : Wish) → ours c ≡ Some wish → (k : Connection) → slice_get st.world.conns c ≡ Some k → (y : ClientCall) → x ≡ y → StandsIn (ms ++ asks c x ∷ [])
      present wish mine k here (Submits q) is = submitted ms st c x q is wish mine k here (well wish q mine is)
      present wish mine k here (Feeds piece) is = heard_more ms st c x piece is links wish mine k here
      present wish mine k here (TakesOut m) is =
          let met = side ms st c x wish mine k here in unchanged ms st c x wish mine k here (subst (λ z. Meets (called (run_of wish c ms) z) k) (sym is) (record { lives = met.lives; sent = met.sent; took = met.took }))
      present wish mine k here Loses is =
          let met = side ms st c x wish mine k here in unchanged ms st c x wish mine k here (subst (λ z. Meets (called (run_of wish c ms) z) k) (sym is) (record { lives = met.lives; sent = met.sent; took = met.took }))

      by_place : (wish : Wish) → ours c ≡ Some wish → (o : Option Connection) → slice_get st.world.conns c ≡ o → StandsIn (ms ++ asks c x ∷ [])
      by_place wish mine None e = absent ms st c x links e
      by_place wish mine (Some k) e = present wish mine k e x refl

      by_wish : (o : Option Wish) → ours c ≡ o → StandsIn (ms ++ asks c x ∷ [])
      by_wish None e = foreign ms st c x e
      by_wish (Some wish) e = by_place wish e (slice_get st.world.conns c) refl
