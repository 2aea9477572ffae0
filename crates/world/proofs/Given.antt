-- What a client is asked, its loss, and bytes that reach a peer, at the link of its connection.
use Rattle.std.proofs.Common.{◌≡◌, sym, ◌∙◌, ap, ℕ, Option, Some, None, Result, Ok, Err, List, ◌++◌, inr, refl, ap₂, subst, ◌+◌, ◌-◌, ◌≤◌, Bool, true, false, ◌||◌, inl, min, max, [], length, take, drop, slice_get, slice_set, arith, append-nil, length-drop, true≢false, if◌then◌else◌, option_map, ◌∷◌, ⊎_elim, ◌⊎◌}
use Rattle.std.specs.declared.alloc.AllocError.{AllocError}
use Rattle.server_session.specs.declared.Cause.{Cause}
use Rattle.server.specs.Serving as serving
use Rattle.world.proofs.Answered as answered
use Rattle.world.specs.Prelude.{Takes, Draws, Peer, Ours, Foreign, Connection, heard_by_bytes, output, bytes_delivered, wish_of, World, Effect, ToClient, Seen, Gave, SawNothing, Refusal, quiet, at_peer, ledger, after_effect, effect_at_peer, taken_for, give, to_client, drain, taken_out, Submit, ClientLost, Submitted, effect_of_submit, read_after, by_peer, client_rest, live_of, server_rest, Link, Rest, FitsClient, FitsLink, Answers, FitsEnd, link_of, end_peer, event_of, Definition, Before, Holds, Submits, LosesClient, after_loss, Turns, IsWrong}
use Rattle.std.proofs.Math.Seq.{take-nil, drop-length}
use Rattle.std.proofs.lemmas.Bool.{or_left, or_right, cond-true, cond-false}
use Rattle.std.proofs.lemmas.List.{length-take-le}
use Rattle.world.proofs.Sound.{none_of, Sound}
use Rattle.wire.specs.declared.Wish.{Wish}
use Rattle.wire.specs.Prelude.{reach, wish_version}
use Rattle.messages.specs.Prelude.{hears, IsWritten, RequestView}
use Rattle.engine.specs.Prelude.{EntryView, Welcome}
use Rattle.server.specs.declared.Server.{Server}
use Rattle.server_session.specs.Prelude.{Setting}
use Rattle.server.specs.Views as server
use Rattle.client.specs.declared.ClientFault.{ClientFault}
use Rattle.client.specs.declared.ClientFault.TheVariants as client_fault
use Rattle.client.specs.Prelude.{tellings_in, knows_of, refusal_of, IsWrittenBy, IsAccepted}
use Rattle.client.specs.Rest as asking
use Rattle.world.specs.declared.kinds.Refused.TheVariants.{Memory, WrongPeer}
use Rattle.world.specs.declared.link.Link.{Link as LinkHeld}
use Rattle.world.proofs.Served.{unseen, alike, take_served}
use Rattle.world.proofs.Fitting.{held_long, held_all, front_is, drained_link, give_link, unseen_link, submit_link, lost_link, lost_again}
use Rattle.world.proofs.Giving.{seen_as, give_same}
use Rattle.world.proofs.Headline.{gives_said, reached_inv}
use Rattle.std.proofs.lemmas.Option.{same_Some, some_pair_parts}
use Rattle.world.proofs.Turning.{setting_at, link_at, found, conn_at, sound, lives, given_up, HeldIn, TurnsTo, DoesAt, may, acts, holds_then, rests, lacks, either, still, wrong, acts_unseen}
use Rattle.client.specs.declared.SubmitFault.{SubmitFault}
use Rattle.client.proofs.Later.{reading_count}
use Rattle.world.specs.declared.kinds.Refused.{Refused}
use Rattle.world.specs.declared.kinds.Event.{Event as EventTold}
use Rattle.world.specs.declared.kinds.Seen.{Seen as SeenTold}
use Rattle.world.proofs.Kept.{tells}
use Rattle.world.proofs.Clients.{accepting, knows_if}

-- What is taken out of a session is held.
module _ {G : Type 0} (c n missing : ℕ) (r : serving.Rest G) (old new more : List ℕ) (P : serving.Rest G → Type 0) where
  drawn_of : (gone : Option Cause) → gone ≡ None → Takes c n r old new P → (result : Result (Unit {0}) AllocError) → Draws gone c n r old result new P
  drawn_of None e t (Ok u) = t
  drawn_of None e t (Err f) = inr t
  drawn_of (Some cause) e t result = cc

  pub drawn : (gone : Option Cause) → gone ≡ None → missing ≡ n → answered.Answers (Ok more) (serving.take_out_at c missing r) r P → new ≡ old ++ more → (result : Result (Unit {0}) AllocError) → Draws gone c n r old result new P
  drawn gone e is a held result = drawn_of gone e (record { taken = more; after = a.0; out = ap (λ i. serving.take_out_at c i r) (sym is) ∙ a.1; held = held; now = a.2 }) result

moved_by : (a b : ℕ) → (a + b) - a ≡ b
moved_by a b = omega arith

counts_of : (taken down len n q : ℕ) → taken ≤ len → down ≤ taken → q ≡ taken - down → min (taken + (n - q)) len ≡ max taken (min (down + n) len)
counts_of taken down len n q a b e = omega arith

abbrev used_in : Seen → ℕ → ℕ
used_in (Gave used x) other = used
used_in seen other = other

no_fault : (i j : ℕ) (note : asking.Note) (f : ClientFault) → ◌≡◌ {A = Seen} (Gave i (Err f)) (Gave j (Ok note)) → ⊥
no_fault i j note f h = cc

-- a peer with a client is ours, and what is held of it is the client's rest
client_here : (m : Link) (k : Connection) (y : asking.Rest) → FitsLink m k → m.client ≡ Some y → (wish : Wish) × (k.peer ≡ Ours wish) × ((out : ℕ) × (y ≡ client_rest out k))
client_here m k y f is = go k.peer refl f.client
  where
    go : (p : Peer) → k.peer ≡ p → FitsClient p m.client m.up k → (wish : Wish) × (k.peer ≡ Ours wish) × ((out : ℕ) × (y ≡ client_rest out k))
    go (Ours wish) e h = (wish, e, (h.out, same_Some y (client_rest h.out k) (sym is ∙ h.client_is)))
    go Foreign e h = let no : None ≡ Some y = sym h.0 ∙ is in cc

module _ {E G : Type 0} {entries : E → List EntryView} {answer : Definition} {welcomes : G → Welcome} {c : ℕ} {l : LinkHeld} {s : Server E G} {r : Rest G} {w : World} where
  -- bytes for the peer
  module _ {n : ℕ} (b : Before entries answer welcomes (ToClient c n) l s r w) where
    abbrev m : Link
    m = link_at b

    abbrev k : Connection
    k = conn_at b

    abbrev fits : FitsLink m k
    fits = (found b).2

    so : Sound k
    so = sound b

    abbrev at : Peer → Result Effect Refusal
    at p = at_peer (setting_at b) c (ledger w) (ToClient c n) p k

    abbrev done : Effect → Result Effect Refusal
    done x = Ok x

    -- nothing is given
    nothing : at k.peer ≡ done (quiet k (Gave 0 (Ok asking.Nothing))) → TurnsTo b (Ok (Gave 0 (Ok asking.Nothing))) l s
    nothing h = rests b refl (Gave 0 (Ok asking.Nothing)) h tt tt

    -- after a cut, whoever the peer is
    pub given_cut : l.is_cut ≡ true → TurnsTo b (Ok (Gave 0 (Ok asking.Nothing))) l s
    given_cut cut =
        let is : k.cut ≡ true = sym fits.flags.0 ∙ cut in
        nothing (either at (done (quiet k (Gave 0 (Ok asking.Nothing)))) (λ wish. ap done (cond-true (k.cut || (k.client_lost || ((heard_by_bytes k).ended || (heard_by_bytes k).bad))) _ _ (or_left _ _ is))) (ap done (cond-true k.cut _ _ is)) k.peer)

    -- the server's part, where this was taken out of a session that lives: the bytes that are missing to n
    abbrev missing : ℕ
    missing = n - length m.down

    out_of : l.gone ≡ None → (taken : List ℕ) (server2 : serving.Rest G) → serving.take_out_at c missing r.server ≡ Some (taken, server2) → (k2 : Connection) (seen : Seen) → k2.server_lost ≡ k.server_lost → live_of c (record k { taken = taken_for n k }) ≡ live_of c k2
        → (taken ≡ take missing (drop k.taken (output k))) × (server2 ≡ server_rest r.server.gate (after_effect w c k (quiet k2 seen)))
    out_of gone taken server2 h k2 seen g e =
        let alive = lives b gone in let t = min (k.taken + missing) (length (output k)) in
        let one = some_pair_parts taken (take missing (drop k.taken (output k))) server2 _ (sym h ∙ ap (serving.take_out_at c missing) b.fits.server ∙ take_served G r.server.gate w c k (found b).1 alive so missing) in (
          one.0,
          one.1 ∙ alike r.server.gate w c k (found b).1 (record k { taken = t }) k2 SawNothing seen alive alive (g ∙ alive)
              (ap (λ i. live_of c (record k { taken = i })) (counts_of k.taken k.down (length (output k)) n (length m.down) so.counts so.below (held_long m k fits so n)) ∙ e),
        )

    unseen_then : k.server_lost ≡ true → (k2 : Connection) (seen : Seen) → k2.server_lost ≡ k.server_lost → r.server ≡ server_rest r.server.gate (after_effect w c k (quiet k2 seen))
    unseen_then gone k2 seen g = b.fits.server ∙ unseen r.server.gate w c k (found b).1 k2 seen g (λ alive j. absurd (true≢false (sym gone ∙ alive)))

    -- a client of ours
    module _ {y : asking.Rest} (client_is : b.client ≡ Some y) where
      abbrev of_ours : (wish : Wish) × (k.peer ≡ Ours wish) × ((out : ℕ) × (y ≡ client_rest out k))
      of_ours = client_here m k y fits client_is

      over_is : y.knows.over ≡ (k.client_lost || ((heard_by_bytes k).ended || (heard_by_bytes k).bad))
      over_is = ap (λ (z : asking.Rest). z.knows.over) of_ours.2.1

      takes : at k.peer ≡ done (to_client n k)
      takes = ap at of_ours.1

      pub given_over : y.knows.over ≡ true → TurnsTo b (Ok (Gave 0 (Ok asking.Nothing))) l s
      given_over over = nothing (takes ∙ ap done (cond-true (k.cut || (k.client_lost || ((heard_by_bytes k).ended || (heard_by_bytes k).bad))) _ _ (or_right k.cut _ (sym over_is ∙ over))))

      -- where nothing came out
      pub given_lacks : (l2 : LinkHeld) (s2 : Server E G) → link_of l2 b.client ≡ m → FitsEnd l2.end b.client → server.Fits entries s2 r.server → TurnsTo b (Err Memory) l2 s2
      given_lacks = lacks b refl _ takes (λ h. h) (inl refl)

      module _ (on : y.knows.over ≡ false) (joined : l.is_cut ≡ false) where
        open_is : (k.client_lost ≡ false) × (((heard_by_bytes k).ended ≡ false) × ((heard_by_bytes k).bad ≡ false))
        open_is = let o = none_of false k.client_lost (heard_by_bytes k).ended (heard_by_bytes k).bad (sym over_is ∙ on) in (o.0, (o.1, o.2))

        goes : to_client n k ≡ give n k
        goes = cond-false (k.cut || (k.client_lost || ((heard_by_bytes k).ended || (heard_by_bytes k).bad))) _ _ (ap₂ (λ x z. x || z) (sym fits.flags.0 ∙ joined) (ap₂ (λ x z. x || z) open_is.0 (ap₂ (λ x z. x || z) open_is.1.0 open_is.1.1)))

        -- where bytes came out of a session that lives
        came_out : (l2 : LinkHeld) (s2 : Server E G) → l.gone ≡ None → (bytes : List ℕ) → Takes c missing r.server m.down bytes (server.Fits entries s2) → link_of l2 b.client ≡ record m { down = bytes } → FitsEnd l2.end b.client → TurnsTo b (Err Memory) l2 s2
        came_out l2 s2 gone bytes d same ends =
            let k2 = record k { taken = taken_for n k } in let o = out_of gone d.taken d.after d.out k2 SawNothing refl refl in
            let down = m.down ++ take missing (drop k.taken (output k)) in
            let out_is : taken_out w c n (slice_get w.conns c) ≡ after_effect w c k (quiet k2 SawNothing) =
            ap (taken_out w c n) (found b).1
            ∙ ap₂ (λ t es. record { conns = slice_set w.conns c (record k { taken = t }); brought = w.brought; since = es }) (ap (λ p. (effect_at_peer p n k).conn.taken) of_ours.1 ∙ ap (λ (x : Effect). x.conn.taken) goes) (sym (append-nil w.since)) in
            let link = subst (λ z. FitsLink z k2) (sym (same ∙ ap (λ x. let z : Link = record m { down = x } in z) (d.held ∙ ap (λ x. m.down ++ x) o.0))) (unseen_link m (record m { down = down }) k k2 fits (held_all m k fits so n) fits.flags) in
            record {
              may = may b refl _ takes;
              after = taken_out w c n (slice_get w.conns c);
              leaves = inr refl;
              now = subst (HeldIn b l2 s2) (sym out_is) (holds_then b (quiet k2 SawNothing) l2 s2 b.client d.after ends d.now o.1 link);
            }

        pub given_draws : (gone : Option Cause) → l.gone ≡ gone → (res : Result (Unit {0}) AllocError) (bytes : List ℕ) (l2 : LinkHeld) (s2 : Server E G)
            → Draws gone c missing r.server m.down res bytes (server.Fits entries s2) → link_of l2 b.client ≡ record m { down = bytes } → FitsEnd l2.end b.client → TurnsTo b (Err Memory) l2 s2
        given_draws gone e res bytes l2 s2 d same ends = go gone e res d
          where
            kept : (bytes ≡ m.down) × server.Fits entries s2 r.server → TurnsTo b (Err Memory) l2 s2
            kept d = given_lacks l2 s2 (same ∙ ap (λ x. let z : Link = record m { down = x } in z) d.0) ends d.1

            go : (gone : Option Cause) → l.gone ≡ gone → (res : Result (Unit {0}) AllocError) → Draws gone c missing r.server m.down res bytes (server.Fits entries s2) → TurnsTo b (Err Memory) l2 s2
            go (Some cause) e res d = kept d
            go None e (Ok u) d = came_out l2 s2 e bytes d same ends
            go None e (Err f) d = ⊎_elim kept (λ d. came_out l2 s2 e bytes d same ends) d

        -- what the server keeps after the draw, and what is held
        abbrev held : List ℕ
        held = m.down ++ take missing (drop k.taken (output k))

        drew : (gone : Option Cause) → l.gone ≡ gone → (bytes : List ℕ) (s2 : Server E G) → Draws gone c missing r.server m.down (Ok tt) bytes (server.Fits entries s2)
            → (server2 : serving.Rest G) × server.Fits entries s2 server2 × (server2 ≡ server_rest r.server.gate (after_effect w c k (give n k))) × (bytes ≡ held)
        drew (Some cause) is bytes s2 d =
            let gone = (given_up b cause is).0 in
            (r.server, d.1, unseen_then gone (give n k).conn (give n k).seen refl, d.0 ∙ sym (ap (λ z. m.down ++ take missing z) (ap (λ i. drop i (output k)) (so.gone gone).1 ∙ drop-length (output k)) ∙ ap (λ z. m.down ++ z) (take-nil missing) ∙ append-nil m.down))
        drew None is bytes s2 d = let o = out_of is d.taken d.after d.out (give n k).conn (give n k).seen refl refl in (d.after, d.now, o.1, d.held ∙ ap (λ z. m.down ++ z) o.0)

        abbrev u : ℕ
        u = reach hears (bytes_delivered k) (take n (drop k.down (output k)))

        -- what is seen of the client's answer
        told : (bytes : List ℕ) → bytes ≡ held → (give n k).seen ≡ seen_as u (asking.feed_of y (take n bytes)).answer
        told bytes e =
            sym (give_same k of_ours.2.0 n open_is.0 open_is.1).1
            ∙ ap (λ i. seen_as i (asking.feed_of (client_rest of_ours.2.0 k) (take n (drop k.down (output k)))).answer) (moved_by k.down u)
            ∙ ap₂ (λ (x : asking.Rest) (z : List ℕ). seen_as u (asking.feed_of x z).answer) (sym of_ours.2.1) (sym (ap (take n) e ∙ front_is m k fits so n))

        pub given_done : (gone : Option Cause) (is : l.gone ≡ gone) (bytes : List ℕ) (s2 : Server E G) → Draws gone c missing r.server m.down (Ok tt) bytes (server.Fits entries s2)
            → (used : ℕ) (note : asking.Note) (l2 : LinkHeld) → let f = asking.feed_of y (take n bytes) in Ok (used, note) ≡ f.answer
            → link_of l2 (Some f.rest) ≡ record m { client = Some f.rest; down = drop used bytes; read = m.read ++ read_after (tellings_in (Ok (used, note))) [] } → FitsEnd l2.end (Some f.rest)
            → TurnsTo b (Ok (Gave used (Ok note))) l2 s2
        given_done gone is bytes s2 d used note l2 answered same ends =
            let f = asking.feed_of y (take n bytes) in let x = drew gone is bytes s2 d in
            let seen : (give n k).seen ≡ Gave used (Ok note) = told bytes x.3 ∙ ap (seen_as u) (sym answered) in
            let at_end : u ≡ used = sym (moved_by k.down u) ∙ ap (λ z. used_in z used) seen in
            let link = give_link m k fits so n of_ours.0 of_ours.1 open_is.0 open_is.1 y client_is in
            let link_is : ◌≡◌ {A = Link} (record m { client = Some f.rest; down = drop u bytes; read = m.read ++ read_after (tellings_in f.answer) [] }) (link_of l2 (Some f.rest)) =
            ap₂ (λ (i : ℕ) (a : Result (ℕ × asking.Note) ClientFault). let z : Link = record m { client = Some f.rest; down = drop i bytes; read = m.read ++ read_after (tellings_in a) [] } in z) at_end (sym answered) ∙ sym same in
            acts b refl (give n k) (takes ∙ ap done goes) (Gave used (Ok note)) seen l2 s2 (Some f.rest) x.0 ends x.1 x.2
            (subst (λ z. FitsLink z (give n k).conn) link_is
            (subst (λ z. FitsLink (record m { client = Some (asking.feed_of y (take n z)).rest; down = drop u z; read = m.read ++ read_after (tellings_in (asking.feed_of y (take n z)).answer) [] }) (give n k).conn) (sym x.3) link)) tt tt

        -- the client wants memory, and nothing else: none of ours meets a bad answer
        pub given_fails : (gone : Option Cause) (is : l.gone ≡ gone) (bytes : List ℕ) (s2 : Server E G) → Draws gone c missing r.server m.down (Ok tt) bytes (server.Fits entries s2)
            → (fault : ClientFault) (l2 : LinkHeld) → ((fault ≡ client_fault.Memory → ⊥) → (asking.feed_of y (take n bytes)).answer ≡ Err fault)
            → link_of l2 b.client ≡ record m { down = bytes } → (fault ≡ client_fault.Memory → FitsEnd l2.end b.client) → TurnsTo b (Err Memory) l2 s2
        given_fails gone is bytes s2 d fault l2 answered same ends = go fault answered ends
          where
            well : (f : ClientFault) → (asking.feed_of y (take n bytes)).answer ≡ Err f → ⊥
            well f e =
                let said = gives_said (setting_at b) b.brought w c n k of_ours.0 b.reached (found b).1 of_ours.1 in
                no_fault u _ _ f (sym (told bytes (drew gone is bytes s2 d).3 ∙ ap (seen_as u) e) ∙ sym (ap (λ (x : Effect). x.seen) goes) ∙ said.0)

            go : (f : ClientFault) → ((f ≡ client_fault.Memory → ⊥) → (asking.feed_of y (take n bytes)).answer ≡ Err f) → (f ≡ client_fault.Memory → FitsEnd l2.end b.client) → TurnsTo b (Err Memory) l2 s2
            go client_fault.Memory a ends = given_draws gone is (Ok tt) bytes l2 s2 d same (ends refl)
            go f a ends = absurd (well f (a (λ e. cc)))

    -- a foreign peer
    module _ (foreign : end_peer l.end ≡ Foreign) (joined : l.is_cut ≡ false) where
      peer_foreign : k.peer ≡ Foreign
      peer_foreign = sym fits.peer ∙ foreign

      abbrev k2 : Connection
      k2 = record k { taken = taken_for n k; down = taken_for n k }

      abbrev dropped : Seen
      dropped = Gave (taken_for n k - k.down) (Ok asking.Nothing)

      drains : at k.peer ≡ done (drain n k)
      drains = ap at peer_foreign

      pub drains_lacks : (l2 : LinkHeld) (s2 : Server E G) → link_of l2 b.client ≡ m → FitsEnd l2.end b.client → server.Fits entries s2 r.server → TurnsTo b (Err Memory) l2 s2
      drains_lacks = lacks b refl _ drains (λ h. h) (inl refl)

      -- all that is held is dropped
      drained : (l2 : LinkHeld) (s2 : Server E G) (used : ℕ) → used ≡ taken_for n k - k.down → (server2 : serving.Rest G) → server.Fits entries s2 server2 → server2 ≡ server_rest r.server.gate (after_effect w c k (quiet k2 dropped))
          → link_of l2 b.client ≡ record m { down = [] } → FitsEnd l2.end b.client → TurnsTo b (Ok (Gave used (Ok asking.Nothing))) l2 s2
      drained l2 s2 used is server2 serves rest same ends =
          acts b refl (quiet k2 dropped) (drains ∙ ap done (cond-false k.cut _ _ (sym fits.flags.0 ∙ joined))) (Gave used (Ok asking.Nothing)) (ap (λ i. Gave i (Ok asking.Nothing)) (sym is)) l2 s2 b.client server2 ends serves rest
          (subst (λ z. FitsLink z k2) (sym same) (drained_link m k fits so n peer_foreign)) tt tt

      pub drains_gone : (cause : Cause) → l.gone ≡ Some cause → (l2 : LinkHeld) (used : ℕ) → used ≡ length m.down → link_of l2 b.client ≡ record m { down = [] } → FitsEnd l2.end b.client → TurnsTo b (Ok (Gave used (Ok asking.Nothing))) l2 s
      drains_gone cause gone l2 used is same ends =
          let lost = (given_up b cause gone).0 in let full = (so.gone lost).1 in
          let level : k.taken - k.down ≡ taken_for n k - k.down = omega arith in
          drained l2 s used (is ∙ held_long m k fits so n ∙ level) r.server b.server (unseen_then lost k2 dropped refl) same ends

      pub drains_done : l.gone ≡ None → (l2 : LinkHeld) (s2 : Server E G) (taken : List ℕ) (used : ℕ) → answered.Answers (Ok taken) (serving.take_out_at c missing r.server) r.server (server.Fits entries s2)
          → used ≡ length (m.down ++ taken) → link_of l2 b.client ≡ record m { down = [] } → FitsEnd l2.end b.client → TurnsTo b (Ok (Gave used (Ok asking.Nothing))) l2 s2
      drains_done gone l2 s2 taken used a is same ends =
          let o = out_of gone taken a.0 a.1 k2 dropped refl refl in
          drained l2 s2 used (is ∙ ap (λ z. length (m.down ++ z)) o.0 ∙ ap length (held_all m k fits so n)
          ∙ (let x = so.counts in let y = so.below in length-take-le (taken_for n k - k.down) (drop k.down (output k)) (omega (arith, length-drop k.down (output k))))) a.0 a.2 o.1 same ends

  -- a request
  module _ {q : RequestView} (b : Before entries answer welcomes (Submit c q) l s r w) where
    abbrev m_asked : Link
    m_asked = link_at b

    abbrev k_asked : Connection
    k_asked = conn_at b

    -- what is held of its client, and what is asked of it
    module _ (y : asking.Rest) (is_there : m_asked.client ≡ Some y) where
      abbrev its : (wish : Wish) × (k_asked.peer ≡ Ours wish) × ((out : ℕ) × (y ≡ client_rest out k_asked))
      its = client_here m_asked k_asked y (found b).2 is_there

      asked : (o : Option SubmitFault) → asking.refuses y.knows q ≡ o → DoesAt b (effect_of_submit q k_asked o)
      asked o h = ap (λ p. at_peer (setting_at b) c (ledger w) (Submit c q) p k_asked) its.1 ∙ ap (λ z. let x : Result Effect Refusal = Ok (effect_of_submit q k_asked z) in x) (ap (λ (z : asking.Rest). asking.refuses z.knows q) (sym its.2.1) ∙ h)

      refuses_turn : (fault : SubmitFault) (l2 : LinkHeld) → asking.refuses y.knows q ≡ Some fault → Holds l2 m_asked → TurnsTo b (Ok (Submitted (Err fault))) l2 s
      refuses_turn fault l2 refused h =
          acts_unseen b refl k_asked (Submitted (Err fault)) (asked (Some fault) refused) refl (λ _ j. refl) l2 h.client h.ends (subst (λ z. FitsLink z k_asked) h.link_is (found b).2)
          (λ k2 g wish2 p none. let no : Some fault ≡ None = sym refused ∙ ap (λ z. asking.refuses z.knows q) its.2.1 ∙ subst (λ z. refusal_of (heard_by_bytes z) z.client_lost z.sent q ≡ None) (same_Some k2 k_asked (sym g ∙ (found b).1)) none in absurd cc) tt

      accepts_turn : (n : ℕ) (l2 : LinkHeld) → IsAccepted y q n → Holds l2 (record m_asked { client = Some (asking.after_submit y q) }) → TurnsTo b (Ok (Submitted (Ok n))) l2 s
      accepts_turn n l2 accepted h =
          subst (λ i. TurnsTo b (Ok (Submitted (Ok i))) l2 s) (sym (accepted.next ∙ ordinal_is))
          (acts_unseen b refl (record k_asked { sent = k_asked.sent ++ q ∷ [] }) (Submitted (Ok (length k_asked.sent))) (asked None accepted.allowed) refl (λ _ j. refl) l2 h.client h.ends
          (subst (λ z. FitsLink z (record k_asked { sent = k_asked.sent ++ q ∷ [] })) (ap (λ z. let m2 : Link = record m_asked { client = option_map (λ v. asking.after_submit v q) z } in m2) is_there ∙ h.link_is) (submit_link m_asked k_asked q (found b).2 open_now.1 open_now.0
          (⊎_elim (λ e. absurd (open_now.2 e)) (λ e. e ∙ ap (λ p. Some (wish_version (wish_of p))) (sym its.1)) knows)))
          (λ k2 g wish2 p no.
          let text : IsWrittenBy (heard_by_bytes k_asked).version q = subst (λ z. IsWrittenBy z.knows.version q) its.2.1 accepted.written in
          subst (λ wi. IsWritten (wish_version wi) q) (ap wish_of (sym its.1 ∙ ap (λ (y : Connection). y.peer) (same_Some k_asked k2 (sym (found b).1 ∙ g)) ∙ p))
          (⊎_elim (λ e. let n : ⊥ = subst (λ z. IsWrittenBy z q) e text in absurd n) (λ e. subst (λ z. IsWrittenBy z q) e text) knows)) tt)
        where
          open_now : (k_asked.client_lost ≡ false) × ((heard_by_bytes k_asked).bad ≡ false) × ((heard_by_bytes k_asked).version ≡ None → ⊥)
          open_now = accepting (heard_by_bytes k_asked) k_asked.client_lost k_asked.sent q (ap (λ z. asking.refuses z.knows q) (sym its.2.1) ∙ accepted.allowed)

          knows : ((heard_by_bytes k_asked).version ≡ None) ⊎ ((heard_by_bytes k_asked).version ≡ Some (wish_version its.0))
          knows =
              let inv = reached_inv (setting_at b) b.brought b.reached c k_asked (found b).1 its.0 its.1 in
              knows_if (setting_at b) (ledger w) its.0 k_asked inv.talk (tells (setting_at b) w.brought w.since c its.0 k_asked its.1 inv.talk).version

          ordinal_is : asking.next_ordinal y ≡ length k_asked.sent
          ordinal_is =
              let few : (heard_by_bytes k_asked).count ≤ length k_asked.sent = reading_count (wish_of k_asked.peer) k_asked.sent (hears (bytes_delivered k_asked)) in
              let counted : (heard_by_bytes k_asked).count + length (drop (heard_by_bytes k_asked).count k_asked.sent) ≡ length k_asked.sent = omega (arith, length-drop (heard_by_bytes k_asked).count k_asked.sent) in
              ap asking.next_ordinal its.2.1 ∙ ap (λ b. (heard_by_bytes k_asked).count + length (if b then [] else drop (heard_by_bytes k_asked).count k_asked.sent)) open_now.0 ∙ counted

    pub submit_turns : (res : Result Seen Refused) (l2 : LinkHeld) → Submits m_asked q res (Holds l2) → TurnsTo b res l2 s
    submit_turns (Ok (Submitted (Ok n))) l2 x = accepts_turn x.client x.here n l2 x.accepted x.now
    submit_turns (Ok (Submitted (Err fault))) l2 x = refuses_turn x.client x.here fault l2 x.refused x.now
    submit_turns (Err WrongPeer) l2 x = wrong b (λ h. h) (subst (IsWrong (Submit c q)) (sym x.0) tt) l2 x.1.client (sym x.1.link_is) x.1.ends
    submit_turns (Err Memory) l2 x = record { may = may b refl _ (asked x.client x.here _ refl); after = w; leaves = refl; now = still b l2 s x.now.client (sym x.now.link_is) x.now.ends b.server }
    submit_turns _ l2 x = absurd x

  -- the loss of the client
  module _ (b : Before entries answer welcomes (ClientLost c) l s r w) where
    abbrev T : Setting
    T = setting_at b

    abbrev Now_ : LinkHeld → Server E G → World → Type 0
    Now_ = HeldIn b

    abbrev m_lost : Link
    m_lost = link_at b

    loses_turn : (z : Bool) → m_lost.client_lost ≡ z → (l2 : LinkHeld) (y : asking.Rest) → m_lost.client ≡ Some y → Holds l2 (after_loss z m_lost y) → Answers T w (ClientLost c) (Ok SawNothing) (Now_ l2 s)
    loses_turn z was l2 y is h =
        acts_unseen b refl (record k { client_lost = true }) SawNothing (ap (λ p. at_peer T c (ledger w) (ClientLost c) p k) its_lost.1) refl (λ _ j. refl) l2 h.client h.ends
        (subst (λ z. FitsLink z (record k { client_lost = true })) h.link_is (link z was)) tt tt
      where
        k : Connection
        k = conn_at b

        its_lost : (wish : Wish) × (k.peer ≡ Ours wish) × ((out : ℕ) × (y ≡ client_rest out k))
        its_lost = client_here m_lost k y (found b).2 is

        link : (z : Bool) → m_lost.client_lost ≡ z → FitsLink (after_loss z m_lost y) (record k { client_lost = true })
        link true was = lost_again m_lost k (found b).2 (sym (found b).2.flags.1 ∙ was)
        link false was =
            subst (λ o. FitsLink (record m_lost { client = option_map asking.after_drop o; client_lost = true; lost = asking.losses y.knows }) (record k { client_lost = true })) is
            (lost_link m_lost k (asking.losses y.knows) (found b).2
            (ap (λ z. asking.losses z.knows) its_lost.2.1 ∙ ap (λ b. asking.losses (knows_of (heard_by_bytes k) k.sent b)) (sym (found b).2.flags.1 ∙ was)
            ∙ ap (λ p. by_peer p (asking.losses (knows_of (heard_by_bytes k) k.sent false))) (sym its_lost.1)))

    pub loses_turns : (res : Result Seen Refused) (l2 : LinkHeld) → LosesClient m_lost res (Holds l2) → Answers T w (ClientLost c) res (Now_ l2 s)
    loses_turns (Ok SawNothing) l2 x = loses_turn m_lost.client_lost refl l2 x.client x.here x.now
    loses_turns (Err WrongPeer) l2 x = wrong b (λ h. h) (subst (IsWrong (ClientLost c)) (sym x.0) tt) l2 x.1.client (sym x.1.link_is) x.1.ends
    loses_turns _ l2 x = absurd x

-- of an event that is known by an equation
pub event_is : {E G : Type 0} (entries : E → List EntryView) (answer : Definition) (welcomes : G → Welcome) (x y : EventTold) (l : LinkHeld) (s : Server E G) (res : Result SeenTold Refused) (l2 : LinkHeld) (s2 : Server E G)
    → x ≡ y → Turns entries answer welcomes (event_of y) l s res l2 s2 → Turns entries answer welcomes (event_of x) l s res l2 s2
event_is entries answer welcomes x y l s res l2 s2 is t = let P : EventTold → Type 0 = λ z. Turns entries answer welcomes (event_of z) l s res l2 s2 in subst P (sym is) t
