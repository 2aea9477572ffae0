-- Steps of a session, no-ops, bytes to a session, a cut, and the loss of a session, at the link of their connection.
use Rattle.std.proofs.Common.{◌≡◌, refl, sym, ◌∙◌, ap, ap₂, subst, ℕ, ◌-◌, Bool, true, false, not, ◌||◌, if◌then◌else◌, is_some, Some, None, Result, Ok, Err, List, ◌∷◌, ◌++◌, length, take, drop, slice_get, append-nil, ◌+◌, ◌<◌, min, Option, [], arith, length-take, true≢false}
use Rattle.std.proofs.lemmas.Option.{some_pair_parts}
use Rattle.std.proofs.lemmas.Bool.{cond-true, cond-false}
use Rattle.wire.specs.declared.Wish.{Wish}
use Rattle.engine.specs.Prelude.{EntryView, Welcome}
use Rattle.server_session.specs.declared.Cause.{Cause}
use Rattle.server_session.specs.declared.What.{What}
use Rattle.server_session.specs.declared.Worked.{Worked}
use Rattle.server_session.specs.Prelude.{work_kept, IsCounted}
use Rattle.server.specs.declared.Server.{Server}
use Rattle.server.specs.declared.Took.{Took}
use Rattle.server.specs.Serving as serving
use Rattle.world.proofs.Answered as answered
use Rattle.server.specs.Views as server
use Rattle.client.specs.Rest as asking
use Rattle.world.specs.declared.kinds.Refused.TheVariants.{Memory}
use Rattle.world.specs.declared.link.Link.{Link as LinkHeld}
use Rattle.world.specs.Prelude.{Ours, Foreign, SaysNoop, input, kept_of, output, World, Event, place, step, at_conn, Effect, ToServer, Work, PutsNoop, Cut, Feeds, Refusal, quiet, at_peer, ledger, effect_of_step, work, noop, feed, SawWork, SawNoop, SawNothing, Fed, ServerLost, after_effect, server_gone, wrote_by, Link, Rest, FitsLink, FitsClient, FitsEnd, link_of, end_peer, flow_of, Definition, Before, server_rest}
use Rattle.world.proofs.Fitting.{held_link, used_seen, server_link, piece_is, feed_link, alone_link, unseen_link, gone_link}
use Rattle.world.proofs.Served.{work_served, noop_served, feed_served, take_served, lost_served}
use Rattle.world.proofs.Turning.{setting_at, link_at, found, conn_at, sound, lives, given_up, TurnsTo, DoesAt, held_as, may, acts, acts_unseen, rests, either}
use Rattle.world.proofs.Sound.{work_speaks, noop_speaks, counted_sound}
use Rattle.std.proofs.lemmas.List.{set-set, take_all}
use Rattle.world.specs.declared.flow.Flow.{Flow}
use Rattle.world.proofs.Clients.{TellsWritten}
use Rattle.world.proofs.Deeds.{set_same}

-- bytes for the server, whoever the peer is: none where its session was given up, and none after a cut
module _ {E G : Type 0} {entries : E → List EntryView} {answer : Definition} {welcomes : G → Welcome} {e : Event} {l : LinkHeld} {s : Server E G} {r : Rest G} {w : World}
    (b : Before entries answer welcomes e l s r w) (same : step (setting_at b) w e ≡ at_conn (setting_at b) w e (place e) (slice_get w.conns (place e))) (tells : TellsWritten w e) (bytes : List ℕ) (feeds : DoesAt b (feed bytes (conn_at b))) where
  nowhere : (what : What) → feed bytes (conn_at b) ≡ quiet (conn_at b) (Fed 0 what) → TurnsTo b (Ok (Fed 0 what)) l s
  nowhere what h = rests b same (Fed 0 what) (feeds ∙ ap (λ z. let x : Result Effect Refusal = Ok z in x) h) tells tt

  pub fed_over : (cause : Cause) → l.gone ≡ Some cause → TurnsTo b (Ok (Fed 0 What.Closed)) l s
  fed_over cause gone = nowhere What.Closed (cond-true (conn_at b).server_lost _ _ (given_up b cause gone).0)

  pub fed_cut : l.gone ≡ None → l.is_cut ≡ true → TurnsTo b (Ok (Fed 0 What.Part)) l s
  fed_cut gone cut = nowhere What.Part (cond-false (conn_at b).server_lost _ _ (lives b gone) ∙ cond-true (conn_at b).cut _ _ (sym (found b).2.flags.0 ∙ cut))

module _ {E G : Type 0} {entries : E → List EntryView} {answer : Definition} {welcomes : G → Welcome} {c : ℕ} {l : LinkHeld} {s : Server E G} {r : Rest G} {w : World} where
  -- a step
  module _ (b : Before entries answer welcomes (Work c) l s r w) where
    pub works : DoesAt b (work (setting_at b) c (ledger w) (conn_at b))
    works = either (λ p. at_peer (setting_at b) c (ledger w) (Work c) p (conn_at b)) (Ok (work (setting_at b) c (ledger w) (conn_at b))) (λ _. refl) refl (conn_at b).peer

    pub work_over : (cause : Cause) → l.gone ≡ Some cause → TurnsTo b (Ok (SawWork (Worked.Ended cause))) l s
    work_over cause gone =
        let k = conn_at b in
        rests b refl (SawWork (Worked.Ended cause))
        (works ∙ ap (λ o. let x : Result Effect Refusal = Ok (effect_of_step k (work_kept (setting_at b) c (ledger w) (kept_of k) o)) in x) (given_up b cause gone).1) tt tt

    pub work_done : (l2 : LinkHeld) (s2 : Server E G) (worked : Worked) → l.gone ≡ None → IsCounted worked
        → link_of l2 b.client ≡ record (link_at b) { wrote = (link_at b).wrote ++ wrote_by worked } → FitsEnd l2.end b.client
        → answered.Answers (Ok worked) (serving.work_at answer welcomes c r.server) r.server (server.Fits entries s2) → TurnsTo b (Ok (SawWork worked)) l2 s2
    work_done l2 s2 worked gone counted same ends a =
        let k = conn_at b in let x = work (setting_at b) c (ledger w) k in
        let is = some_pair_parts worked _ a.0 _ (sym a.1 ∙ ap (serving.work_at answer welcomes c) b.fits.server ∙ work_served G r.server.gate w c k (found b).1 (lives b gone) (sound b) answer welcomes) in
        let link = alone_link (link_at b) k (found b).2 (sound b) (lives b gone) (work_speaks (setting_at b) c (ledger w) k) refl _ refl in
        acts b refl x works (SawWork worked) (ap SawWork (sym is.0)) l2 s2 b.client a.0 ends a.2 is.1
        (subst (λ z. FitsLink z x.conn) (sym same) (subst (λ z. FitsLink (record (link_at b) { wrote = (link_at b).wrote ++ wrote_by z }) x.conn) (sym is.0) link)) tt counted

  -- a no-op
  module _ (b : Before entries answer welcomes (PutsNoop c) l s r w) where
    pub puts : DoesAt b (noop (conn_at b))
    puts = either (λ p. at_peer (setting_at b) c (ledger w) (PutsNoop c) p (conn_at b)) (Ok (noop (conn_at b))) (λ _. refl) refl (conn_at b).peer

    pub noop_over : (cause : Cause) → l.gone ≡ Some cause → TurnsTo b (Ok (SawNoop false)) l s
    noop_over cause gone =
        let k = conn_at b in
        rests b refl (SawNoop false)
        (puts ∙ ap (λ z. let x : Result Effect Refusal = Ok (quiet (record k { says = if z then SaysNoop ∷ k.says else k.says }) (SawNoop z)) in x) (over (is_some k.version) (is_some k.ended) _ (ap is_some (given_up b cause gone).1))) tt tt
      where
        over : (x y z : Bool) → y ≡ true → not (not x || y || z) ≡ false
        over true false z e = cc
        over _ _ z e = refl

    pub noop_done : (s2 : Server E G) (put : Bool) → l.gone ≡ None → answered.Answers (Ok put) (serving.noop_at c r.server) r.server (server.Fits entries s2) → TurnsTo b (Ok (SawNoop put)) l s2
    noop_done s2 put gone a =
        let k = conn_at b in let wrote = (link_at b).wrote in
        let is = some_pair_parts put _ a.0 _ (sym a.1 ∙ ap (serving.noop_at c) b.fits.server ∙ noop_served G r.server.gate w c k (found b).1 (lives b gone) (sound b)) in
        acts b refl (noop k) puts (SawNoop put) (ap SawNoop (sym is.0)) l s2 b.client a.0 b.ends a.2 is.1
        (alone_link (link_at b) k (found b).2 (sound b) (lives b gone) (noop_speaks k) refl wrote (sym (append-nil wrote))) tt tt

  -- a cut
  module _ (b : Before entries answer welcomes (Cut c) l s r w) where
    pub cut_done : TurnsTo b (Ok SawNothing) (record l { is_cut = true }) s
    cut_done =
        let k = conn_at b in let k2 = record k { cut = true } in
        let x : Result Effect Refusal = Ok (quiet k2 SawNothing) in let f = (found b).2 in
        acts_unseen b refl k2 SawNothing (either (λ p. at_peer (setting_at b) c (ledger w) (Cut c) p k) x (λ _. refl) refl k.peer) refl (λ _ j. refl) (record l { is_cut = true }) b.client b.ends
        (unseen_link (link_at b) (record (link_at b) { cut = true }) k k2 f f.down (refl, f.flags.1, f.flags.2)) tt tt

  -- bytes of a client of ours
  module _ {n : ℕ} (b : Before entries answer welcomes (ToServer c n) l s r w) {wish : Wish} (ours : end_peer l.end ≡ Ours wish) where
    abbrev piece : List ℕ
    piece = take n (drop (length (conn_at b).up) (input wish (conn_at b).sent))

    peer_up : (conn_at b).peer ≡ Ours wish
    peer_up = sym (found b).2.peer ∙ ours

    hands : DoesAt b (feed piece (conn_at b))
    hands = ap (λ p. at_peer (setting_at b) c (ledger w) (ToServer c n) p (conn_at b)) peer_up

    pub server_over : (cause : Cause) → l.gone ≡ Some cause → TurnsTo b (Ok (Fed 0 What.Closed)) l s
    server_over cause gone = fed_over b refl tt piece hands cause gone

    pub server_cut : l.gone ≡ None → l.is_cut ≡ true → TurnsTo b (Ok (Fed 0 What.Part)) l s
    server_cut gone cut = fed_cut b refl tt piece hands gone cut

    -- what came out of the client is held
    pub server_lacks : (y : asking.Rest) → b.client ≡ Some y → (j : ℕ) (l2 : LinkHeld) (s2 : Server E G) → let y2 = Some (asking.taken_out y j) in
        link_of l2 y2 ≡ record (link_at b) { client = y2; up = (link_at b).up ++ take j y.unsent } → FitsEnd l2.end y2 → server.Fits entries s2 r.server → TurnsTo b (Err Memory) l2 s2
    server_lacks y is j l2 s2 same ends serves =
        let link = held_link (link_at b) (conn_at b) (found b).2 wish peer_up j y is in
        record { may = may b refl _ hands; after = w; leaves = refl; now = held_as b l2 s2 (Some (asking.taken_out y j)) ends serves (subst (λ z. FitsLink z (conn_at b)) (sym same) link) }

    pub server_done : (y : asking.Rest) → b.client ≡ Some y → (l2 : LinkHeld) (s2 : Server E G) (took : Took) → l.gone ≡ None → l.is_cut ≡ false
        → let j = n - length (link_at b).up in let held = (link_at b).up ++ take j y.unsent in let y2 = Some (asking.taken_out y j) in
        link_of l2 y2 ≡ record (link_at b) { client = y2; up = drop took.used held } → FitsEnd l2.end y2
        → answered.Answers (Ok took) (serving.feed_at c (take n held) r.server) r.server (server.Fits entries s2) → TurnsTo b (Ok (Fed took.used took.what)) l2 s2
    server_done y is l2 s2 took gone joined same ends a =
        let m = link_at b in let k = conn_at b in
        let held = m.up ++ take (n - length m.up) y.unsent in
        let served = feed_served G r.server.gate w c k (found b).1 (lives b gone) (sound b) (sym (found b).2.flags.0 ∙ joined) piece in
        let one = some_pair_parts took served.0 a.0 _ (sym a.1 ∙ ap₂ (λ (x : List ℕ) z. serving.feed_at c x z) (piece_is m k (found b).2 (sound b) (lives b gone) wish peer_up n y is) b.fits.server ∙ served.1) in
        let seen : (feed piece k).seen ≡ Fed took.used took.what = served.2 ∙ ap (λ t. Fed t.used t.what) (sym one.0) in
        let y2 = Some (asking.taken_out y (n - length m.up)) in
        acts b refl (feed piece k) hands (Fed took.used took.what) seen l2 s2 y2 a.0 ends a.2 one.1
        (subst (λ z. FitsLink z (feed piece k).conn) (sym same) (subst (λ z. FitsLink (record m { client = y2; up = drop (used_seen z) held }) (feed piece k).conn) seen (server_link m k (found b).2 (sound b) (lives b gone) wish peer_up n y is))) tt tt

  -- bytes of a foreign peer
  module _ {bytes : List ℕ} (b : Before entries answer welcomes (Feeds c bytes) l s r w) (foreign : end_peer l.end ≡ Foreign) where
    peer_feed : (conn_at b).peer ≡ Foreign
    peer_feed = sym (found b).2.peer ∙ foreign

    pub comes : DoesAt b (feed bytes (conn_at b))
    comes = ap (λ p. at_peer (setting_at b) c (ledger w) (Feeds c bytes) p (conn_at b)) peer_feed

    pub foreign_done : (s2 : Server E G) (took : Took) → l.gone ≡ None → l.is_cut ≡ false → answered.Answers (Ok took) (serving.feed_at c bytes r.server) r.server (server.Fits entries s2) → TurnsTo b (Ok (Fed took.used took.what)) l s2
    foreign_done s2 took gone joined a =
        let k = conn_at b in let m = link_at b in
        let served = feed_served G r.server.gate w c k (found b).1 (lives b gone) (sound b) (sym (found b).2.flags.0 ∙ joined) bytes in
        let one = some_pair_parts took served.0 a.0 _ (sym a.1 ∙ ap (serving.feed_at c bytes) b.fits.server ∙ served.1) in
        let fits = subst (λ p. FitsClient p m.client m.up (feed bytes k).conn) (sym peer_feed) (subst (λ p. FitsClient p m.client m.up k) peer_feed (found b).2.client) in
        acts b refl (feed bytes k) comes (Fed took.used took.what) (served.2 ∙ ap (λ t. Fed t.used t.what) (sym one.0)) l s2 b.client a.0 b.ends a.2 one.1
        (feed_link m k (found b).2 (sound b) (lives b gone) bytes m.client m.up fits) tt tt

  -- the loss of a session
  module _ (b : Before entries answer welcomes (ServerLost c) l s r w) where
    pub goes : DoesAt b (server_gone (conn_at b))
    goes = either (λ p. at_peer (setting_at b) c (ledger w) (ServerLost c) p (conn_at b)) (Ok (server_gone (conn_at b))) (λ _. refl) refl (conn_at b).peer

    pub lost_before : (cause : Cause) → l.gone ≡ Some cause → TurnsTo b (Ok SawNothing) l s
    lost_before cause gone =
        let k = conn_at b in let f = (found b).2 in
        let was = given_up b cause gone in
        acts_unseen b refl (server_gone k).conn SawNothing goes (sym was.0) (λ alive j. absurd (true≢false (sym was.0 ∙ alive))) l b.client b.ends
        (unseen_link (link_at b) (link_at b) k (server_gone k).conn f (f.down ∙ ap (λ t. take (t - k.down) (drop k.down (output k))) ((sound b).gone was.0).1)
        (f.flags.0, f.flags.1, gone ∙ ap (λ o. Some (serving.cause_or o)) (sym was.1))) tt tt

    pub lost_done : (d2 : Flow) (gone2 : Option Cause) (s1 s2 : Server E G) (said : List ℕ) (n : ℕ) → l.gone ≡ None → length said < n
        → answered.Answers (Ok said) (serving.take_out_at c n r.server) r.server (server.Fits entries s1)
        → ((x : serving.Rest G) → server.Fits entries s1 x → (gone2 ≡ (serving.lost_at c x).0) × server.Fits entries s2 (serving.lost_at c x).1)
        → flow_of d2 ≡ flow_of l.down ++ said → TurnsTo b (Ok SawNothing) (record l { down = d2; gone = gone2 }) s2
    lost_done d2 gone2 s1 s2 said n gone few a f held =
        let m = link_at b in let k = conn_at b in
        let so = sound b in let alive = lives b gone in
        let d = f a.0 a.2 in
        -- all that was said came out of the session, and it was given up
        let out = min (k.taken + n) (length (output k)) in let k1 = record k { taken = out } in
        let one = some_pair_parts said _ a.0 _ (sym a.1 ∙ ap (serving.take_out_at c n) b.fits.server ∙ take_served G r.server.gate w c k (found b).1 alive so n) in
        let lost = ap (serving.lost_at c) one.1
        ∙ lost_served G r.server.gate (after_effect w c k (quiet k1 SawNothing)) c k1 (set_same w.conns c k k1 (found b).1) alive (let x = so.counts in let y = so.below in counted_sound k so out k.down (omega arith) (omega arith) (omega arith)) in
        let rest = ap (λ z. z.1) lost
        ∙ ap₂ (λ ks es. server_rest r.server.gate (record { conns = ks; brought = w.brought; since = es })) (set-set w.conns c k1 (server_gone k).conn) (append-nil (w.since ++ [])) in
        let all : said ≡ drop k.taken (output k) = let long : length said ≡ min n (length (drop k.taken (output k))) = ap length one.0 ∙ length-take n (drop k.taken (output k)) in one.0 ∙ take_all n (drop k.taken (output k)) (omega arith) in
        let link_is : ◌≡◌ {A = Link} (record m { down = m.down ++ drop k.taken (output k); gone = Some (serving.cause_or k.ended) }) (record m { down = flow_of d2; gone = gone2 }) =
        ap₂ (λ (x : List ℕ) (y : Option Cause). let z : Link = record m { down = x; gone = y } in z) (ap (λ x. m.down ++ x) (sym all) ∙ sym held) (sym (d.0 ∙ ap (λ z. z.0) lost)) in
        acts b refl (server_gone k) goes SawNothing refl (record l { down = d2; gone = gone2 }) s2 b.client (serving.lost_at c a.0).1 b.ends d.1 rest
        (subst (λ z. FitsLink z (server_gone k).conn) link_is (gone_link m k (found b).2 so alive)) tt tt
