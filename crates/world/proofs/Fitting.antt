-- The links of a world, event by event: from what they held and what the calls answered, what they hold then fits the model's step.
use Rattle.std.proofs.Common.{◌≡◌, refl, sym, ◌∙◌, ap, ap₂, subst, ℕ, ◌+◌, ◌-◌, ◌≤◌, true, false, if◌then◌else◌, min, max, Option, Some, None, option_map, List, [], ◌∷◌, ◌++◌, length, take, drop, arith, append-nil, length-append, length-take, length-drop, take-append-drop}
use Rattle.std.proofs.lemmas.List.{take-append-le, drop-append-le, drop-drop, take_min, take_all, length-take-le, drop_min}
use Rattle.std.proofs.lemmas.Bool.{cond-false}
use Rattle.std.proofs.Math.Seq.{take-add}
use Rattle.world.proofs.Giving.{parts, rest_of, take_within, drop_within, submitted_same, give_same, give_told, reach_within}
use Rattle.wire.specs.declared.Wish.{Wish}
use Rattle.wire.specs.Prelude.{offer_of, wish_version, state, reach, at_client}
use Rattle.messages.specs.Prelude.{RequestView, request_bytes, hears, arrivals}
use Rattle.machine.specs.declared.Phase.{Phase}
use Rattle.machine.specs.Prelude.{phase_of}
use Rattle.server.specs.Prelude.{cause_or}
use Rattle.client.specs.declared.Outcome.{Outcome}
use Rattle.client.specs.Prelude.{Told, GotRow, Got, knows_of, tellings_in, losses}
use Rattle.client.specs.Rest as asking
use Rattle.client.proofs.Later.{reading_later}
use Rattle.world.specs.Prelude.{Peer, Ours, Foreign, Connection, fresh, Said, SaysSummary, output, bytes_delivered, heard_by_bytes, wish_of, input, Effect, give, taken_for, server_gone, Seen, Fed, feed, client_rest, ReadSummary, wrote_after, summaries_told, read_after, by_peer, opened_link, Link, FitsClient, FitsLink, cause_seen, FitsFlags, FitsOurs}
use Rattle.std.proofs.lemmas.Option.{same_Some}
use Rattle.world.proofs.Sound.{Sound, spoken, falling_same, client_alike, rest_alike, Speaks, says, wrote_seen, speaks_alike, Alike, feed_speaks}
use Rattle.world.proofs.Trace.{input_more}
use Rattle.world.proofs.Deeds.{feed_case}

wrote-append : (xs : List Said) (later more : List (ℕ × Phase)) → wrote_after xs (later ++ more) ≡ wrote_after xs later ++ more
wrote-append [] later more = refl
wrote-append (SaysSummary x ∷ xs) later more = wrote-append xs ((x.ordinal, phase_of x.state) ∷ later) more
wrote-append (_ ∷ xs) later more = wrote-append xs later more

wrote_more : (xs ys : List Said) (later : List (ℕ × Phase)) → wrote_after (xs ++ ys) later ≡ wrote_after ys (wrote_after xs later)
wrote_more [] ys later = refl
wrote_more (SaysSummary x ∷ xs) ys later = wrote_more xs ys ((x.ordinal, phase_of x.state) ∷ later)
wrote_more (_ ∷ xs) ys later = wrote_more xs ys later

-- what is held of a client after what was done to it, where the bytes that it puts out only grow
client_then : (p : Peer) (o o2 : Option asking.Rest) (f : asking.Rest → asking.Rest) (u : List ℕ) (k k2 : Connection) (more : List ℕ) → k2.up ≡ k.up → (o ≡ None → o2 ≡ None) → ((y : asking.Rest) → o ≡ Some y → o2 ≡ Some (f y))
    → ((wish : Wish) → p ≡ Ours wish → input wish k2.sent ≡ input wish k.sent ++ more) → ((wish : Wish) → p ≡ Ours wish → (out : ℕ) → out ≤ length (input wish k.sent) → f (client_rest out k) ≡ client_rest out k2) → FitsClient p o u k → FitsClient p o2 u k2
client_then (Ours wish) o o2 f u k k2 more eu none some long same h =
    let b = h.least in let c = h.most in
    record {
      out = h.out;
      least = subst (λ z. length z ≤ h.out) (sym eu) h.least;
      most = subst (λ z. h.out ≤ length z) (sym (long wish refl)) (omega (arith, length-append (input wish k.sent) more));
      client_is = some (client_rest h.out k) h.client_is ∙ ap (λ z. Some z) (same wish refl h.out h.most);
      up_is = h.up_is ∙ sym (ap₂ (λ x y. take (h.out - length x) (drop (length x) y)) eu (long wish refl)
          ∙ ap (take (h.out - length k.up)) (drop-append-le (length k.up) (input wish k.sent) more (omega arith))
          ∙ take-append-le (h.out - length k.up) (drop (length k.up) (input wish k.sent)) more (let m = length-drop (length k.up) (input wish k.sent) in omega arith));
    }
client_then Foreign o o2 f u k k2 more eu none some long same h = (none h.0, h.1)

-- the client of a connection of which it sees no change
pub same_client : (p : Peer) (o : Option asking.Rest) (u : List ℕ) (k k2 : Connection) → k2.up ≡ k.up → k2.sent ≡ k.sent → ((out : ℕ) → client_rest out k2 ≡ client_rest out k) → FitsClient p o u k → FitsClient p o u k2
same_client p o u k k2 eu es er h = client_then p o o (λ y. y) u k k2 [] eu (λ e. e) (λ y e. e) (λ wish _. ap (input wish) es ∙ sym (append-nil (input wish k.sent))) (λ wish _ out _. sym (er out)) h

-- What a session does of its own: it says more, and nothing else of the link changes but what its peer's bytes make of it.
module _ (l : Link) (k : Connection) (f : FitsLink l k) (s : Sound k) (lives : k.server_lost ≡ false) where
  pub speaks_link : {x : Effect} → Speaks k x → (o : Option asking.Rest) (u : List ℕ) (wrote : List (ℕ × Phase)) → wrote ≡ l.wrote ++ wrote_seen x.seen → FitsClient k.peer o u x.conn → FitsLink (record l { client = o; up = u; wrote = wrote }) x.conn
  speaks_link (says t xs up commit seen may wrote untold) o u written e c =
      let same : heard_by_bytes (spoken k t xs up) ≡ heard_by_bytes k = client_alike k (spoken k t xs up) (speaks_alike k s (says t xs up commit seen may wrote untold)) in
      record {
        peer = f.peer;
        client = c;
        down = f.down ∙ sym (falling_same k t xs up may s.counts s.below);
        flags = (f.flags.0, f.flags.1, f.flags.2 ∙ ap (λ b. cause_seen b k.ended) lives ∙ sym (ap (λ b. cause_seen b t.ended) lives));
        report = (e ∙ ap₂ (λ a b. a ++ b) f.report.0 (sym wrote) ∙ sym (wrote_more xs k.says [] ∙ wrote-append k.says [] (wrote_after xs [])), f.report.1 ∙ ap (λ r. by_peer k.peer (read_after r.told [])) (sym same), f.report.2 ∙ ap (λ r. by_peer k.peer (if k.client_lost then losses (knows_of r k.sent false) else [])) (sym same));
      }

  -- where no bytes of the peer were taken
  pub alone_link : {x : Effect} → Speaks k x → x.conn.up ≡ k.up → (wrote : List (ℕ × Phase)) → wrote ≡ l.wrote ++ wrote_seen x.seen → FitsLink (record l { wrote = wrote }) x.conn
  alone_link {x} h u wrote e = let a = speaks_alike k s h in speaks_link h l.client l.up wrote e (same_client k.peer l.client l.up k x.conn u a.sent (rest_alike k x.conn a) f.client)

-- bytes that were taken out, a cut, or the server's loss, of which the client sees nothing
pub unseen_link : (l m : Link) (k z : Connection) → FitsLink l k → let l2 = record l { down = m.down; cut = m.cut; gone = m.gone } in
    let k2 = record k { taken = z.taken; cut = z.cut; server_lost = z.server_lost; state = z.state; ended = z.ended; result = z.result; tx = z.tx } in
    m.down ≡ take (z.taken - k.down) (drop k.down (output k)) → FitsFlags l2 k2 → FitsLink l2 k2
unseen_link l m k z f down flags =
    let k2 = record k { taken = z.taken; cut = z.cut; server_lost = z.server_lost; state = z.state; ended = z.ended; result = z.result; tx = z.tx } in
    record { peer = f.peer; client = same_client k.peer l.client l.up k k2 refl refl (λ out. refl) f.client; down = down; flags = flags; report = f.report }

-- `lost` of the server, of which the rest was taken out first
pub gone_link : (l : Link) (k : Connection) → FitsLink l k → Sound k → k.server_lost ≡ false → FitsLink (record l { down = l.down ++ drop k.taken (output k); gone = Some (cause_or k.ended) }) (server_gone k).conn
gone_link l k f s lives =
    let a = s.counts in let b = s.below in let e : k.down + (k.taken - k.down) ≡ k.taken = omega arith in
    unseen_link l (record l { down = l.down ++ drop k.taken (output k); gone = Some (cause_or k.ended) }) k (server_gone k).conn f
    (ap (λ z. z ++ drop k.taken (output k)) f.down
    ∙ ap (λ z. take (k.taken - k.down) (drop k.down (output k)) ++ z) (ap (λ n. drop n (output k)) (sym e) ∙ sym (drop-drop (k.taken - k.down) k.down (output k)))
    ∙ take-append-drop (k.taken - k.down) (drop k.down (output k))
    ∙ sym (take_all (length (output k) - k.down) (drop k.down (output k)) (let m = length-drop k.down (output k) in omega arith)))
    (f.flags.0, f.flags.1, refl)

-- `lost` of the client
pub lost_link : (l : Link) (k : Connection) (told : List (ℕ × Outcome)) → FitsLink l k → told ≡ by_peer k.peer (losses (knows_of (heard_by_bytes k) k.sent false))
    → FitsLink (record l { client = option_map asking.after_drop l.client; client_lost = true; lost = told }) (record k { client_lost = true })
lost_link l k told f e =
    record {
      peer = f.peer;
      client = client_then k.peer l.client (option_map asking.after_drop l.client) asking.after_drop l.up k (record k { client_lost = true }) [] refl (λ e. ap (option_map asking.after_drop) e) (λ y e. ap (option_map asking.after_drop) e) (λ wish _. sym (append-nil (input wish k.sent))) (λ wish _ out _. refl) f.client;
      down = f.down;
      flags = (f.flags.0, refl, f.flags.2);
      report = (f.report.0, f.report.1, e);
    }

-- a loss that was noticed before changes nothing
pub lost_again : (l : Link) (k : Connection) → FitsLink l k → k.client_lost ≡ true → FitsLink l (record k { client_lost = true })
lost_again l k f e =
    record {
      peer = f.peer;
      client = same_client k.peer l.client l.up k (record k { client_lost = true }) refl refl (λ out. ap (λ b. record { wish = wish_of k.peer; knows = knows_of (heard_by_bytes k) k.sent b; item = state at_client at_client.start (bytes_delivered k); unsent = drop out (input (wish_of k.peer) k.sent) }) (sym e)) f.client;
      down = f.down;
      flags = (f.flags.0, f.flags.1 ∙ e, f.flags.2);
      report = (f.report.0, f.report.1, f.report.2 ∙ ap (λ b. by_peer k.peer (if b then losses (knows_of (heard_by_bytes k) k.sent false) else [])) e);
    }

-- `submit` that is accepted
pub submit_link : (l : Link) (k : Connection) (q : RequestView) → FitsLink l k → (heard_by_bytes k).bad ≡ false → k.client_lost ≡ false → (heard_by_bytes k).version ≡ Some (wish_version (wish_of k.peer))
    → FitsLink (record l { client = option_map (λ r. asking.after_submit r q) l.client }) (record k { sent = k.sent ++ q ∷ [] })
submit_link l k q f good lives ver =
    let same : heard_by_bytes (record k { sent = k.sent ++ q ∷ [] }) ≡ heard_by_bytes k = reading_later (wish_of k.peer) k.sent (q ∷ []) (hears (bytes_delivered k)) good in
    let done = λ (o : Option asking.Rest). option_map (λ (r : asking.Rest). asking.after_submit r q) o in
    let more = request_bytes (wish_version (wish_of k.peer)) q in
    record {
      peer = f.peer;
      client = client_then k.peer l.client (done l.client) (λ r. asking.after_submit r q) l.up k (record k { sent = k.sent ++ q ∷ [] }) more refl (λ e. ap done e) (λ y e. ap done e)
          (λ wish e. subst (λ z. input z (k.sent ++ q ∷ []) ≡ input z k.sent ++ more) (ap wish_of e) (input_more (wish_of k.peer) k.sent q))
          (λ wish e out few. submitted_same k out q (subst (λ z. out ≤ length (input z k.sent)) (sym (ap wish_of e)) few) good lives ver) f.client;
      down = f.down;
      flags = f.flags;
      report = (f.report.0, f.report.1 ∙ ap (λ r. by_peer k.peer (read_after r.told [])) (sym same), f.report.2 ∙ ap (by_peer k.peer) (cond-false k.client_lost _ _ lives) ∙ sym (ap (by_peer k.peer) (cond-false k.client_lost _ _ lives)));
    }

-- `open`
pub opened_fits : (p : Peer) → FitsLink (opened_link p) (fresh p)
opened_fits (Ours wish) =
    record {
      peer = refl;
      client = record { out = 0; least = omega arith; most = omega arith; client_is = ap (λ u. Some (record (asking.begun wish) { unsent = u })) (sym (append-nil (offer_of wish))); up_is = refl };
      down = refl;
      flags = (refl, refl, refl);
      report = (refl, refl, refl);
    }
opened_fits Foreign = record { peer = refl; client = (refl, refl); down = refl; flags = (refl, refl, refl); report = (refl, refl, refl) }

-- What a client told comes after what it had told.
read-append : (ts : List Told) (later more : List ReadSummary) → read_after ts (later ++ more) ≡ read_after ts later ++ more
read-append [] later more = refl
read-append (GotRow row ∷ ts) later more = read-append ts later more
read-append (Got i p o a ∷ ts) later more = read-append ts (record { ordinal = i; phase = p; outcome = o } ∷ later) more

read_more : (new ts : List Told) → read_after (new ++ ts) [] ≡ read_after ts [] ++ read_after new []
read_more new ts = go new [] ∙ read-append ts [] (read_after new [])
  where
    go : (new : List Told) (later : List ReadSummary) → read_after (new ++ ts) later ≡ read_after ts (read_after new later)
    go [] later = refl
    go (GotRow row ∷ new) later = go new later
    go (Got i p o a ∷ new) later = go new (record { ordinal = i; phase = p; outcome = o } ∷ later)

-- `take_out` of what is lacking
module _ (l : Link) (k : Connection) (f : FitsLink l k) (s : Sound k) (n : ℕ) where
  abbrev bytes : List ℕ
  bytes = drop k.down (output k)

  -- what is held with what was taken out for it
  abbrev held : List ℕ
  held = l.down ++ take (n - length l.down) (drop k.taken (output k))

  abbrev h : ℕ
  h = k.taken - k.down

  few : h ≤ length bytes
  few = let a = s.counts in let b = s.below in let m = length-drop k.down (output k) in omega arith

  pub held_long : length l.down ≡ h
  held_long = ap length f.down ∙ length-take-le h bytes few

  pub held_all : held ≡ take (taken_for n k - k.down) bytes
  held_all =
      let a = s.counts in let b = s.below in let m = length-drop k.down (output k) in
      let d : drop k.taken (output k) ≡ drop h bytes = ap (λ i. drop i (output k)) (parts k.taken k.down b) ∙ sym (drop-drop h k.down (output k)) in
      ap₂ (λ x (y : List ℕ × ℕ). x ++ take (n - y.1) y.0) f.down (ap₂ (λ (x : List ℕ) (y : ℕ). (x, y)) d held_long) ∙ sym (take-add h (n - h) bytes) ∙ sym (take_min (h + (n - h)) bytes)
      ∙ ap (λ i. take i bytes) (same k.taken k.down (length (output k)) n (length bytes) m a b)
    where
      same : (taken down len n m : ℕ) → m ≡ len - down → taken ≤ len → down ≤ taken → min ((taken - down) + (n - (taken - down))) m ≡ max taken (min (down + n) len) - down
      same taken down len n m e a b = omega arith

  pub front_is : take n held ≡ take n bytes
  front_is =
      let a = s.counts in let b = s.below in
      ap (take n) held_all ∙ take_within n (taken_for n k - k.down) bytes (omega (arith, length-drop k.down (output k)))

  -- where a foreign peer drops it
  pub drained_link : k.peer ≡ Foreign → FitsLink (record l { down = [] }) (record k { taken = taken_for n k; down = taken_for n k })
  drained_link foreign =
      record {
        peer = f.peer;
        client = subst (λ p. FitsClient p l.client l.up (record k { taken = taken_for n k; down = taken_for n k })) (sym foreign) (subst (λ p. FitsClient p l.client l.up k) foreign f.client);
        down = let none : taken_for n k - taken_for n k ≡ 0 = omega arith in sym (ap (λ i. take i (drop (taken_for n k) (output k))) none);
        flags = f.flags;
        report = (f.report.0, f.report.1 ∙ unknown k.peer foreign _ _, f.report.2 ∙ unknown k.peer foreign _ _);
      }
    where
      unknown : {A : Type 0} (p : Peer) → p ≡ Foreign → (xs ys : List A) → by_peer p xs ≡ by_peer p ys
      unknown Foreign e xs ys = refl
      unknown (Ours wish) e xs ys = cc

  -- and `feed` of a client that goes on
  module _ (wish : Wish) (ours : k.peer ≡ Ours wish) (lives : k.client_lost ≡ false) (on : ((heard_by_bytes k).ended ≡ false) × ((heard_by_bytes k).bad ≡ false)) (r : asking.Rest) (here : l.client ≡ Some r) where
    abbrev used : ℕ
    used = reach hears (bytes_delivered k) (take n bytes)

    abbrev k3 : Connection
    k3 = (give n k).conn

    down_is : drop used held ≡ take (k3.taken - k3.down) (drop k3.down (output k3))
    down_is =
        let a = s.counts in let b = s.below in let m = length-drop k.down (output k) in
        let u = reach_within hears (bytes_delivered k) (take n bytes) in let t = length-take n bytes in
        ap (drop used) held_all ∙ drop_within used (taken_for n k - k.down) bytes (omega arith)
        ∙ ap₂ (λ i z. take i z) (rest_of (taken_for n k) k.down used) (drop-drop used k.down (output k))

    pub give_link : FitsLink (record l { client = Some (asking.feed_of r (take n held)).rest; down = drop used held; read = l.read ++ read_after (tellings_in (asking.feed_of r (take n held)).answer) [] }) k3
    give_link =
        record {
          peer = f.peer;
          client = subst (λ p. FitsClient p (Some (asking.feed_of r (take n held)).rest) l.up k3) (sym ours) fits;
          down = down_is;
          flags = f.flags;
          report = (f.report.0, ap₂ (λ x (y : asking.Rest × List ℕ). x ++ read_after (tellings_in (asking.feed_of y.0 y.1).answer) []) f.report.1 (ap₂ (λ (x : asking.Rest) (y : List ℕ). (x, y)) is front_is) ∙ told, f.report.2 ∙ ap (by_peer k.peer) (cond-false k.client_lost _ _ lives) ∙ sym (ap (by_peer k3.peer) (cond-false k3.client_lost _ _ lives)));
        }
      where
        old : FitsClient (Ours wish) l.client l.up k
        old = subst (λ p. FitsClient p l.client l.up k) ours f.client

        is : r ≡ client_rest old.out k
        is = same_Some r (client_rest old.out k) (sym here ∙ old.client_is)

        fits : FitsClient (Ours wish) (Some (asking.feed_of r (take n held)).rest) l.up k3
        fits =
            record {
              out = old.out;
              least = old.least;
              most = old.most;
              client_is = ap₂ (λ (x : asking.Rest) (y : List ℕ). Some (asking.feed_of x y).rest) is front_is ∙ ap (λ z. Some z) (give_same k old.out n lives on).0;
              up_is = old.up_is;
            }

        told : summaries_told k ++ read_after (tellings_in (asking.feed_of (client_rest old.out k) (take n bytes)).answer) [] ≡ summaries_told k3
        told =
            ap (λ p. by_peer p (read_after (heard_by_bytes k).told []) ++ read_after (tellings_in (asking.feed_of (client_rest old.out k) (take n bytes)).answer) []) ours
            ∙ sym (read_more (tellings_in (asking.feed_of (client_rest old.out k) (take n bytes)).answer) (heard_by_bytes k).told)
            ∙ ap (λ ts. read_after ts []) (sym (give_told k old.out n lives on)) ∙ sym (ap (λ p. by_peer p (read_after (heard_by_bytes k3).told [])) ours)

-- The links of a world: bytes that go to the server.
abbrev pub used_seen : Seen → ℕ
used_seen (Fed used_up what) = used_up
used_seen seen = 0

-- what a feed takes of a piece
abbrev Takes : Connection → List ℕ → Effect → Type 0
Takes k piece e = (e.conn.up ≡ k.up ++ take (used_seen e.seen) piece) × (used_seen e.seen ≤ length piece)

-- the link after a feed, with the client and the bytes that are held for the server
pub feed_link : (l : Link) (k : Connection) → FitsLink l k → Sound k → k.server_lost ≡ false → (piece : List ℕ) (o : Option asking.Rest) (u : List ℕ) → FitsClient k.peer o u (feed piece k).conn → FitsLink (record l { client = o; up = u }) (feed piece k).conn
feed_link l k f s lives piece o u c = speaks_link l k f s lives (feed_speaks k s piece) o u l.wrote (sym (ap (λ z. l.wrote ++ z) (feed_case (λ x. wrote_seen x.seen ≡ []) piece k (λ _. refl) (λ _ _ _. refl)) ∙ append-nil l.wrote)) c

-- what is held of a client of ours
pub old_fits : (l : Link) (k : Connection) → FitsLink l k → (wish : Wish) → k.peer ≡ Ours wish → FitsOurs wish l.client l.up k
old_fits l k f wish ours = subst (λ p. FitsClient p l.client l.up k) ours f.client

-- `take_out` of so many bytes of a client of ours: they are held
module _ (l : Link) (k : Connection) (f : FitsLink l k) (wish : Wish) (ours : k.peer ≡ Ours wish) (j : ℕ) (r : asking.Rest) (here : l.client ≡ Some r) where
  abbrev old : FitsOurs wish l.client l.up k
  old = old_fits l k f wish ours

  abbrev all : List ℕ
  all = input wish k.sent

  abbrev a : ℕ
  a = length k.up

  abbrev out : ℕ
  out = min (old.out + j) (length all)

  is : r ≡ client_rest old.out k
  is = same_Some r (client_rest old.out k) (sym here ∙ old.client_is)

  pub up_is : l.up ++ take j r.unsent ≡ take (out - a) (drop a all)
  up_is =
      let m = length-drop a all in
      ap₂ (λ x y. x ++ take j y) old.up_is (ap (λ (z : asking.Rest). z.unsent) is ∙ ap (λ p. drop old.out (input (wish_of p) k.sent)) ours ∙ ap (λ i. drop i all) (parts old.out a old.least) ∙ sym (drop-drop (old.out - a) a all)) ∙ sym (take-add (old.out - a) j (drop a all)) ∙ sym (take_min ((old.out - a) + j) (drop a all))
      ∙ ap (λ i. take i (drop a all)) (same old.out a (length all) j (length (drop a all)) m old.least old.most)
    where
      same : (o a i j m : ℕ) → m ≡ i - a → a ≤ o → o ≤ i → min ((o - a) + j) m ≡ min (o + j) i - a
      same o a i j m e x y = omega arith

  pub client_is : asking.taken_out r j ≡ client_rest out k
  client_is =
      ap (λ z. asking.taken_out z j) is
      ∙ ap (λ u. record (client_rest old.out k) { unsent = u }) (drop-drop j old.out (input (wish_of k.peer) k.sent) ∙ sym (drop_min (old.out + j) (input (wish_of k.peer) k.sent)))
      ∙ ap (λ p. record (client_rest old.out k) { unsent = drop (min (old.out + j) (length (input (wish_of p) k.sent))) (input (wish_of k.peer) k.sent) }) ours

  abbrev pub held_fits : FitsOurs wish (Some (asking.taken_out r j)) (l.up ++ take j r.unsent) k
  held_fits = let x = old.least in let y = old.most in let m = length-drop a all in record { out = out; least = omega arith; most = omega arith; client_is = ap (λ z. Some z) client_is; up_is = up_is }

  pub held_link : FitsLink (record l { client = Some (asking.taken_out r j); up = l.up ++ take j r.unsent }) k
  held_link =
      record {
        peer = f.peer;
        client = subst (λ p. FitsClient p (Some (asking.taken_out r j)) (l.up ++ take j r.unsent) k) (sym ours) held_fits;
        down = f.down;
        flags = f.flags;
        report = f.report;
      }

-- and a feed of what is held, where what was lacking came out
module _ (l : Link) (k : Connection) (f : FitsLink l k) (s : Sound k) (lives : k.server_lost ≡ false) (wish : Wish) (ours : k.peer ≡ Ours wish) (n : ℕ) (r : asking.Rest) (here : l.client ≡ Some r) where
  abbrev coming_up : List ℕ
  coming_up = drop (length k.up) (input wish k.sent)

  abbrev lacking : ℕ
  lacking = n - length l.up

  abbrev held_then : List ℕ
  held_then = l.up ++ take lacking r.unsent

  -- what is held of the client then
  abbrev fit : FitsOurs wish (Some (asking.taken_out r lacking)) held_then k
  fit = held_fits l k f wish ours lacking r here

  -- the coming that were lacking are there, or there are no more
  enough : min n (length coming_up) ≤ fit.out - length k.up
  enough =
      let o = old_fits l k f wish ours in
      let x = o.least in let y = o.most in let m = length-drop (length k.up) (input wish k.sent) in
      let q = ap length o.up_is ∙ length-take (o.out - length k.up) coming_up in omega arith

  -- the piece is the model's
  pub piece_is : take n held_then ≡ take n coming_up
  piece_is = ap (take n) fit.up_is ∙ take_within n (fit.out - length k.up) coming_up enough

  abbrev e3 : Effect
  e3 = feed (take n coming_up) k

  abbrev used_up : ℕ
  used_up = used_seen e3.seen

  tk : Takes k (take n coming_up) e3
  tk = feed_case (Takes k (take n coming_up)) (take n coming_up) k (λ what. (sym (append-nil k.up), omega arith)) (λ _ _ _. (refl, reach_within arrivals k.up (take n coming_up)))

  up_long : length e3.conn.up ≡ length k.up + used_up
  up_long = ap length tk.0 ∙ length-append k.up (take used_up (take n coming_up)) ∙ ap (λ z. length k.up + z) (length-take-le used_up (take n coming_up) tk.1)

  pub server_link : FitsLink (record l { client = Some (asking.taken_out r lacking); up = drop used_up held_then }) e3.conn
  server_link = feed_link l k f s lives (take n coming_up) (Some (asking.taken_out r lacking)) (drop used_up held_then) (subst (λ p. FitsClient p (Some (asking.taken_out r lacking)) (drop used_up held_then) e3.conn) (sym ours) fits)
    where
      same : Alike k e3.conn
      same = speaks_alike k s (feed_speaks k s (take n coming_up))

      within : used_up ≤ fit.out - length k.up
      within = let t = tk.1 in let u = length-take n coming_up in let w = enough in omega arith

      fits : FitsClient (Ours wish) (Some (asking.taken_out r lacking)) (drop used_up held_then) e3.conn
      fits =
          record {
            out = fit.out;
            least = let w = within in let x = fit.least in subst (λ z. z ≤ fit.out) (sym up_long) (omega arith);
            most = subst (λ z. fit.out ≤ length (input wish z)) (sym same.sent) fit.most;
            client_is = fit.client_is ∙ ap (λ z. Some z) (sym (rest_alike k e3.conn same fit.out));
            up_is = ap (drop used_up) fit.up_is ∙ drop_within used_up (fit.out - length k.up) coming_up within
                ∙ ap₂ (λ i z. take i z) (rest_of fit.out (length k.up) used_up) (drop-drop used_up (length k.up) (input wish k.sent))
                ∙ ap₂ (λ i z. take (fit.out - i) (drop i (input wish z))) (sym up_long) (sym same.sent);
          }
