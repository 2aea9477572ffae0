-- What a report tells, and events one after the other.
use Rattle.std.proofs.Common.{◌≡◌, refl, sym, ◌∙◌, ap, ap₂, subst, ℕ, ◌+◌, ◌<◌, Option, Some, None, List, [], ◌∷◌, length, slice_get, slice_index_or, arith, option_and_then, option_map, inl, inr, Result, Ok, Err, IsErr, OnOk, ◌++◌}
use Rattle.world.proofs.Turning.{along_at, held_at, cause_is, still_there}
use Rattle.engine.specs.Prelude.{EntryView, Welcome}
use Rattle.server_session.specs.declared.Cause.{Cause}
use Rattle.client.specs.Prelude.{knows_of}
use Rattle.world.specs.declared.link.Link.{Link as LinkHeld}
use Rattle.world.specs.declared.report.Standing.{Standing as StandingTold}
use Rattle.world.specs.declared.world.World.{World as WorldHeld}
use Rattle.world.specs.Prelude.{Peer, Ours, Foreign, Connection, Said, SaysSummary, answer_count, heard_by_bytes, World, Reached, Event, Refusal, V1, V2, V3, step, goes_on, tellings_of, delivered_whole, server_outcome, Good, ReadSummary, by_peer, read_after, summaries_told, waits, ordinals, standing, standing_of, client_rest, live_of, Link, FitsClient, FitsLink, link_of, waiting_at, seen_of, Definition, setting_of, Holds, IsWorld, Goes, GoesBy, FitsWorld, seen_in, standing_seen, StandsBy, Answers, Follows, Replays}
use Rattle.machine.specs.Prelude.{phase_of}
use Rattle.world.proofs.Sound.{reached_sound}
use Rattle.world.proofs.Headline.{all_good}
use Rattle.server.specs.Prelude.{Live, find}
use Rattle.world.proofs.Served.{find_at}
use Rattle.std.specs.declared.alloc.AllocError.{AllocError}
use Rattle.server_session.specs.Prelude.{Setting}
use Rattle.world.specs.declared.kinds.Refused.{Refused}
use Rattle.world.specs.declared.kinds.Refused.TheVariants.{NoSuchConnection, WrongPeer, SessionsFull, Memory}
use Rattle.world.specs.declared.kinds.Seen.{Seen as SeenTold}

-- A report tells what the model has.
read_long : (xs : List Said) (later : List ReadSummary) → length (read_after (tellings_of xs) later) ≡ answer_count xs + length later
read_long [] later = omega arith
read_long (SaysSummary x ∷ xs) later =
    let y : ReadSummary = record { ordinal = x.ordinal; phase = phase_of x.state; outcome = server_outcome x } in
    let h = read_long xs (y ∷ later) in omega (arith, h)
read_long (_ ∷ xs) later = read_long xs later

module _ {E G : Type 0} {entries : E → List EntryView} (answer : Definition) (welcomes : G → Welcome)
    {s : WorldHeld E G} {gate : G} {w : World} (f : IsWorld entries s gate w) {brought : List EntryView} (reached : Reached (setting_of answer welcomes gate) brought w)
    (c : ℕ) where
  module _ (few : c < length s.links.items) (l : LinkHeld) (is : l ≡ slice_index_or s.links.items c l) where
    abbrev pub held : (m : Link) × (slice_get f.rest.links c ≡ Some m) × Holds l m
    held = held_at s.links.items f.rest.links c l f.links few is

    abbrev m : Link
    m = link_of l held.2.client

    pub there : (k : Connection) × (slice_get w.conns c ≡ Some k) × FitsLink m k
    there = along_at FitsLink f.rest.links w.conns c m f.fits.links (held.1 ∙ ap (λ z. Some z) held.2.link_is)

    abbrev k : Connection
    k = there.0

    pub stands_as : (gone : Option Cause) → l.gone ≡ gone → (told : StandingTold) → StandsBy gone c f.rest.server told → standing_seen told ≡ standing k
    stands_as (Some cause) e told h = h ∙ sym (ap (standing_of k.state) (cause_is k.server_lost k.ended cause (sym there.2.flags.2 ∙ e)).1)
    stands_as None e told h =
        let lives = still_there m k there.2 (reached_sound (setting_of answer welcomes gate) brought reached c k there.1) e in
        let found : find c f.rest.server.sessions ≡ Some (live_of c k) =
        ap (λ z. find c z.sessions) f.fits.server ∙ find_at w.conns 0 c c k (omega arith) there.1 lives in
        h k.state (ap (λ o. option_map (λ (y : Live). y.kept.state) o) found) ∙ ap (λ o. standing_of k.state o) (ap (λ o. option_and_then (λ (y : Live). y.kept.ended) o) found)

    -- those that wait follow those that were read
    pub waits_as : (count : ℕ) → length (summaries_told k) ≡ count → waits k ≡ ordinals count (waiting_at held.2.client)
    waits_as count long = go k.peer refl there.2.client
      where
        go : (p : Peer) → k.peer ≡ p → FitsClient k.peer m.client m.up k → waits k ≡ ordinals count (waiting_at held.2.client)
        go (Ours wish) p g =
            let old : FitsClient (Ours wish) m.client m.up k = subst (λ q. FitsClient q m.client m.up k) p g in let y = client_rest old.out k in
            let good : Good (setting_of answer welcomes gate) w c k = all_good (setting_of answer welcomes gate) brought w reached c k wish there.1 p in
            let n : length (summaries_told k) ≡ (heard_by_bytes k).count =
            ap (λ q. length (by_peer q (read_after (heard_by_bytes k).told []))) p ∙ ap (λ ts. length (read_after ts [])) good.told ∙ read_long (delivered_whole k) [] ∙ sym (good.count_told ∙ (let same : answer_count (delivered_whole k) ≡ answer_count (delivered_whole k) + 0 = omega arith in same)) in
            ap (λ q. by_peer q (ordinals y.knows.first (length y.knows.waiting))) p ∙ ap₂ (λ i j. ordinals i j) (sym n ∙ long) (ap waiting_at (sym old.client_is))
        go Foreign p g =
            let old : FitsClient Foreign m.client m.up k = subst (λ q. FitsClient q m.client m.up k) p g in
            ap (λ q. by_peer q (ordinals (knows_of (heard_by_bytes k) k.sent k.client_lost).first (length (knows_of (heard_by_bytes k) k.sent k.client_lost).waiting))) p ∙ ap (λ o. ordinals count (waiting_at o)) (sym old.0)

-- Events one after the other.
pub replays_more : (S : Setting) (w w2 w3 : World) (es : List Event) (e : Event) → Replays S w es w2 → Follows S w2 e w3 → Replays S w (es ++ e ∷ []) w3
replays_more S w w2 w3 [] e h f = (w3, subst (λ z. Follows S z e w3) h f, refl)
replays_more S w w2 w3 (x ∷ es) e h f = (h.0, h.1, replays_more S h.0 w2 w3 es e h.2 f)

module _ {E G : Type 0} (entries : E → List EntryView) (S : Setting) (gate : G) (brought : List EntryView) (w : World) where
  -- one more event
  pub goes_more : (es : List Event) (e : Event) (s t : WorldHeld E G) (h : Goes entries S gate brought w es s)
      → GoesBy entries S gate brought h.after e t → Goes entries S gate brought w (es ++ e ∷ []) t
  goes_more es e s t h f = record { after = f.after; replays = replays_more S w h.after f.after es e h.replays f.follows; reached = f.reached; fits = f.fits }

  -- what an answer means for the event
  left_out : (e : Event) (t : WorldHeld E G) (v : Refusal) → Reached S brought w → step S w e ≡ Err v → FitsWorld entries t gate w → GoesBy entries S gate brought w e t
  left_out e t v r h f = record { after = w; follows = inr (subst IsErr (sym h) refl, refl); reached = r; fits = f }

  follows : (e : Event) (t : WorldHeld E G) → Reached S brought w → (res : Result SeenTold Refused) → (res ≡ Err Memory → ⊥) → Answers S w e (seen_in res) (FitsWorld entries t gate)
      → GoesBy entries S gate brought w e t
  follows e t r (Ok seen) lacks a = record { after = a.after; follows = inl (seen_of seen, a.steps); reached = goes_on w a.after e (seen_of seen) r a.steps; fits = a.now }
  follows e t r (Err NoSuchConnection) lacks a = left_out e t V1 r a.0 a.1
  follows e t r (Err WrongPeer) lacks a = left_out e t V2 r a.0 a.1
  follows e t r (Err SessionsFull) lacks a = left_out e t V3 r a.0 a.1
  follows e t r (Err Memory) lacks a = absurd (lacks refl)

  -- once it is settled
  pub settled_follows : (e e2 : Event) → Reached S brought w → e2 ≡ e → (res : Result SeenTold Refused) (t : WorldHeld E G) (settled : Result (Unit {0}) AllocError) → OnOk settled (res ≡ Err Memory → ⊥)
      → Answers S w e2 (seen_in res) (FitsWorld entries t gate) → OnOk settled (GoesBy entries S gate brought w e t)
  settled_follows e e2 r is res t (Err f) h a = tt
  settled_follows e e2 r is res t (Ok u) h a = let P : Event → Type 0 = λ z. Answers S w z (seen_in res) (FitsWorld entries t gate) in follows e t r res h (subst P is a)
