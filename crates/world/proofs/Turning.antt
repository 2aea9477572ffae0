-- What an event does at the link of its connection, and from there in the world: from what the calls of the ends answered to the whole answer.
use Rattle.std.proofs.Common.{◌≡◌, refl, ap, subst, ℕ, zero, suc, Some, None, List, [], ◌∷◌, ◌++◌, length, slice_get, slice_set, sym, ◌∙◌, ◌^◌, Bool, true, false, ◌||◌, nat_le, is_some, Ok, Err, true≢false, Option, ⊎_elim, Result, IsOk, ◌<◌, ◌≤◌, slice_index_or, append-nil}
use Rattle.world.specs.Prelude.{Alongside, Link, Rest, FitsLink, Fits, cause_seen, Peer, Connection, fresh, Ours, Foreign, World, Event, Opens, Seen, Opened, V3, step, live, place, IsCountedIn, WStep, Reached, goes_on, Effect, quiet, at_peer, with_effect, at_conn, after_effect, ledger, empty, Answers, MayLack, Leaves, opened_link, FitsEnd, link_of, end_peer, seen_of, peer_of, client_of, IsOpened, live_of, server_rest, IsOpens, IsWrong, ComesWrong, Definition, Now, Before, setting_of, seen_in, Holds, IsWorld, Turns}
use Rattle.std.proofs.lemmas.Bool.{cond-true, cond-false, cases_Bool}
use Rattle.engine.specs.Prelude.{EntryView, Welcome}
use Rattle.server_session.specs.Prelude.{Setting}
use Rattle.server_session.specs.declared.Cause.{Cause}
use Rattle.server.specs.Serving as serving
use Rattle.world.proofs.Headline.{all_good, refuses_exactly}
use Rattle.world.proofs.Sound.{Sound, reached_sound}
use Rattle.world.proofs.Served.{open_served, unseen}
use Rattle.world.proofs.Fitting.{opened_fits}
use Rattle.world.proofs.Clients.{TellsWritten, did_made}
use Rattle.world.proofs.Deeds.{step_did}
use Rattle.wire.specs.declared.Wish.{Wish}
use Rattle.server.specs.declared.Server.{Server}
use Rattle.server.specs.Views as server
use Rattle.client.specs.Rest as asking
use Rattle.world.specs.declared.kinds.Refused.{Refused}
use Rattle.world.specs.declared.kinds.Refused.TheVariants.{WrongPeer, Memory, NoSuchConnection}
use Rattle.world.specs.declared.kinds.Seen.{Seen as SeenTold}
use Rattle.world.specs.declared.link.End.{End}
use Rattle.world.specs.declared.link.Link.{Link as LinkHeld}
use Rattle.std.proofs.lemmas.Option.{slice_get-get_or, slice_get_past}
use Rattle.server.specs.declared.Refused.{Refused as ServerRefused}
use Rattle.server.specs.declared.Refused.TheVariants as server_refused
use Rattle.world.specs.declared.kinds.Peer.{Peer as PeerTold}
use Rattle.world.specs.declared.world.World.{World as WorldHeld}

-- Lists place by place.
module _ {A B : Type 0} (R : A → B → Type 0) where
  -- what stands at a place of the one stands so to what stands at the place of the other
  pub along_at : (xs : List A) (ys : List B) (i : ℕ) (x : A) → Alongside R xs ys → slice_get xs i ≡ Some x → (y : B) × (slice_get ys i ≡ Some y) × R x y
  along_at [] [] i x f h = cc
  along_at (z ∷ xs) (y ∷ ys) zero x f h = let same : z ≡ x = cc in (y, refl, subst (λ v. R v y) same f.0)
  along_at (z ∷ xs) (y ∷ ys) (suc i) x f h = along_at xs ys i x f.1 h
  along_at _ _ i x f h = absurd f

  pub along_none : (xs : List A) (ys : List B) (i : ℕ) → Alongside R xs ys → slice_get xs i ≡ None → slice_get ys i ≡ None
  along_none [] [] i f h = refl
  along_none (z ∷ xs) (y ∷ ys) zero f h = cc
  along_none (z ∷ xs) (y ∷ ys) (suc i) f h = along_none xs ys i f.1 h
  along_none _ _ i f h = absurd f

  pub along_set : (xs : List A) (ys : List B) (i : ℕ) (x : A) (y : B) → Alongside R xs ys → R x y → Alongside R (slice_set xs i x) (slice_set ys i y)
  along_set [] [] i x y f g = f
  along_set (z ∷ xs) (w ∷ ys) zero x y f g = (g, f.1)
  along_set (z ∷ xs) (w ∷ ys) (suc i) x y f g = (f.0, along_set xs ys i x y f.1 g)
  along_set _ _ i x y f g = absurd f

  pub along_more : (xs : List A) (ys : List B) (x : A) (y : B) → Alongside R xs ys → R x y → Alongside R (xs ++ x ∷ []) (ys ++ y ∷ [])
  along_more [] [] x y f g = (g, tt)
  along_more (z ∷ xs) (w ∷ ys) x y f g = (f.0, along_more xs ys x y f.1 g)
  along_more _ _ x y f g = absurd f

  pub as_long : (xs : List A) (ys : List B) → Alongside R xs ys → length xs ≡ length ys
  as_long [] [] f = refl
  as_long (z ∷ xs) (y ∷ ys) f = ap suc (as_long xs ys f.1)
  as_long _ _ f = absurd f

-- what a lemma of an event gives is the whole answer
pub answers : (S : Setting) (brought : List EntryView) (w : World) → (r : Reached S brought w) → (e : Event) (seen : Seen) (Now : World → Type 0)
    → ((w2 : World) × (step S w e ≡ Ok (w2, seen)) × Now w2) → TellsWritten w e → IsCountedIn seen → Answers S w e (Ok seen) Now
answers S brought w r e seen Now h f counted =
    let s : WStep S w e seen h.0 = record { steps = h.1; made = did_made f (step_did S w e seen h.0 h.1); counted = counted } in
    record { after = h.0; steps = s; good = all_good S brought h.0 (goes_on w h.0 e seen r s); now = h.2 }

-- a session that no cause was told of is the server's still
pub still_there : (l : Link) (k : Connection) → FitsLink l k → Sound k → l.gone ≡ None → k.server_lost ≡ false
still_there l k f s g = ⊎_elim (λ e. absurd (true≢false (sym (s.gone e).0 ∙ ap is_some (ap (λ b. cause_seen b k.ended) (sym e) ∙ sym f.flags.2 ∙ g)))) (λ e. e) (cases_Bool k.server_lost)

-- and one of which a cause was told was given up, with that cause
pub cause_is : (b : Bool) (o : Option Cause) (cause : Cause) → cause_seen b o ≡ Some cause → (b ≡ true) × (o ≡ Some cause)
cause_is true o cause h = (refl, h)
cause_is false o cause h = cc

-- Open: `open` of the server.
pub opens_fits : (G : Type 0) (setting : Setting) (r : Rest G) (w : World) → Fits r w → (peer : Peer) → serving.is_full r.server ≡ false
    → (w2 : World) × (step setting w (Opens peer) ≡ Ok (w2, Opened r.server.next)) × Fits (record { links = r.links ++ opened_link peer ∷ []; server = serving.opened r.server }) w2
opens_fits G setting r w fits peer room =
    let served = open_served G r.server.gate w peer in
    let w2 : World = record { conns = w.conns ++ fresh peer ∷ []; brought = w.brought; since = w.since } in
    let free : (nat_le 16 (live w) || nat_le (2 ^ 63) (length w.conns)) ≡ false = sym served.0 ∙ ap serving.is_full (sym fits.server) ∙ room in
    let next : length w.conns ≡ r.server.next = sym (ap (λ z. z.next) fits.server) in (
      w2,
      cond-false (nat_le 16 (live w) || nat_le (2 ^ 63) (length w.conns)) _ _ free ∙ ap (λ n. Ok (w2, Opened n)) next,
      record { server = ap serving.opened fits.server ∙ served.1; links = along_more FitsLink r.links w.conns (opened_link peer) (fresh peer) fits.links (opened_fits peer) },
    )

-- and where it answers that no session is left
pub opens_not : (G : Type 0) (setting : Setting) (r : Rest G) (w : World) → Fits r w → (peer : Peer) → serving.is_full r.server ≡ true → step setting w (Opens peer) ≡ Err V3
opens_not G setting r w fits peer full =
    let served = open_served G r.server.gate w peer in
    cond-true (nat_le 16 (live w) || nat_le (2 ^ 63) (length w.conns)) _ _ (sym served.0 ∙ ap serving.is_full (sym fits.server) ∙ full)

-- What an event does at the link of its connection: from what the calls of the ends answered to the whole answer.
pub same_set : {A : Type 0} (xs : List A) (i : ℕ) (x : A) → slice_get xs i ≡ Some x → slice_set xs i x ≡ xs
same_set [] i x h = refl
same_set (y ∷ ys) zero x h = let same : y ≡ x = cc in ap (λ z. z ∷ ys) (sym same)
same_set (y ∷ ys) (suc i) x h = ap (λ zs. y ∷ zs) (same_set ys i x h)

pub none_of : {A : Type 0} (o : Option A) → ((x : A) → o ≡ Some x → ⊥) → o ≡ None
none_of None h = refl
none_of (Some x) h = absurd (h x refl)

module _ {E G : Type 0} {entries : E → List EntryView} {answer : Definition} {welcomes : G → Welcome}
    {e : Event} {l : LinkHeld} {s : Server E G} {r : Rest G} {w : World} (b : Before entries answer welcomes e l s r w) where
  abbrev pub setting_at : Setting
  setting_at = serving.setting answer welcomes r.server

  -- the link, and the connection that it stands for
  abbrev pub link_at : Link
  link_at = link_of l b.client

  pub found : (k : Connection) × (slice_get w.conns (place e) ≡ Some k) × FitsLink link_at k
  found = along_at FitsLink r.links w.conns (place e) link_at b.fits.links b.at

  abbrev pub conn_at : Connection
  conn_at = found.0

  pub sound : Sound conn_at
  sound = reached_sound setting_at b.brought b.reached (place e) conn_at found.1

  -- of a session that no cause was told of, and of one that was given up, by the cause that was told then
  pub lives : l.gone ≡ None → conn_at.server_lost ≡ false
  lives gone = still_there link_at conn_at found.2 sound gone

  pub given_up : (cause : Cause) → l.gone ≡ Some cause → (conn_at.server_lost ≡ true) × (conn_at.ended ≡ Some cause)
  given_up cause g = cause_is conn_at.server_lost conn_at.ended cause (sym found.2.flags.2 ∙ g)

  -- a link in its place and the server beside it, that stand for a world then; and with what is answered
  abbrev pub HeldIn : LinkHeld → Server E G → World → Type 0
  HeldIn l2 s2 v = Now entries answer welcomes r (place e) l2 s2 v

  abbrev pub TurnsTo : Result Seen Refused → LinkHeld → Server E G → Type 0
  TurnsTo res l2 s2 = Answers setting_at w e res (HeldIn l2 s2)

  -- what is held and what the server keeps, where the link stands for the same connection
  pub held_as : (l2 : LinkHeld) (s2 : Server E G) (y : Option asking.Rest) → FitsEnd l2.end y → server.Fits entries s2 r.server → FitsLink (link_of l2 y) conn_at → HeldIn l2 s2 w
  held_as l2 s2 y ends serves link =
      record {
        client = y;
        rest = r.server;
        ends = ends;
        server = serves;
        gated = refl;
        fits = record {
          server = b.fits.server;
          links = subst (λ ks. Alongside FitsLink (slice_set r.links (place e) (link_of l2 y)) ks) (same_set w.conns (place e) conn_at found.1) (along_set FitsLink r.links w.conns (place e) (link_of l2 y) conn_at b.fits.links link);
        };
      }

  -- where nothing has changed
  pub still : (l2 : LinkHeld) (s2 : Server E G) (y : Option asking.Rest) → link_of l2 y ≡ link_at → FitsEnd l2.end y → server.Fits entries s2 r.server → HeldIn l2 s2 w
  still l2 s2 y same ends serves = held_as l2 s2 y ends serves (subst (λ z. FitsLink z conn_at) (sym same) found.2)

  pub wrong : (IsOpens e → ⊥) → IsWrong e (end_peer l.end) → (l2 : LinkHeld) (y : Option asking.Rest) → link_of l2 y ≡ link_at → FitsEnd l2.end y → TurnsTo (Err WrongPeer) l2 s
  wrong opens h l2 y same ends =
      let comes : ComesWrong w e = record { connection = conn_at; no_opening = opens; here = found.1; wrong = subst (IsWrong e) found.2.peer h } in
      ((refuses_exactly setting_at w e).wrong_peer.1 comes, still l2 s y same ends b.server)

  -- where what is seen is known by an equation
  pub seen_by : (x y : SeenTold) (l2 : LinkHeld) (s2 : Server E G) → x ≡ y → TurnsTo (Ok (seen_of y)) l2 s2 → TurnsTo (Ok (seen_of x)) l2 s2
  seen_by x y l2 s2 is a = let P : SeenTold → Type 0 = λ z. TurnsTo (Ok (seen_of z)) l2 s2 in subst P (sym is) a

  -- where the end was looked at
  pub looked : (o : End) → l.end ≡ o → (res : Result Seen Refused) → TurnsTo res l s → TurnsTo res (record l { end = o }) s
  looked o is res a = let P : End → Type 0 = λ z. TurnsTo res (record l { end = z }) s in subst P is a

  -- what is held and what the server keeps after an effect
  pub holds_then : (x : Effect) (l2 : LinkHeld) (s2 : Server E G) (y : Option asking.Rest) (server2 : serving.Rest G) → FitsEnd l2.end y → server.Fits entries s2 server2
      → server2 ≡ server_rest r.server.gate (after_effect w (place e) conn_at x) → FitsLink (link_of l2 y) x.conn → HeldIn l2 s2 (after_effect w (place e) conn_at x)
  holds_then x l2 s2 y server2 ends serves rest link =
      record {
        client = y;
        rest = server2;
        ends = ends;
        server = serves;
        gated = ap (λ z. z.gate) rest;
        fits = record {
          server = rest ∙ ap (λ g. server_rest g (after_effect w (place e) conn_at x)) (sym (ap (λ z. z.gate) rest));
          links = along_set FitsLink r.links w.conns (place e) (link_of l2 y) x.conn b.fits.links link;
        };
      }

  -- what the model does at the connection
  abbrev pub DoesAt : Effect → Type 0
  DoesAt x = at_peer setting_at (place e) (ledger w) e conn_at.peer conn_at ≡ Ok x

  -- It is the answer, with what is held then and what the server keeps.
  module _ (same : step setting_at w e ≡ at_conn setting_at w e (place e) (slice_get w.conns (place e))) where
    stepped : (x : Effect) → DoesAt x → step setting_at w e ≡ Ok (after_effect w (place e) conn_at x, x.seen)
    stepped x h = same ∙ ap (at_conn setting_at w e (place e)) found.1 ∙ ap (with_effect w (place e) conn_at) h

    pub may : (x : Effect) → DoesAt x → IsOk (step setting_at w e)
    may x h = subst IsOk (sym (stepped x h)) refl

    pub acts : (x : Effect) → DoesAt x → (seen : Seen) → x.seen ≡ seen → (l2 : LinkHeld) (s2 : Server E G) (y : Option asking.Rest) (server2 : serving.Rest G) → FitsEnd l2.end y → server.Fits entries s2 server2
        → server2 ≡ server_rest r.server.gate (after_effect w (place e) conn_at x) → FitsLink (link_of l2 y) x.conn → TellsWritten w e → IsCountedIn seen → TurnsTo (Ok seen) l2 s2
    acts x h seen is l2 s2 y server2 ends serves rest link tells counted =
        let w2 = after_effect w (place e) conn_at x in
        answers setting_at b.brought w b.reached e seen (HeldIn l2 s2) (w2, stepped x h ∙ ap (λ z. Ok (w2, z)) is, holds_then x l2 s2 y server2 ends serves rest link) tells counted

    -- want of memory
    pub lacks : (x : Effect) → DoesAt x → (IsOk (step setting_at w e) → MayLack setting_at w e) → Leaves w e w → (l2 : LinkHeld) (s2 : Server E G) → link_of l2 b.client ≡ link_at → FitsEnd l2.end b.client → server.Fits entries s2 r.server → TurnsTo (Err Memory) l2 s2
    lacks x h lack leaves l2 s2 is ends serves = record { may = lack (may x h); after = w; leaves = leaves; now = still l2 s2 b.client is ends serves }

    -- where no session sees it
    pub acts_unseen : (k2 : Connection) (seen : Seen) → DoesAt (quiet k2 seen) → k2.server_lost ≡ conn_at.server_lost → (conn_at.server_lost ≡ false → (j : ℕ) → live_of j k2 ≡ live_of j conn_at) → (l2 : LinkHeld) (y : Option asking.Rest) → FitsEnd l2.end y → FitsLink (link_of l2 y) k2
        → TellsWritten w e → IsCountedIn seen → TurnsTo (Ok seen) l2 s
    acts_unseen k2 seen h gone alike l2 y ends link tells counted =
        acts (quiet k2 seen) h seen refl l2 s y r.server ends b.server (b.fits.server ∙ unseen r.server.gate w (place e) conn_at found.1 k2 seen gone alike) link tells counted

    -- and where nothing changes
    pub rests : (seen : Seen) → DoesAt (quiet conn_at seen) → TellsWritten w e → IsCountedIn seen → TurnsTo (Ok seen) l s
    rests seen h tells counted = acts_unseen conn_at seen h refl (λ _ j. refl) l b.client b.ends found.2 tells counted

-- an event that any peer takes
pub either : {A : Type 0} (f : Peer → A) (x : A) → ((wish : Wish) → f (Ours wish) ≡ x) → f Foreign ≡ x → (p : Peer) → f p ≡ x
either f x a d (Ours wish) = a wish
either f x a d Foreign = d

-- what holds of the answer's world may be said otherwise
pub answers_with : (S : Setting) (w : World) (e : Event) (res : Result Seen Refused) (P Q : World → Type 0) → ((w2 : World) → P w2 → Q w2) → Answers S w e res P → Answers S w e res Q
answers_with S w e (Ok seen) P Q f a = record { after = a.after; steps = a.steps; good = a.good; now = f a.after a.now }
answers_with S w e (Err Memory) P Q f a = record { may = a.may; after = a.after; leaves = a.leaves; now = f a.after a.now }
answers_with S w e (Err _) P Q f a = (a.0, f w a.1)

-- what a server holds that refused to open a session
pub open_refused : {G : Type 0} (e : ServerRefused) (old new : serving.Rest G) → serving.Opens (Err e) old new → new ≡ old
open_refused server_refused.NoSuchConnection old new a = absurd a
open_refused _ old new a = a.1

-- a new server fits the world without connections
pub new_fits : {G : Type 0} (gate : G) (es : List EntryView) → Fits (record { links = []; server = serving.empty es gate }) (empty es)
new_fits {G} gate es = record { server = ap (λ (z : List EntryView). let q : serving.Rest G = record { sessions = []; next = 0; ledger = z; gate = gate } in q) (sym (append-nil es)); links = tt }

-- what is held at a place, and where nothing is
pub held_at : (ls : List LinkHeld) (ms : List Link) (c : ℕ) (l : LinkHeld) → Alongside Holds ls ms → c < length ls → l ≡ slice_index_or ls c l → (m : Link) × (slice_get ms c ≡ Some m) × Holds l m
held_at ls ms c l h few is = along_at Holds ls ms c l h (slice_get-get_or ls c l few ∙ ap (λ x. Some x) (sym is))

pub held_past : (ls : List LinkHeld) (ms : List Link) (c : ℕ) → Alongside Holds ls ms → length ls ≤ c → slice_get ms c ≡ None
held_past ls ms c h past = along_none Holds ls ms c h (slice_get_past ls c past)

module _ {E G : Type 0} {entries : E → List EntryView} (answer : Definition) (welcomes : G → Welcome)
    {s : WorldHeld E G} {gate : G} {w : World} (f : IsWorld entries s gate w) {brought : List EntryView} (reached : Reached (setting_of answer welcomes gate) brought w) where
  abbrev S : Setting
  S = setting_of answer welcomes gate

  abbrev r : Rest G
  r = f.rest

  pub nowhere : (e : Event) → (IsOpens e → ⊥) → length s.links.items ≤ place e → Answers S w e (Err NoSuchConnection) (IsWorld entries s gate)
  nowhere e opens past = ((refuses_exactly S w e).no_connection.1 (opens, along_none FitsLink r.links w.conns (place e) f.fits.links (held_past s.links.items r.links (place e) f.links past)), f)

  pub placed : (e : Event) (c : ℕ) → c ≡ place e → c < length s.links.items → (l : LinkHeld) → l ≡ slice_index_or s.links.items c l → (res : Result SeenTold Refused) (l2 : LinkHeld) (s2 : Server E G)
      → Turns entries answer welcomes e l s.server res l2 s2 → (t : WorldHeld E G) → t.links.items ≡ slice_set s.links.items c l2 → t.server ≡ s2
      → Answers S w e (seen_in res) (IsWorld entries t gate)
  placed e c at few l is res l2 s2 turn t links_are server_is =
      let h = held_at s.links.items r.links c l f.links few is in
      let link_is : slice_get r.links (place e) ≡ Some (link_of l h.2.client) = ap (slice_get r.links) (sym at) ∙ h.1 ∙ ap (λ z. Some z) h.2.link_is in
      let b : Before entries answer welcomes e l s.server r w = record { brought = brought; reached = subst (λ (g : G). Reached (setting_of answer welcomes g) brought w) (sym f.gated) reached; client = h.2.client; ends = h.2.ends; server = f.server; at = link_is; fits = f.fits } in
      answers_with S w e (seen_in res) (Now entries answer welcomes r (place e) l2 s2) (IsWorld entries t gate)
      (λ w2 n. record {
        rest = record { links = slice_set r.links (place e) (link_of l2 n.client); server = n.rest };
        links = subst (λ ls. Alongside Holds ls (slice_set r.links (place e) (link_of l2 n.client))) (ap (λ i. slice_set s.links.items i l2) (sym at) ∙ sym links_are)
            (along_set Holds s.links.items r.links (place e) l2 (link_of l2 n.client) f.links
            (record { client = n.client; link_is = refl; ends = n.ends }));
        server = subst (λ z. server.Fits entries z n.rest) (sym server_is) n.server;
        gated = n.gated ∙ f.gated;
        fits = n.fits;
      })
      (subst (λ (g : G). Answers (setting_of answer welcomes g) w e (seen_in res) (Now entries answer welcomes r (place e) l2 s2)) f.gated (turn r w b))

  -- an opening
  pub opens_lacks : (peer : Peer) → serving.is_full r.server ≡ false → (t : WorldHeld E G) → t.links.items ≡ s.links.items → server.Fits entries t.server r.server
      → Answers S w (Opens peer) (Err Memory) (IsWorld entries t gate)
  opens_lacks peer room t links_are serves =
      let h = opens_fits G S r w f.fits peer room in
      record {
        may = subst IsOk (sym h.1) refl;
        after = w;
        leaves = refl;
        now = record { rest = r; links = subst (λ ls. Alongside Holds ls r.links) (sym links_are) f.links; server = serves; gated = f.gated; fits = f.fits };
      }

  pub opens_done : (peer : PeerTold) → serving.is_full r.server ≡ false → (l : LinkHeld) → IsOpened peer l → (conn : ℕ) → conn ≡ r.server.next → (t : WorldHeld E G)
      → t.links.items ≡ s.links.items ++ l ∷ [] → server.Fits entries t.server (serving.opened r.server)
      → Answers S w (Opens (peer_of peer)) (Ok (Opened conn)) (IsWorld entries t gate)
  opens_done peer room l opened conn is t links_are serves =
      let h = opens_fits G S r w f.fits (peer_of peer) room in
      answers S brought w reached (Opens (peer_of peer)) (Opened conn) (IsWorld entries t gate) (
        h.0,
        h.1 ∙ ap (λ i. Ok (h.0, Opened i)) (sym is),
        record {
          rest = record { links = r.links ++ opened_link (peer_of peer) ∷ []; server = serving.opened r.server };
          links = subst (λ ls. Alongside Holds ls (r.links ++ opened_link (peer_of peer) ∷ [])) (sym links_are)
              (along_more Holds s.links.items r.links l (opened_link (peer_of peer)) f.links
              (record { client = client_of (peer_of peer); link_is = sym opened.0; ends = opened.1 }));
          server = serves;
          gated = f.gated;
          fits = h.2;
        },
      ) tt tt
