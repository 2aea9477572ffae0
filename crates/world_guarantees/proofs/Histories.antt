-- What a connection of a world stands for after calls at both ends, and what a call adds to it.
use Rattle.std.proofs.Common.{◌≡◌, ◌≢◌, refl, sym, ◌∙◌, ap, subst, ℕ, ◌≤◌, ◌==◌, false, if◌then◌else◌, Option, Some, None, option_map, List, [], ◌∷◌, ◌++◌, take, slice_get, append-nil, append_assoc}
use Rattle.std.proofs.lemmas.Bool.{cond-true, cond-false, cond_both, ne_eqb, eq-eqb}
use Rattle.wire.specs.declared.Wish.{Wish}
use Rattle.engine.specs.Prelude.{EntryView, Welcome}
use Rattle.server.specs.Prelude.{Rest, Live, empty, find, fed_live, taken_from, with_session, feed_at, take_out_at, Event as Call, opens, feeds, works, takes, noops, loses, after_event, after_events, used_of, took_by, bytes_taken}
use Rattle.server_event_loop.specs.ConnectionPrelude.{out_of, gave_by, bytes_given}
use Rattle.server_event_loop.proofs.Moved.{after_both, taken_both, given_both}
use Rattle.client.specs.Prelude.{Call as ClientCall, Run, starts, call as called, calls}
use Rattle.server_session.specs.Prelude.{Setting}
use Rattle.world.specs.Prelude.{Peer, Ours, Foreign, Connection, Said, SaysRow, SaysSummary, output, bytes_delivered, World, Reached, server_rest, Definition, setting_of}
use Rattle.world_guarantees.specs.Prelude.{Moment, serves, asks, server_calls, client_calls, run_of, step_said, call_said, all_said}
use Rattle.world_guarantees.proofs.Places.{IsGone, found_none}

-- the rows and summaries among what was said
abbrev pub answers_among : List Said → List Said
answers_among [] = []
answers_among (SaysRow row ∷ xs) = SaysRow row ∷ answers_among xs
answers_among (SaysSummary x ∷ xs) = SaysSummary x ∷ answers_among xs
answers_among (_ ∷ xs) = answers_among xs

abbrev pub peer_by : Option Wish → Peer
peer_by None = Foreign
peer_by (Some wish) = Ours wish

-- These bytes were taken out of the session: all that the world says, unless it was given up with some that weren't.
pub record IsOut (k : Connection) (bytes : List ℕ) : Type 0 where
  pub count : ℕ
  pub is : bytes ≡ take count (output k)
  pub most : count ≤ k.taken
  pub all : k.server_lost ≡ false → count ≡ k.taken

-- its client is this one, but for its loss
pub record Meets (x : Run) (k : Connection) : Type 0 where
  pub lives : k.client_lost ≡ false
  pub sent : k.sent ≡ x.sent
  pub took : bytes_delivered k ≡ x.took

abbrev pub Side : Option Wish → (Wish → Run) → Connection → Type 0
Side None run k = k.server_lost ≡ false → k.down ≡ k.taken
Side (Some wish) run k = Meets (run wish) k

-- What is so of a connection, by its peer, by its client, by the bytes that its session took and that came out of it, and by the rows
-- and summaries that it said.
pub record Facts (o : Option Wish) (run : Wish → Run) (up out : List ℕ) (said : List Said) (k : Connection) : Type 0 where
  pub peer : k.peer ≡ peer_by o
  pub joined : k.cut ≡ false
  pub taken : k.up ≡ up
  pub given : IsOut k out
  pub told : answers_among k.says ≡ said
  pub side : Side o run k

-- and of a number that wasn't opened
pub record Unopened (o : Option Wish) (run : Wish → Run) (up out : List ℕ) (said : List Said) : Type 0 where
  pub taken : up ≡ []
  pub given : out ≡ []
  pub told : said ≡ []
  pub side : (wish : Wish) → o ≡ Some wish → ((run wish).sent ≡ []) × ((run wish).took ≡ [])

abbrev pub At : Option Wish → (Wish → Run) → List ℕ → List ℕ → List Said → Option Connection → Type 0
At o run up out said None = Unopened o run up out said
At o run up out said (Some k) = Facts o run up out said k

-- and so by other words
pub at_as : (o : Option Wish) (run run2 : Wish → Run) (up up2 out out2 : List ℕ) (said said2 : List Said) (k : Option Connection) → ((wish : Wish) → run wish ≡ run2 wish) → up ≡ up2 → out ≡ out2 → said ≡ said2 → At o run up out said k → At o run2 up2 out2 said2 k
at_as o run run2 up up2 out out2 said said2 k a b c d h =
    subst (λ (z : (Wish → Run) × (List ℕ × (List ℕ × List Said))). At o z.0 z.1.0 z.1.1.0 z.1.1.1 k) (λ i. ((λ wish. a wish i), (b i, (c i, d i)))) h

-- Lists of calls.
pub serves_more : (ms : List Moment) (e : Call) → server_calls (ms ++ serves e ∷ []) ≡ server_calls ms ++ e ∷ []
serves_more [] e = refl
serves_more (serves d ∷ ms) e = ap (λ z. d ∷ z) (serves_more ms e)
serves_more (asks c x ∷ ms) e = serves_more ms e

pub serves_same : (ms : List Moment) (c : ℕ) (x : ClientCall) → server_calls (ms ++ asks c x ∷ []) ≡ server_calls ms
serves_same [] c x = refl
serves_same (serves d ∷ ms) c x = ap (λ z. d ∷ z) (serves_same ms c x)
serves_same (asks d y ∷ ms) c x = serves_same ms c x

pub asks_same : (conn : ℕ) (ms : List Moment) (e : Call) → client_calls conn (ms ++ serves e ∷ []) ≡ client_calls conn ms
asks_same conn [] e = refl
asks_same conn (serves d ∷ ms) e = asks_same conn ms e
asks_same conn (asks c x ∷ ms) e = ap (λ z. if c == conn then x ∷ z else z) (asks_same conn ms e)

pub asks_other : (conn : ℕ) (ms : List Moment) (c : ℕ) (x : ClientCall) → c ≢ conn → client_calls conn (ms ++ asks c x ∷ []) ≡ client_calls conn ms
asks_other conn [] c x n = cond-false (c == conn) _ _ (ne_eqb c conn n)
asks_other conn (serves d ∷ ms) c x n = asks_other conn ms c x n
asks_other conn (asks d y ∷ ms) c x n = ap (λ z. if d == conn then y ∷ z else z) (asks_other conn ms c x n)

pub asks_more : (conn : ℕ) (ms : List Moment) (x : ClientCall) → client_calls conn (ms ++ asks conn x ∷ []) ≡ client_calls conn ms ++ x ∷ []
asks_more conn [] x = cond-true (conn == conn) _ _ (eq-eqb conn conn refl)
asks_more conn (serves d ∷ ms) x = asks_more conn ms x
asks_more conn (asks c y ∷ ms) x =
    ap (λ z. if c == conn then y ∷ z else z) (asks_more conn ms x)
    ∙ cond_both (c == conn) (y ∷ client_calls conn ms) (client_calls conn ms) (λ zs. (if c == conn then y ∷ (client_calls conn ms ++ x ∷ []) else client_calls conn ms ++ x ∷ []) ≡ zs ++ x ∷ [])
    (λ b. cond-true (c == conn) _ _ b) (λ b. cond-false (c == conn) _ _ b)

calls_more : (cs : List ClientCall) (c : ClientCall) (x : Run) → calls x (cs ++ c ∷ []) ≡ called (calls x cs) c
calls_more [] c x = refl
calls_more (d ∷ cs) c x = calls_more cs c (called x d)

pub run_more : (wish : Wish) (conn : ℕ) (ms : List Moment) (x : ClientCall) → run_of wish conn (ms ++ asks conn x ∷ []) ≡ called (run_of wish conn ms) x
run_more wish conn ms x = ap (calls (starts wish)) (asks_more conn ms x) ∙ calls_more (client_calls conn ms) x (starts wish)

-- a call on the session with this number, but none that opens it
abbrev pub OnConn : ℕ → Call → Type 0
OnConn conn opens = ⊥
OnConn conn (feeds c piece) = c ≡ conn
OnConn conn (works c) = c ≡ conn
OnConn conn (takes c n) = c ≡ conn
OnConn conn (noops c) = c ≡ conn
OnConn conn (loses c) = c ≡ conn

module _ {G : Type 0} (answer : Definition) (welcomes : G → Welcome) where
  said_both : (conn : ℕ) (es : List Call) (e : Call) (r : Rest G) → all_said answer welcomes conn (es ++ e ∷ []) r ≡ call_said answer welcomes conn e (after_events answer welcomes es r) ++ all_said answer welcomes conn es r
  said_both conn [] e r = sym (append-nil (call_said answer welcomes conn e r))
  said_both conn (d ∷ es) e r =
      let r2 = after_event answer welcomes d r in
      ap (λ z. z ++ call_said answer welcomes conn d r) (said_both conn es e r2)
      ∙ append_assoc (call_said answer welcomes conn e (after_events answer welcomes es r2)) (all_said answer welcomes conn es r2) (call_said answer welcomes conn d r)

  -- a call adds nothing to what is told of a connection
  pub record IsSilent (e : Call) (r : Rest G) (conn : ℕ) : Type 0 where
    pub took : took_by conn e r ≡ []
    pub gave : gave_by conn e r ≡ []
    pub wrote : call_said answer welcomes conn e r ≡ []

  pub silent_other : (e : Call) (c conn : ℕ) (r : Rest G) → OnConn c e → c ≢ conn → IsSilent e r conn
  silent_other opens c conn r o n = absurd o
  silent_other (feeds d piece) c conn r o n = record { took = cond-false (d == conn) _ _ (ne_eqb d conn (λ q. n (sym o ∙ q))); gave = refl; wrote = refl }
  silent_other (works d) c conn r o n = record { took = refl; gave = refl; wrote = cond-false (d == conn) _ _ (ne_eqb d conn (λ q. n (sym o ∙ q))) }
  silent_other (takes d m) c conn r o n = record { took = refl; gave = cond-false (d == conn) _ _ (ne_eqb d conn (λ q. n (sym o ∙ q))); wrote = refl }
  silent_other (noops d) c conn r o n = record { took = refl; gave = refl; wrote = refl }
  silent_other (loses d) c conn r o n = record { took = refl; gave = refl; wrote = refl }

  module _ (gate : G) (w : World) (c : ℕ) (gone : IsGone (slice_get w.conns c)) where
    abbrev r : Rest G
    r = server_rest gate w

    pub silent_gone : (e : Call) (conn : ℕ) → OnConn c e → IsSilent e r conn
    silent_gone opens conn o = absurd o
    silent_gone (feeds d piece) conn o = record {
      took = cond_both (d == conn) (used_of piece (feed_at d piece r)) [] (λ z. z ≡ [])
          (λ _. ap (λ j. used_of piece (feed_at j piece r)) o ∙ ap (λ (x : Option Live). used_of piece (option_map (λ s. ((fed_live s piece).0, with_session (fed_live s piece).1 r)) x)) (found_none gate w c gone)) (λ _. refl);
      gave = refl;
      wrote = refl;
    }
    silent_gone (works d) conn o = record {
      took = refl;
      gave = refl;
      wrote = cond_both (d == conn) (step_said answer welcomes (find d r.sessions) r) [] (λ z. z ≡ [])
          (λ _. ap (λ j. step_said answer welcomes (find j r.sessions) r) o ∙ ap (λ (x : Option Live). step_said answer welcomes x r) (found_none gate w c gone)) (λ _. refl);
    }
    silent_gone (takes d n) conn o = record {
      took = refl;
      gave = cond_both (d == conn) (out_of (take_out_at d n r)) [] (λ z. z ≡ [])
          (λ _. ap (λ j. out_of (take_out_at j n r)) o ∙ ap (λ (x : Option Live). out_of (option_map (λ s. ((taken_from n s).0, with_session (taken_from n s).1 r)) x)) (found_none gate w c gone)) (λ _. refl);
      wrote = refl;
    }
    silent_gone (noops d) conn o = record { took = refl; gave = refl; wrote = refl }
    silent_gone (loses d) conn o = record { took = refl; gave = refl; wrote = refl }

module _ {G : Type 0} (answer : Definition) (welcomes : G → Welcome) (gate : G) (ours : ℕ → Option Wish) (brought : List EntryView) where
  abbrev S : Setting
  S = setting_of answer welcomes gate

  abbrev rest : World → Rest G
  rest w = server_rest gate w

  abbrev r0 : Rest G
  r0 = empty brought gate

  abbrev pub took_in : ℕ → List Moment → List ℕ
  took_in c ms = bytes_taken answer welcomes c (server_calls ms) r0

  abbrev pub gave_in : ℕ → List Moment → List ℕ
  gave_in c ms = bytes_given answer welcomes c (server_calls ms) r0

  abbrev pub said_in : ℕ → List Moment → List Said
  said_in c ms = all_said answer welcomes c (server_calls ms) r0

  abbrev pub runs_in : ℕ → List Moment → Wish → Run
  runs_in c ms wish = run_of wish c ms

  -- after these moments, of the connection with this number
  abbrev pub AtMoments : List Moment → ℕ → Option Connection → Type 0
  AtMoments ms c k = At (ours c) (runs_in c ms) (took_in c ms) (gave_in c ms) (said_in c ms) k

  -- A world that the moments led to.
  pub record Stands (ms : List Moment) : Type 0 where
    pub world : World
    pub reached : Reached S brought world
    pub server : rest world ≡ after_events answer welcomes (server_calls ms) r0
    pub at : (c : ℕ) → AtMoments ms c (slice_get world.conns c)

  -- a call on the server
  module _ (ms : List Moment) (w : World) (server : rest w ≡ after_events answer welcomes (server_calls ms) r0) (e : Call) where
    abbrev ms2 : List Moment
    ms2 = ms ++ serves e ∷ []

    pub server_then : after_events answer welcomes (server_calls ms2) r0 ≡ after_event answer welcomes e (rest w)
    server_then = ap (λ es. after_events answer welcomes es r0) (serves_more ms e) ∙ after_both answer welcomes (server_calls ms) (e ∷ []) r0 (rest w) (sym server)

    module _ (c : ℕ) where
      pub took_then : took_in c ms2 ≡ took_in c ms ++ took_by c e (rest w)
      took_then =
          ap (λ es. bytes_taken answer welcomes c es r0) (serves_more ms e) ∙ taken_both answer welcomes c (server_calls ms) (e ∷ []) r0 (rest w) (sym server)
          ∙ ap (λ z. took_in c ms ++ z) (append-nil (took_by c e (rest w)))

      gave_then : gave_in c ms2 ≡ gave_in c ms ++ gave_by c e (rest w)
      gave_then =
          ap (λ es. bytes_given answer welcomes c es r0) (serves_more ms e) ∙ given_both answer welcomes c (server_calls ms) (e ∷ []) r0 (rest w) (sym server)
          ∙ ap (λ z. gave_in c ms ++ z) (append-nil (gave_by c e (rest w)))

      said_then : said_in c ms2 ≡ call_said answer welcomes c e (rest w) ++ said_in c ms
      said_then =
          ap (λ es. all_said answer welcomes c es r0) (serves_more ms e) ∙ said_both answer welcomes c (server_calls ms) e r0
          ∙ ap (λ z. call_said answer welcomes c e z ++ said_in c ms) (sym server)

      pub run_then : (wish : Wish) → run_of wish c ms2 ≡ run_of wish c ms
      run_then wish = ap (calls (starts wish)) (asks_same c ms e)

      -- where it adds this to what is told of a connection
      pub at_then : (k : Option Connection) → At (ours c) (runs_in c ms) (took_in c ms ++ took_by c e (rest w)) (gave_in c ms ++ gave_by c e (rest w)) (call_said answer welcomes c e (rest w) ++ said_in c ms) k → AtMoments ms2 c k
      at_then k = at_as (ours c) _ _ _ _ _ _ _ _ k (λ wish. sym (run_then wish)) (sym took_then) (sym gave_then) (sym said_then)

      -- where it adds nothing
      pub at_still : (k : Option Connection) → IsSilent answer welcomes e (rest w) c → AtMoments ms c k → AtMoments ms2 c k
      at_still k s h =
          at_as (ours c) _ _ _ _ _ _ _ _ k (λ wish. sym (run_then wish)) (sym (took_then ∙ ap (λ z. took_in c ms ++ z) s.took ∙ append-nil (took_in c ms)))
          (sym (gave_then ∙ ap (λ z. gave_in c ms ++ z) s.gave ∙ append-nil (gave_in c ms))) (sym (said_then ∙ ap (λ z. z ++ said_in c ms) s.wrote)) h

  -- a call on a client
  module _ (ms : List Moment) (d : ℕ) (x : ClientCall) where
    abbrev ms3 : List Moment
    ms3 = ms ++ asks d x ∷ []

    pub server_still : after_events answer welcomes (server_calls ms3) r0 ≡ after_events answer welcomes (server_calls ms) r0
    server_still = ap (λ es. after_events answer welcomes es r0) (serves_same ms d x)

    pub gave_still : (c : ℕ) → gave_in c ms3 ≡ gave_in c ms
    gave_still c = ap (λ es. bytes_given answer welcomes c es r0) (serves_same ms d x)

    -- of the connection of another, and of its own
    pub at_other : (c : ℕ) (k : Option Connection) → d ≢ c → AtMoments ms c k → AtMoments ms3 c k
    at_other c k n = at_as (ours c) _ _ _ _ _ _ _ _ k (λ wish. ap (calls (starts wish)) (sym (asks_other c ms d x n))) (ap (λ es. bytes_taken answer welcomes c es r0) (sym (serves_same ms d x))) (sym (gave_still c)) (ap (λ es. all_said answer welcomes c es r0) (sym (serves_same ms d x)))

    pub at_own : (k : Option Connection) → At (ours d) (λ wish. called (run_of wish d ms) x) (took_in d ms) (gave_in d ms) (said_in d ms) k → AtMoments ms3 d k
    at_own k = at_as (ours d) _ _ _ _ _ _ _ _ k (λ wish. sym (run_more wish d ms x)) (ap (λ es. bytes_taken answer welcomes d es r0) (sym (serves_same ms d x))) (sym (gave_still d)) (ap (λ es. all_said answer welcomes d es r0) (sym (serves_same ms d x)))
