-- What clients of ours may rely on, by the calls at both ends alone.
use Rattle.std.proofs.Common.{map, nat_le, ◌≡◌, refl, sym, ◌∙◌, ap, ap₂, subst, ℕ, zero, suc, arith, ◌<◌, ◌==◌, if◌then◌else◌, Option, Some, None, List, [], ◌∷◌, ◌++◌, take, slice_get, length}
use Rattle.std.proofs.lemmas.Bool.{cond-true, cond-false, cond_both}
use Rattle.wire.specs.declared.Wish.{Wish}
use Rattle.wire.specs.Prelude.{bytes_newest_first}
use Rattle.messages.specs.Prelude.{RequestView, Heard, heard_bytes}
use Rattle.machine.specs.Prelude.{phase_of}
use Rattle.client.specs.Prelude.{Got, GotRow, Reading, reading_of}
use Rattle.client.proofs.Runs.{tells_by_bytes}
use Rattle.engine.specs.Prelude.{EntryView, Token, TokensOnce, Welcome}
use Rattle.server_session.specs.Prelude.{Setting, Change, Tx}
use Rattle.server.specs.Prelude.{Rest, empty, after_events}
use Rattle.world.specs.Good.{Often}
use Rattle.world.specs.Prelude.{server_rest, Connection, Said, SaysRow, SaysSummary, heard_as, said_version, bytes_delivered, heard_by_bytes, wish_of, World, ledger, taken_out, Reached, begins, goes_on, takes_out, IsLedger, Each, ExactlyOnce, Never, AtMostOnce, often, Stands as StandsInWorld, StandsOnce as OnceInWorld, is_success, tx_after, transaction, alone_after, alone, commit_of, before, change, change_for, said_within, delivered_whole, server_outcome, tellings_of, Definition, setting_of}
use Rattle.world.proofs.Headline.{all_good}
use Rattle.world.proofs.Limits.{commits_once, grows_by_work}
use Rattle.world_guarantees.proofs.Tied.{tells_outcomes}
use Rattle.world_guarantees.specs.Prelude.{client_calls, run_of, Moment, server_calls, attempt_of, ArePlayed, StandsOnce, StandsSo, change_of, Relies, IsTrue, ClientsMayRely}
use Rattle.world_guarantees.proofs.Histories.{answers_among}
use Rattle.world_guarantees.proofs.Played.{Ends, last, at_attempt}

-- A change, and what a client tells, are told by the rows and summaries alone.
before_among : (i : ℕ) (xs : List Said) → before i (answers_among xs) ≡ answers_among (before i xs)
before_among i [] = refl
before_among i (SaysSummary x ∷ xs) =
    cond_both (x.ordinal == i) xs (before i xs) (λ zs. (if x.ordinal == i then answers_among xs else before i (answers_among xs)) ≡ answers_among zs)
    (λ b. cond-true (x.ordinal == i) _ _ b) (λ b. cond-false (x.ordinal == i) _ _ b ∙ before_among i xs)
before_among i (_ ∷ xs) = before_among i xs

module _ (S : Setting) (all : List EntryView) where
  transaction_among : (xs : List Said) → transaction S all (answers_among xs) ≡ transaction S all xs
  transaction_among [] = refl
  transaction_among (SaysSummary x ∷ xs) = ap (λ (t : Tx). if is_success x.response then tx_after S (take x.length_before all) t x.request else t) (transaction_among xs)
  transaction_among (_ ∷ xs) = transaction_among xs

  alone_among : (xs : List Said) → alone S all (answers_among xs) ≡ alone S all xs
  alone_among [] = refl
  alone_among (SaysSummary x ∷ xs) = ap (λ (c : Change). if is_success x.response then alone_after S (take x.length_before all) c x.request else c) (alone_among xs)
  alone_among (_ ∷ xs) = alone_among xs

  change_among : (q : Option RequestView) (i : ℕ) (xs : List Said) → change_for S all q (before i (answers_among xs)) ≡ change_for S all q (before i xs)
  change_among q i xs = ap (change_for S all q) (before_among i xs) ∙ ap₂ (λ (t : Tx) (c : Change). commit_of q t c) (transaction_among (before i xs)) (alone_among (before i xs))

among-append : (xs ys : List Said) → answers_among (xs ++ ys) ≡ answers_among xs ++ answers_among ys
among-append [] ys = refl
among-append (SaysRow row ∷ xs) ys = ap (λ z. SaysRow row ∷ z) (among-append xs ys)
among-append (SaysSummary x ∷ xs) ys = ap (λ z. SaysSummary x ∷ z) (among-append xs ys)
among-append (_ ∷ xs) ys = among-append xs ys

tellings_among : (xs : List Said) → tellings_of (answers_among xs) ≡ tellings_of xs
tellings_among [] = refl
tellings_among (SaysRow row ∷ xs) = ap (λ z. GotRow row ∷ z) (tellings_among xs)
tellings_among (SaysSummary x ∷ xs) = ap (λ z. Got x.ordinal (phase_of x.state) (server_outcome x) x.response ∷ z) (tellings_among xs)
tellings_among (_ ∷ xs) = tellings_among xs

-- what was said whole within so many bytes is the oldest of what was said
within_front : (text : Heard → List ℕ) (n : ℕ) (xs : List Said) → (later : List Said) × (xs ≡ later ++ said_within text n xs)
within_front text n [] = ([], refl)
within_front text n (x ∷ xs) =
    cond_both (nat_le (length (bytes_newest_first text (map heard_as (x ∷ xs)))) n) (x ∷ xs) (said_within text n xs) (λ zs. (later : List Said) × (x ∷ xs ≡ later ++ zs))
    (λ _. ([], refl)) (λ _. let r = within_front text n xs in (x ∷ r.0, ap (λ z. x ∷ z) r.1))

-- there is something at each place of a list
there : {A : Type 0} (xs : List A) (i : ℕ) → i < length xs → (x : A) × (slice_get xs i ≡ Some x)
there [] i l = absurd (omega (arith, l))
there (x ∷ xs) zero l = (x, refl)
there (x ∷ xs) (suc i) l = there xs i (omega (arith, l))

-- a number below the server's next is a connection of the world
pub found_in : {G : Type 0} (answer : Definition) (welcomes : G → Welcome) (gate : G) (w : World) (after : Rest G) → server_rest gate w ≡ after → (c : ℕ) → c < after.next → (k : Connection) × (slice_get w.conns c ≡ Some k)
found_in {G = G} answer welcomes gate w after e c l = there w.conns c (subst (λ n. c < n) (sym (ap (λ (z : Rest G). z.next) e)) l)

-- what stands in a world
once_in : (c i : ℕ) (w : World) (its : Change) (t : Token) → OnceInWorld c i w its t → StandsOnce c i w.since (ledger w) its t
once_in c i w its None h = h
once_in c i w its (Some t) h = h

stands_in : (o : Often) (c i : ℕ) (w : World) (its : Change) → StandsInWorld o c i w its → StandsSo o c i w.since (ledger w) its
stands_in ExactlyOnce c i w its h = once_in c i w its its.token h
stands_in Never c i w its h = h
stands_in AtMostOnce c i w its h = h

taken_brought : (w : World) (c n : ℕ) (o : Option Connection) → (taken_out w c n o).brought ≡ w.brought
taken_brought w c n None = refl
taken_brought w c n (Some k) = refl

-- a world keeps what its engine brought
brought_is : (S : Setting) (brought : List EntryView) {w : World} → Reached S brought w → w.brought ≡ brought
brought_is S brought (begins l) = refl
brought_is S brought (goes_on w w2 e seen r s) = (grows_by_work S w e seen w2 s.steps).0 ∙ brought_is S brought r
brought_is S brought (takes_out w c n r) = taken_brought w c n (slice_get w.conns c) ∙ brought_is S brought r

module _ {G : Type 0} (answer : Definition) (welcomes : G → Welcome) (gate : G) (ours : ℕ → Option Wish) (brought : List EntryView) (is : IsLedger brought)
    (ms : List Moment) (played : ArePlayed answer welcomes ours ms (empty brought gate)) where
  abbrev S : Setting
  S = setting_of answer welcomes gate

  abbrev after : Rest G
  after = after_events answer welcomes (server_calls ms) (empty brought gate)

  abbrev e : Ends answer welcomes gate ours brought is ms played after.next
  e = last answer welcomes gate ours brought is ms played

  abbrev w : World
  w = e.world

  ledger_is : ledger w ≡ after.ledger
  ledger_is = ap (λ (z : Rest G). z.ledger) e.server

  relies : (c : ℕ) (wish : Wish) → ours c ≡ Some wish → (k : Connection) → slice_get w.conns c ≡ Some k → Relies answer welcomes gate wish c ms (empty brought gate) w.since after.ledger
  relies c wish mine k here =
      let at = at_attempt answer welcomes gate ours brought is ms played c k wish mine here in
      let good = all_good S brought w e.reached c k wish here at.ours in
      let its : (i : ℕ) → change S w k i ≡ change_of answer welcomes gate wish c ms (empty brought gate) after.ledger i =
      λ i. ap (λ qs. change_for S (ledger w) (slice_get qs i) (before i k.says)) at.sent
      ∙ ap (λ all. change_for S all (slice_get (attempt_of wish c ms).sent i) (before i k.says)) ledger_is
      ∙ sym (change_among S after.ledger (slice_get (attempt_of wish c ms).sent i) i k.says)
      ∙ ap (λ xs. change_for S after.ledger (slice_get (attempt_of wish c ms).sent i) (before i xs)) (e.here c k here).told in
      let so = λ (o : Often) (i : ℕ) (h : StandsInWorld o c i w (change S w k i)).
      subst (λ all. StandsSo o c i w.since all (change_of answer welcomes gate wish c ms (empty brought gate) after.ledger i)) ledger_is
      (subst (StandsSo o c i w.since (ledger w)) (its i) (stands_in o c i w (change S w k i) h)) in
      let run = run_of wish c ms in
      let reads : heard_by_bytes k ≡ reading_of wish run.sent run.took =
      ap (λ p. reading_of (wish_of p) k.sent (bytes_delivered k)) at.ours ∙ ap₂ (λ qs bs. reading_of wish qs bs) at.sent at.took in
      let front = within_front (heard_bytes (said_version k)) k.down k.says in
      record {
        told = record {
          later = answers_among front.0;
          heard = answers_among (delivered_whole k);
          parts = sym (e.here c k here).told ∙ ap answers_among front.1 ∙ among-append front.0 (delivered_whole k);
          tells = (tells_by_bytes wish (client_calls c ms)).told ∙ ap (λ (z : Reading). z.told) (sym reads) ∙ good.told ∙ sym (tellings_among (delivered_whole k));
        };
        stands = λ i o told. so (often (Some o)) i (subst (λ z. StandsInWorld (often z) c i w (change S w k i)) (tells_outcomes S brought w e.reached c k (attempt_of wish c ms) at i o told) (good.stands i));
        own_entry = λ i. so AtMostOnce i (good.own_entry i);
        theirs = subst (λ qs. Each (λ x. x.conn ≡ c → x.ordinal < length qs) w.since) at.sent good.theirs;
      }

  found : (c : ℕ) → c < after.next → (k : Connection) × (slice_get w.conns c ≡ Some k)
  found c l = there w.conns c (subst (λ n. c < n) (sym (ap (λ (z : Rest G). z.next) e.server)) l)

  pub is_true : IsTrue answer welcomes gate ours brought ms after
  is_true = record {
    since = w.since;
    grows = sym ledger_is ∙ ap (λ b. b ++ w.since) (brought_is S brought e.reached);
    once = subst TokensOnce ledger_is (commits_once S brought w e.reached);
    each = λ c wish mine l. relies c wish mine (found c l).0 (found c l).1;
  }

pub clients_may_rely : {G : Type 0} (answer : Definition) (welcomes : G → Welcome) (gate : G) (ours : ℕ → Option Wish) → ClientsMayRely answer welcomes gate ours
clients_may_rely answer welcomes gate ours brought ms is played = is_true answer welcomes gate ours brought is ms played
