-- What a session has placed follows its bytes: each call on it keeps that.
use Rattle.std.proofs.Common.{◌≡◌, ◌≢◌, refl, sym, ◌∙◌, ap, subst, ℕ, ◌+◌, Bool, true, false, cond, leb, ◌⊎◌, inl, inr, Option, Some, None, List, [], ◌∷◌, ◌++◌, length, take, arith, append-nil, append_assoc, length-append, option_map, option_to_list, map, is_some, unwrap_or, ◌||◌, ◌&&◌}
use Rattle.std.proofs.lemmas.Bool.{cond_both}
use Rattle.std.proofs.lemmas.List.{map-append}
use Rattle.wire.specs.declared.Version.TheVariants.{V51}
use Rattle.wire.specs.Prelude.{Took as TookOf, state, takes, Item, Opened, at_server}
use Rattle.messages.specs.Prelude.{RequestView, Arrival, Shook, NoMagic, Asked, Unread, TooLong, Quiet, arrivals}
use Rattle.machine.specs.declared.states.State.{State}
use Rattle.machine.specs.declared.rows.Verdict.{Verdict}
use Rattle.machine.specs.Prelude.{kind_of, is_reset, interruptible}
use Rattle.engine.specs.Prelude.{EntryView}
use Rattle.server_session.specs.declared.kinds.Cause.{Cause}
use Rattle.server.specs.declared.kinds.Took.{Took}
use Rattle.server_session.specs.declared.kinds.What.{What}
use Rattle.server_session.specs.Prelude.{Setting, Reply, OneRow, Summary, Bye, Kept, Step, Ended, Full, puts, cause_of, ends, after_item, full, noop_kept, puts_noop, replies, rests, reset_among, shut, after_interrupt, turns, unread_among, version_of, work_kept}
use Rattle.messages_deframer.proofs.Arriving.{rest_then}
use Rattle.server.specs.Prelude.{arrival, takes_item, takes_none, Live, after_feeding, fresh, fed_live, with_kept, Agrees, Follows, IsLater, answers_by, places_of}
use Rattle.server.proofs.Arriving.{is_shake, IsNext, unread_placed, more_arrives, next_arrival, placed-append}

unread_after : (answered : List RequestView) (xs : List Arrival) → unread_among (map Asked answered ++ xs) ≡ unread_among xs
unread_after [] xs = refl
unread_after (q ∷ answered) xs = unread_after answered xs

-- the version and the end are those of the first arrival
agrees_kept : (xs : List Arrival) (k t : Kept) → t.version ≡ k.version → t.ended ≡ k.ended → Agrees xs k → Agrees xs t
agrees_kept [] k t v e h = (v ∙ h.0, e ∙ h.1)
agrees_kept (Shook (Some w) ∷ xs) k t v e h = (v ∙ h.0, subst IsLater (sym e) h.1)
agrees_kept (Shook None ∷ xs) k t v e h = (v ∙ h.0, e ∙ h.1)
agrees_kept (NoMagic ∷ xs) k t v e h = (v ∙ h.0, e ∙ h.1)
agrees_kept _ k t v e h = h

-- where it hasn't ended, nothing has arrived, or an offer of which its version was taken
stage_of : (xs : List Arrival) (k : Kept) → Agrees xs k → k.ended ≡ None → (xs ≡ []) ⊎ ((rest : List Arrival) × (xs ≡ Shook (Some (version_of k)) ∷ rest))
stage_of [] k h e = inl refl
stage_of (Shook (Some w) ∷ xs) k h e = inr (xs, ap (λ o. Shook (Some (unwrap_or o V51)) ∷ xs) (sym h.0))
stage_of (Shook None ∷ xs) k h e = let bad : None ≡ Some Cause.NoVersion = sym e ∙ h.1 in absurd (cc)
stage_of (NoMagic ∷ xs) k h e = let bad : None ≡ Some Cause.BadMagic = sym e ∙ h.1 in absurd (cc)
stage_of _ k h e = absurd h

-- what a RESET that interrupts leaves
pub interrupted : {A : Type 0} (f : Kept → A) → ((k : Kept) → f (after_interrupt k) ≡ f k) → (b : Bool) (k : Kept) → f (cond b (after_interrupt k) k) ≡ f k
interrupted f same true k = same k
interrupted f same false k = refl

-- What an arrival does.
fed_waiting : (k : Kept) (a : Option Arrival) → (after_item k a).waiting ≡ k.waiting ++ places_of (option_to_list a)
fed_waiting k (Some (Asked q)) = interrupted (λ (t : Kept). t.waiting) (λ t. refl) (is_reset (kind_of q) && interruptible k.state) (record k { waiting = k.waiting ++ Asked q ∷ [] })
fed_waiting k (Some (Unread e)) = refl
fed_waiting k (Some TooLong) = refl
fed_waiting k (Some (Shook (Some v))) = sym (append-nil k.waiting)
fed_waiting k _ = sym (append-nil k.waiting)

fed_first : (k : Kept) (a : Option Arrival) → (after_item k a).first ≡ k.first
fed_first k (Some (Shook (Some v))) = refl
fed_first k (Some (Asked q)) = interrupted (λ (t : Kept). t.first) (λ t. refl) (is_reset (kind_of q) && interruptible k.state) (record k { waiting = k.waiting ++ Asked q ∷ [] })
fed_first k _ = refl

-- what isn't a handshake leaves version and end
fed_agrees : (k : Kept) (a : Option Arrival) → option_map is_shake a ≢ Some true → ((after_item k a).version ≡ k.version) × ((after_item k a).ended ≡ k.ended)
fed_agrees k (Some (Shook o)) h = absurd (h refl)
fed_agrees k (Some NoMagic) h = absurd (h refl)
fed_agrees k (Some (Asked q)) h =
    let b = is_reset (kind_of q) && interruptible k.state in
    let t : Kept = record k { waiting = k.waiting ++ Asked q ∷ [] } in
    (interrupted (λ (k : Kept). k.version) (λ k. refl) b t, interrupted (λ (k : Kept). k.ended) (λ k. refl) b t)
fed_agrees k _ h = (refl, refl)

agrees_more : (x : Arrival) (xs ys : List Arrival) (k : Kept) → Agrees (x ∷ xs) k → Agrees (x ∷ (xs ++ ys)) k
agrees_more (Shook (Some v)) xs ys k h = h
agrees_more _ xs ys k h = h

first_agrees : (k : Kept) (a : Option Arrival) → IsNext [] a → Agrees [] k → Agrees (option_to_list a) (after_item k a)
first_agrees k None n h = h
first_agrees k (Some (Shook (Some v))) n h = (refl, subst IsLater (sym h.1) tt)
first_agrees k (Some (Shook None)) n h = (h.0, refl)
first_agrees k (Some NoMagic) n h = (h.0, refl)
first_agrees k _ n h = cc

no_shake : (x : Arrival) (xs : List Arrival) (a : Option Arrival) → IsNext (x ∷ xs) a → option_map is_shake a ≢ Some true
no_shake x xs None n = λ e. cc
no_shake x xs (Some a) n = λ e. let bad : false ≡ true = cc in cc

next_agrees : (k : Kept) (xs : List Arrival) (a : Option Arrival) → IsNext xs a → Agrees xs k → Agrees (xs ++ option_to_list a) (after_item k a)
next_agrees k [] a n h = first_agrees k a n h
next_agrees k (x ∷ xs) a n h =
    let same = fed_agrees k a (no_shake x xs a n) in
    agrees_kept (x ∷ (xs ++ option_to_list a)) k (after_item k a) same.0 same.1 (agrees_more x xs (option_to_list a) k h)

-- other names for the bytes and the requests
pub follows_same : (bytes more : List ℕ) (answered later : List RequestView) (s : Live) → more ≡ bytes → later ≡ answered → Follows bytes answered s → Follows more later s
follows_same bytes more answered later s b a h = subst (λ x. Follows x later s) (sym b) (subst (λ x. Follows bytes x s) (sym a) h)

pub follows_begun : (conn : ℕ) → Follows [] [] (fresh conn)
follows_begun conn = record { places = refl; first = refl; handshake = (refl, refl); unfinished = refl }

either_false : (o : Option Cause) (b : Bool) → (is_some o || b) ≡ false → (o ≡ None) × (b ≡ false)
either_false None b h = (refl, h)
either_false (Some x) b h = cc

-- A feed.
module _ (bytes : List ℕ) (answered : List RequestView) (s : Live) (h : Follows bytes answered s) (piece : List ℕ) where
  abbrev Fed : Took × Live → Type 0
  Fed p = Follows (bytes ++ take p.0.used piece) answered p.1

  none_taken : (what : What) → Fed (record { used = 0; what = what }, record { conn = s.conn; kept = s.kept; unfinished = s.unfinished })
  none_taken what = follows_same bytes (bytes ++ take 0 piece) answered answered _ (append-nil bytes) refl (record { places = h.places; first = h.first; handshake = h.handshake; unfinished = h.unfinished })

  good : unread_among s.kept.waiting ≡ false → unread_among (arrivals bytes) ≡ false
  good e = sym (unread_placed (arrivals bytes)) ∙ ap unread_among (sym h.places) ∙ unread_after answered s.kept.waiting ∙ e

  item_taken : shut s.kept ≡ false → (u : Opened) → u ≡ state at_server at_server.start bytes → Fed (after_feeding s.conn (takes_item s.kept (takes at_server u piece)))
  item_taken opens u e =
      let parts = either_false s.kept.ended (unread_among s.kept.waiting) opens in
      let stage = stage_of (arrivals bytes) s.kept h.handshake parts.0 in
      let v = version_of s.kept in
      let quiet = good parts.1 in
      subst (λ w. Fed (after_feeding s.conn (takes_item s.kept (takes at_server w piece)))) (sym e) (taken (more_arrives bytes v stage quiet piece) (next_arrival bytes v stage quiet piece) (rest_then 20 bytes piece))
    where
      t : TookOf Opened Item
      t = takes at_server (state at_server at_server.start bytes) piece

      a : Option Arrival
      a = arrival s.kept t.item

      taken : arrivals (bytes ++ take t.used piece) ≡ arrivals bytes ++ option_to_list a → IsNext (arrivals bytes) a → state at_server at_server.start (bytes ++ take t.used piece) ≡ t.rest
          → Fed (after_feeding s.conn (takes_item s.kept t))
      taken more next rest = record {
        places =
            ap (λ z. map Asked answered ++ z) (fed_waiting s.kept a)
            ∙ sym (append_assoc (map Asked answered) s.kept.waiting (places_of (option_to_list a)))
            ∙ ap (λ z. z ++ places_of (option_to_list a)) h.places
            ∙ sym (placed-append (arrivals bytes) (option_to_list a)) ∙ ap places_of (sym more);
        first = fed_first s.kept a ∙ h.first;
        handshake = subst (λ z. Agrees z (after_item s.kept a)) (sym more) (next_agrees s.kept (arrivals bytes) a next h.handshake);
        unfinished = sym rest;
      }

  pub follows_feed : Fed (fed_live s piece)
  follows_feed = shut_or (shut s.kept) refl (full s.kept)
    where
      shut_or : (b : Bool) → shut s.kept ≡ b → (c : Bool)
          → Fed (after_feeding s.conn (cond b (takes_none What.Closed s.kept s.unfinished) (cond c (takes_none What.Full s.kept s.unfinished) (takes_item s.kept (takes at_server s.unfinished piece)))))
      shut_or true e c = none_taken What.Closed
      shut_or false e true = none_taken What.Full
      shut_or false e false = item_taken e s.unfinished h.unfinished

-- What a step does to what waits.
later_cause : (d : Verdict) (s : State) → IsLater (cause_of d s)
later_cause Verdict.Invalid s = tt
later_cause d State.Defunct = tt
later_cause d s = tt

-- an end, where something waits
record Ends (k t : Kept) : Type 0 where
  before : k.ended ≡ None
  cause : IsLater t.ended
  first : Arrival
  others : List Arrival
  waits : k.waiting ≡ first ∷ others

record Stepped (k : Kept) (d : Step) : Type 0 where
  waiting : map Asked (answers_by d.answer) ++ d.kept.waiting ≡ k.waiting
  first : d.kept.first ≡ k.first + length (answers_by d.answer)
  version : d.kept.version ≡ k.version
  ended : (d.kept.ended ≡ k.ended) ⊎ Ends k d.kept

rested : (k t : Kept) (d : Step) → d.kept ≡ t → answers_by d.answer ≡ [] → t.waiting ≡ k.waiting → t.first ≡ k.first → t.version ≡ k.version → (t.ended ≡ k.ended) ⊎ Ends k t → Stepped k d
rested k t d same none w f v e = record {
  waiting = ap (λ z. map Asked z ++ d.kept.waiting) none ∙ ap (λ (z : Kept). z.waiting) same ∙ w;
  first = ap (λ (z : Kept). z.first) same ∙ f ∙ (let n : k.first ≡ k.first + 0 = omega arith in n) ∙ ap (λ z. k.first + length z) (sym none);
  version = ap (λ (z : Kept). z.version) same ∙ v;
  ended = subst (λ (z : Kept). (z.ended ≡ k.ended) ⊎ Ends k z) (sym same) e;
}

idles : (k : Kept) (d : Step) → d.kept ≡ k → answers_by d.answer ≡ [] → Stepped k d
idles k d same none = rested k k d same none refl refl refl (inl refl)

-- a step that ends the session
closes : (k : Kept) (c : Cause) (x : Arrival) (xs : List Arrival) → k.waiting ≡ x ∷ xs → k.ended ≡ None → IsLater (Some c) → Stepped k (rests (ends c k) (Ended c))
closes k c x xs w e l = rested k (ends c k) (rests (ends c k) (Ended c)) refl refl refl refl refl (inr (record { before = e; cause = l; first = x; others = xs; waits = w }))

replies_stepped : (ledger : List EntryView) (k : Kept) (q : RequestView) (later : List Arrival) (reply : Reply) → k.waiting ≡ Asked q ∷ later → k.ended ≡ None → Stepped k (replies ledger k q later reply)
replies_stepped ledger k q later (OneRow r left) w e = rested k _ (replies ledger k q later (OneRow r left)) refl refl refl refl refl (inl refl)
replies_stepped ledger k q later (Summary d m left tx entry) w e = record {
  waiting = sym w;
  first = omega arith;
  version = refl;
  ended = inr (record { before = e; cause = later_cause d _; first = Asked q; others = later; waits = w });
}
replies_stepped ledger k q later Bye w e = closes k Cause.Goodbye (Asked q) later w e tt

-- a RESET that interrupts leaves what waits, version and end
interrupted_stepped : (b : Bool) (k : Kept) (d : Step) → Stepped (cond b (after_interrupt k) k) d → Stepped k d
interrupted_stepped true k d h = record { waiting = h.waiting; first = h.first; version = h.version; ended = go h.ended }
  where
    go : (d.kept.ended ≡ k.ended) ⊎ Ends (after_interrupt k) d.kept → (d.kept.ended ≡ k.ended) ⊎ Ends k d.kept
    go (inl e) = inl e
    go (inr e) = inr (record { before = e.before; cause = e.cause; first = e.first; others = e.others; waits = e.waits })
interrupted_stepped false k d h = h

turns_stepped : (S : Setting) (c : ℕ) (ledger : List EntryView) (k : Kept) (xs : List Arrival) → k.waiting ≡ xs → k.ended ≡ None → Stepped k (turns S c ledger k xs)
turns_stepped S c ledger k (Asked q ∷ later) w e =
    let b : Bool = reset_among (Asked q ∷ later) && interruptible k.state in
    let t : Kept = cond b (after_interrupt k) k in
    interrupted_stepped b k (turns S c ledger k (Asked q ∷ later)) (replies_stepped ledger t q later _ (interrupted (λ (t : Kept). t.waiting) (λ t. refl) b k ∙ w) (interrupted (λ (t : Kept). t.ended) (λ t. refl) b k ∙ e))
turns_stepped S c ledger k (Unread f ∷ later) w e = closes k Cause.Malformed (Unread f) later w e tt
turns_stepped S c ledger k (TooLong ∷ later) w e = closes k Cause.TooBig TooLong later w e tt
turns_stepped S c ledger k xs w e = idles k (turns S c ledger k xs) refl refl

work_stepped : (S : Setting) (c : ℕ) (ledger : List EntryView) (k : Kept) (ended : Option Cause) → k.ended ≡ ended → Stepped k (work_kept S c ledger k ended)
work_stepped S c ledger k (Some cause) e = idles k (work_kept S c ledger k (Some cause)) refl refl
work_stepped S c ledger k None e =
    cond_both (leb 65536 (length k.unsent)) (rests k Full) (turns S c ledger k k.waiting) (λ d. Stepped k d) (λ b. idles k (rests k Full) refl refl) (λ b. turns_stepped S c ledger k k.waiting refl e)

-- where something waits, an offer has come of which a version was taken
waits_agrees : (xs : List Arrival) (answered : List RequestView) (k t : Kept) → map Asked answered ++ k.waiting ≡ places_of xs → t.version ≡ k.version → Ends k t → Agrees xs k → Agrees xs t
waits_agrees [] answered k t p v e h = let bad : map Asked answered ++ e.first ∷ e.others ≡ [] = ap (λ z. map Asked answered ++ z) (sym e.waits) ∙ p in absurd (none answered bad)
  where
    none : (qs : List RequestView) → map Asked qs ++ e.first ∷ e.others ≡ [] → ⊥
    none [] b = cc
    none (q ∷ qs) b = cc
waits_agrees (Shook (Some w) ∷ xs) answered k t p v e h = (v ∙ h.0, e.cause)
waits_agrees (Shook None ∷ xs) answered k t p v e h = let bad : None ≡ Some Cause.NoVersion = sym e.before ∙ h.1 in absurd (cc)
waits_agrees (NoMagic ∷ xs) answered k t p v e h = let bad : None ≡ Some Cause.BadMagic = sym e.before ∙ h.1 in absurd (cc)
waits_agrees _ answered k t p v e h = h

-- A step.
pub follows_work : (S : Setting) (ledger : List EntryView) (bytes : List ℕ) (answered : List RequestView) (s : Live) → Follows bytes answered s
    → (let d = work_kept S s.conn ledger s.kept s.kept.ended in Follows bytes (answered ++ answers_by d.answer) (with_kept s d.kept))
follows_work S ledger bytes answered s h = stepped (work_kept S s.conn ledger s.kept s.kept.ended) (work_stepped S s.conn ledger s.kept s.kept.ended refl)
  where
    stepped : (d : Step) → Stepped s.kept d → Follows bytes (answered ++ answers_by d.answer) (with_kept s d.kept)
    stepped d w = record {
      places =
          ap (λ z. z ++ d.kept.waiting) (map-append Asked answered (answers_by d.answer))
          ∙ append_assoc (map Asked answered) (map Asked (answers_by d.answer)) d.kept.waiting
          ∙ ap (λ z. map Asked answered ++ z) w.waiting ∙ h.places;
      first = w.first ∙ ap (λ n. n + length (answers_by d.answer)) h.first ∙ sym (length-append answered (answers_by d.answer));
      handshake = go w.ended;
      unfinished = h.unfinished;
    }
      where
        go : (d.kept.ended ≡ s.kept.ended) ⊎ Ends s.kept d.kept → Agrees (arrivals bytes) d.kept
        go (inl e) = agrees_kept (arrivals bytes) s.kept d.kept w.version e h.handshake
        go (inr e) = waits_agrees (arrivals bytes) answered s.kept d.kept h.places w.version e h.handshake

-- Bytes that are taken out, and a no-op.
pub follows_unsent : (bytes : List ℕ) (answered : List RequestView) (s : Live) (unsent : List ℕ) → Follows bytes answered s → Follows bytes answered (with_kept s (record s.kept { unsent = unsent }))
follows_unsent bytes answered s unsent h = record {
  places = h.places;
  first = h.first;
  handshake = agrees_kept (arrivals bytes) s.kept (record s.kept { unsent = unsent }) refl refl h.handshake;
  unfinished = h.unfinished;
}

pub follows_noop : (bytes : List ℕ) (answered : List RequestView) (s : Live) → Follows bytes answered s → Follows bytes answered (with_kept s (noop_kept s.kept))
follows_noop bytes answered s h = go (puts_noop s.kept)
  where
    go : (b : Bool) → Follows bytes answered (with_kept s (cond b (record s.kept { unsent = puts s.kept Quiet }) s.kept))
    go true = follows_unsent bytes answered s (puts s.kept Quiet) h
    go false = record { places = h.places; first = h.first; handshake = h.handshake; unfinished = h.unfinished }
