-- What a conversation has come to after some bytes of the client: by its items, by what arrives, and by the pieces that are taken.
use Rattle.std.proofs.Common.{◌≡◌, refl, sym, ap, subst, ◌∙◌, ℕ, Bool, true, false, List, [], ◌∷◌, ◌++◌, append-nil, append_assoc, Option, Some, None, option_to_list, arith, take, drop, take-append-drop, Ok, Err, Result, ◌&&◌, ◌⊎◌, inl, inr, if◌then◌else◌, IsSome, is_some, ◌||◌, bytes_eq, length, unwrap_or, ◌<◌}
use Rattle.wire.specs.Prelude.{Item, Opened, at_server, items_received, Opening, Noop, Message, TooBig, Took, state, outputs, takes, magic, choice_of as version_taken}
use Rattle.messages.specs.Prelude.{Arrival, Asked, Unread, TooLong, Shook, NoMagic, then_request, requests_in, after_shake, arrivals, arrivals_of, RequestView, request_of}
use Rattle.machine.specs.Prelude.{kind_of, is_reset, interruptible}
use Rattle.engine.specs.Prelude.{EntryView}
use Rattle.server_session.specs.declared.kinds.Cause.{Cause}
use Rattle.server_session.specs.Prelude.{Setting, Kept, after_item, after_interrupt, version_of, begun, shut, unread_among, arrival_by, what_of}
use Rattle.server.specs.declared.kinds.Took.{Took as AnyTook}
use Rattle.server.specs.Prelude.{arrives, arrival as arrival_of, Rest, feed_at, find, takes_item}
use Rattle.server_blocking.proofs.Called.{by_option, fed_item, fed_none}
use Rattle.server_blocking.proofs.Views.{part_held}
use Rattle.streams.specs.declared.fault.StreamFault.{StreamFault}
use Rattle.server_blocking.specs.Prelude.{Talk, silent, after_bytes, heard_out, steps, steps_due, talk_of_due, unless_ended, talk_then, with_talk, talk_of_arrivals, conversation, IsPartOfDue, due_of, ComesTo, nothing_yet, part_of_first, after_first, as_it_is, ConversationComesTo, IsPlaced, due, as_item, item_talk, liveness_of, rest_after, Holds, HoldsPart, settled, IsPartSettled, SettlesWhole, BreaksAt, IsFront, told_by, told_to, HoldsAfter, BreaksHolding, TakesOne, TakesFront, TakesItems, Feeds, SinkView}
use Rattle.server_blocking.proofs.Stepping.{Grown, Rested, RestsAs, after_twice, steps_grow, steps_none, steps_rest, behind, heard_same, item_behind, silent_same, front_later, front_same, front_then}
use Rattle.wire.proofs.Readers.{outputs-append, state-append, takes_outputs}
use Rattle.server_blocking.specs.declared.liveness.Liveness.{Liveness}
use Rattle.server_blocking.specs.declared.liveness.Liveness.TheVariants.{Open, Over}
use Rattle.server_blocking.specs.declared.intake.Taken.{Taken}
use Rattle.streams.proofs.Parts.{fed_more}
use Rattle.wire.specs.declared.Version.{Version}
use Rattle.messages.specs.declared.MsgFault.{MsgFault}
use Rattle.messages.specs.Arrivals as arrival
use Rattle.wire.proofs.Opening.{AreChunks, Came, part, whole, came}

some_is : {A : Type 0} {x y : A} → Some x ≡ Some y → y ≡ x
some_is {x = x} e = sym (ap (λ o. unwrap_or o x) e)

-- Where nothing is unsent and nothing waits there is nothing to do.
settled_silent : (S : Setting) (c n : ℕ) (ledger : List EntryView) (k : Kept) → Rested k → k.ended ≡ None → after_bytes k.unsent (steps S c n ledger (heard_out k)) ≡ silent ledger k
settled_silent S c n ledger k h e =
    ap (after_bytes k.unsent) (steps_none S c n ledger (heard_out k) refl e (h.done e))
    ∙ ap (λ (z : List ℕ). after_bytes z (silent ledger (heard_out k))) h.sent
    ∙ ap (λ (z : List ℕ). silent ledger (record k { unsent = z })) (sym h.sent)

-- one at most waits once an item was taken
interrupted_placed : (b : Bool) (k : Kept) → IsPlaced k.waiting → IsPlaced (if b then after_interrupt k else k).waiting
interrupted_placed true k p = p
interrupted_placed false k p = p

pub fed_placed : (k : Kept) (o : Option Arrival) → k.waiting ≡ [] → IsPlaced (after_item k o).waiting
fed_placed k (Some (Shook (Some v))) w = subst IsPlaced (sym w) tt
fed_placed k (Some (Asked q)) w = interrupted_placed (is_reset (kind_of q) && interruptible k.state) (record k { waiting = k.waiting ++ Asked q ∷ [] }) (subst (λ (xs : List Arrival). IsPlaced (xs ++ Asked q ∷ [])) (sym w) tt)
fed_placed k (Some (Unread e)) w = subst (λ (xs : List Arrival). IsPlaced (xs ++ Unread e ∷ [])) (sym w) tt
fed_placed k (Some TooLong) w = subst (λ (xs : List Arrival). IsPlaced (xs ++ TooLong ∷ [])) (sym w) tt
fed_placed k _ w = subst IsPlaced (sym w) tt

-- where what arrived makes no step due
waits_not : (k : Kept) (o : Option Arrival) (liveness : Liveness) → k.ended ≡ None → rest_after (what_of o) ≡ Some liveness → ((after_item k o).waiting ≡ k.waiting) × (liveness ≡ liveness_of (after_item k o).ended)
waits_not k None liveness e h = (refl, some_is h ∙ ap liveness_of (sym e))
waits_not k (Some (Shook (Some v))) liveness e h = (refl, some_is h ∙ ap liveness_of (sym e))
waits_not k (Some (Shook None)) liveness e h = (refl, some_is h)
waits_not k (Some NoMagic) liveness e h = (refl, some_is h)
waits_not k (Some arrival.Idle) liveness e h = (refl, some_is h ∙ ap liveness_of (sym e))
waits_not k _ liveness e h = cc

pub settled_rests : (S : Setting) (c : ℕ) (ledger : List EntryView) (k : Kept) → IsPlaced k.waiting → RestsAs k (talk_of_due S c ledger k)
settled_rests S c ledger k p = let h = steps_rest S c (due k) ledger (heard_out k) refl p (omega arith) in (record { sent = h.0.sent; done = h.0.done }, h.1)

-- nothing follows an end
pub item_talk_over : (S : Setting) (c : ℕ) (xs : List Item) (ledger : List EntryView) (k : Kept) → IsSome k.ended → item_talk S c xs ledger k ≡ silent ledger k
item_talk_over S c [] ledger k e = refl
item_talk_over S c (x ∷ xs) ledger k e =
    by_option (λ o. IsSome o → unless_ended o (silent ledger k) (talk_then (due_of S c ledger k (as_item k x)) (item_talk S c xs)) ≡ silent ledger k) k.ended (λ cause _ e. refl) (λ _ e. cc) e

pub item_talk-append : (S : Setting) (c : ℕ) (xs ys : List Item) (ledger : List EntryView) (k : Kept) → item_talk S c (xs ++ ys) ledger k ≡ talk_then (item_talk S c xs ledger k) (item_talk S c ys)
item_talk-append S c [] ys ledger k = refl
item_talk-append S c (x ∷ xs) ys ledger k =
    let t = due_of S c ledger k (as_item k x) in
    let later = item_talk S c xs t.ledger t.kept in
    by_option (λ o. unless_ended o (silent ledger k) (talk_then t (item_talk S c (xs ++ ys))) ≡ talk_then (unless_ended o (silent ledger k) (talk_then t (item_talk S c xs))) (item_talk S c ys)) k.ended
    (λ cause e. sym (item_talk_over S c ys ledger k (subst IsSome (sym e) refl)))
    (λ e. ap (after_bytes t.out) (item_talk-append S c xs ys t.ledger t.kept) ∙ after_twice t.out later.out (item_talk S c ys later.ledger later.kept))

-- Between two items nothing is unsent, and nothing waits.
pub item_talk_rests : (S : Setting) (c : ℕ) (xs : List Item) (ledger : List EntryView) (k : Kept) → Rested k → Rested (item_talk S c xs ledger k).kept
item_talk_rests S c [] ledger k h = h
item_talk_rests S c (x ∷ xs) ledger k h =
    let t = due_of S c ledger k (as_item k x) in
    by_option (λ o. Rested (unless_ended o (silent ledger k) (talk_then t (item_talk S c xs))).kept) k.ended (λ cause e. h)
    (λ e. item_talk_rests S c xs t.ledger t.kept (settled_rests S c ledger (after_item k (Some (as_item k x))) (fed_placed k (Some (as_item k x)) (h.done e))).0)

pub item_talk_grows : (S : Setting) (c : ℕ) (xs : List Item) (ledger : List EntryView) (k : Kept) → Grown ledger (item_talk S c xs ledger k)
item_talk_grows S c [] ledger k = ([], append-nil ledger)
item_talk_grows S c (x ∷ xs) ledger k =
    let next = after_item k (Some (as_item k x)) in
    let t = talk_of_due S c ledger next in
    let a = steps_grow S c (due next) ledger (heard_out next) in
    let b = item_talk_grows S c xs t.ledger t.kept in
    by_option (λ o. Grown ledger (unless_ended o (silent ledger k) (talk_then t (item_talk S c xs)))) k.ended (λ cause e. ([], append-nil ledger)) (λ e. (a.0 ++ b.0, sym (append_assoc ledger a.0 b.0) ∙ ap (λ z. z ++ b.0) a.1 ∙ b.1))

-- One item more, or none.
pub one_item : (S : Setting) (c : ℕ) (o : Option Item) (ledger : List EntryView) (k : Kept) → Rested k → k.ended ≡ None → item_talk S c (option_to_list o) ledger k ≡ talk_of_due S c ledger (after_item k (arrival_of k o))
one_item S c None ledger k h e = sym (settled_silent S c (due k) ledger k h e)
one_item S c (Some x) ledger k h e =
    let t : Talk = talk_of_due S c ledger (after_item k (Some (arrives (version_of k) x))) in
    ap (λ (o : Option Cause). unless_ended o (silent ledger k) (talk_then t (item_talk S c []))) e ∙ ap (λ z. record { out = z; ledger = t.ledger; kept = t.kept }) (append-nil t.out)

-- A part of what it makes due.
part_of_one : (S : Setting) (c : ℕ) (o : Option Item) (ledger : List EntryView) (k : Kept) (t : Talk) → Rested k → k.ended ≡ None → IsPartOfDue S c ledger (after_item k (arrival_of k o)) t → ComesTo as_item S c (option_to_list o) ledger k t
part_of_one S c None ledger k t h e w = subst (ComesTo as_item S c [] ledger k) (sym (w.1 ∙ settled_silent S c w.0 ledger k h e)) (nothing_yet [] ledger k)
part_of_one S c (Some x) ledger k t h e w = part_of_first x [] ledger k t e w

no_end : (o : Option Cause) → IsSome o → o ≡ None → ⊥
no_end None i e = cc
no_end (Some cause) i e = cc

-- Nothing is done after an end, whatever comes.
comes_over : {A B : Type 0} {takes_as : Kept → A → Arrival} {takes_so : Kept → B → Arrival} {S : Setting} {c : ℕ} {xs : List A} {ledger : List EntryView} {k : Kept} {t : Talk} (ys : List B) → IsSome k.ended → ComesTo takes_as S c xs ledger k t → ComesTo takes_so S c ys ledger k t
comes_over ys i (nothing_yet xs ledger k) = nothing_yet ys ledger k
comes_over ys i (part_of_first x xs ledger k t e w) = absurd (no_end k.ended i e)
comes_over ys i (after_first x xs ledger k t e h) = absurd (no_end k.ended i e)

-- How far it may have come it may have come where more items follow, ..
comes_longer : {A : Type 0} {takes_as : Kept → A → Arrival} {S : Setting} {c : ℕ} {xs : List A} {ledger : List EntryView} {k : Kept} {t : Talk} (ys : List A) → ComesTo takes_as S c xs ledger k t → ComesTo takes_as S c (xs ++ ys) ledger k t
comes_longer ys (nothing_yet xs ledger k) = nothing_yet (xs ++ ys) ledger k
comes_longer ys (part_of_first x xs ledger k t e w) = part_of_first x (xs ++ ys) ledger k t e w
comes_longer ys (after_first x xs ledger k t e h) = after_first x (xs ++ ys) ledger k t e (comes_longer ys h)

-- .. so it may where items come before, ..
comes_later : (S : Setting) (c : ℕ) (xs ys : List Item) (ledger : List EntryView) (k : Kept) (t : Talk) → ComesTo as_item S c ys (item_talk S c xs ledger k).ledger (item_talk S c xs ledger k).kept t → ComesTo as_item S c (xs ++ ys) ledger k (after_bytes (item_talk S c xs ledger k).out t)
comes_later S c [] ys ledger k t h = h
comes_later S c (x ∷ xs) ys ledger k t h =
    let first = due_of S c ledger k (as_item k x) in
    let said : Option Cause → Talk = λ o. unless_ended o (silent ledger k) (talk_then first (item_talk S c xs)) in
    let next = item_talk S c xs first.ledger first.kept in
    by_option (λ o. ComesTo as_item S c ys (said o).ledger (said o).kept t → ComesTo as_item S c (x ∷ (xs ++ ys)) ledger k (after_bytes (said o).out t)) k.ended
    (λ cause e h. comes_over (x ∷ (xs ++ ys)) (subst IsSome (sym e) refl) h)
    (λ e h. subst (ComesTo as_item S c (x ∷ (xs ++ ys)) ledger k) (after_twice first.out next.out t) (after_first x (xs ++ ys) ledger k (after_bytes next.out t) e (comes_later S c xs ys first.ledger first.kept t h))) h

-- .. and it may have come to its end.
pub comes_whole : (S : Setting) (c : ℕ) (xs : List Item) (ledger : List EntryView) (k : Kept) → ComesTo as_item S c xs ledger k (item_talk S c xs ledger k)
comes_whole S c [] ledger k = nothing_yet [] ledger k
comes_whole S c (x ∷ xs) ledger k =
    let first = due_of S c ledger k (as_item k x) in
    by_option (λ o. ComesTo as_item S c (x ∷ xs) ledger k (unless_ended o (silent ledger k) (talk_then first (item_talk S c xs)))) k.ended
    (λ cause e. nothing_yet (x ∷ xs) ledger k) (λ e. after_first x xs ledger k (item_talk S c xs first.ledger first.kept) e (comes_whole S c xs first.ledger first.kept))

module _ {G : Type 0} (r : Rest G) (conn : ℕ) (S : Setting) where
  abbrev told : List ℕ → Talk
  told up = told_by r conn S up

  abbrev kept_at : List ℕ → Opened
  kept_at up = state at_server at_server.start up

  pub told_rests : (up : List ℕ) → Rested (told up).kept
  told_rests up = item_talk_rests S conn (items_received up) r.ledger begun (record { sent = refl; done = λ e. refl })

  -- a session that goes on isn't shut
  open_not_shut : (up : List ℕ) → (told up).kept.ended ≡ None → shut (told up).kept ≡ false
  open_not_shut up e = ap (λ (o : Option Cause). is_some o || unread_among (told up).kept.waiting) e ∙ ap unread_among ((told_rests up).done e)

  told_append : (up more : List ℕ) → told (up ++ more) ≡ talk_then (told up) (item_talk S conn (outputs at_server (kept_at up) more))
  told_append up more =
      ap (λ xs. item_talk S conn xs r.ledger begun) (outputs-append Opened Item at_server at_server.start up more)
      ∙ item_talk-append S conn (items_received up) (outputs at_server (kept_at up) more) r.ledger begun

  -- nothing more is said after an end
  pub told_over : (up more : List ℕ) → IsSome (told up).kept.ended → told (up ++ more) ≡ told up
  told_over up more e =
      told_append up more
      ∙ ap (after_bytes (told up).out) (item_talk_over S conn (outputs at_server (kept_at up) more) (told up).ledger (told up).kept e)
      ∙ ap (λ z. record { out = z; ledger = (told up).ledger; kept = (told up).kept }) (append-nil (told up).out)

  -- what broke off a conversation breaks off a longer one
  pub breaks_more : {IsSo : Talk → Type 0} (up more : List ℕ) → BreaksAt (told up) (told_to r conn S up) IsSo → BreaksAt (told (up ++ more)) (told_to r conn S (up ++ more)) IsSo
  breaks_more up more b =
      let items = outputs at_server (kept_at up) more in
      record {
        so_far = b.so_far;
        comes = subst (λ (xs : List Item). ComesTo as_item S conn xs r.ledger begun b.so_far) (sym (outputs-append Opened Item at_server at_server.start up more)) (comes_longer items b.comes);
        is_so = b.is_so;
        front = front_later b.front (subst (IsFront (told up)) (sym (told_append up more)) (front_then (told up) (item_talk S conn items) (item_talk_grows S conn items (told up).ledger (told up).kept)));
      }

  -- where all of it was done
  abbrev pub breaks_whole : {IsSo : Talk → Type 0} (up : List ℕ) → IsSo (told up) → BreaksAt (told up) (told_to r conn S up) IsSo
  breaks_whole up h = record { so_far = told up; comes = comes_whole S conn (items_received up) r.ledger begun; is_so = h; front = front_same (told up) }

  module _ (up piece : List ℕ) (goes_on : (told up).kept.ended ≡ None) where
    abbrev t : Took Opened Item
    t = takes at_server (kept_at up) piece

    abbrev next : Kept
    next = after_item (told up).kept (arrival_of (told up).kept t.item)

    abbrev then_said : Talk
    then_said = talk_of_due S conn (told up).ledger next

    pub next_placed : IsPlaced next.waiting
    next_placed = fed_placed (told up).kept (arrival_of (told up).kept t.item) ((told_rests up).done goes_on)

    kept_next : kept_at (up ++ take t.used piece) ≡ t.rest
    kept_next = state-append Opened Item at_server at_server.start up (take t.used piece) ∙ (takes_outputs Opened Item at_server (kept_at up) piece).1

    told_next : told (up ++ take t.used piece) ≡ after_bytes (told up).out then_said
    told_next =
        told_append up (take t.used piece)
        ∙ ap (λ xs. talk_then (told up) (item_talk S conn xs)) (takes_outputs Opened Item at_server (kept_at up) piece).0
        ∙ ap (after_bytes (told up).out) (one_item S conn t.item (told up).ledger (told up).kept (told_rests up) goes_on)

    comes_next : (s : Talk) → IsPartOfDue S conn (told up).ledger next s → told_to r conn S (up ++ take t.used piece) (after_bytes (told up).out s)
    comes_next s w =
        subst (λ (xs : List Item). ComesTo as_item S conn xs r.ledger begun (after_bytes (told up).out s))
        (sym (outputs-append Opened Item at_server at_server.start up (take t.used piece) ∙ ap (λ (xs : List Item). items_received up ++ xs) (takes_outputs Opened Item at_server (kept_at up) piece).0))
        (comes_later S conn (items_received up) (option_to_list t.item) r.ledger begun s (part_of_one S conn t.item (told up).ledger (told up).kept s (told_rests up) goes_on w))

    -- the talk once the item has arrived
    abbrev pub fed : Talk
    fed = record { out = (told up).out ++ next.unsent; ledger = (told up).ledger; kept = heard_out next }

    all_next : told (up ++ take t.used piece) ≡ settled S conn fed
    all_next = told_next ∙ after_twice (told up).out next.unsent (steps S conn (due next) (told up).ledger (heard_out next))

    -- the session holds what it held, and what it says to the item
    pub fed_holds : (i : IsSome (find conn r.sessions)) {before taken : SinkView} (old new : Rest G) → (h : HoldsAfter r conn S (λ x. old ≡ x) before taken up) → (took : AnyTook) → 0 < took.used → Feeds (feed_at conn piece) old new (Ok took)
        → (took ≡ (takes_item (told up).kept t).took) × Holds r conn t.rest fed (λ x. new ≡ x) before taken
    fed_holds i old new h took some feeds =
        let o = arrival_of (told up).kept t.item in
        let e = fed_item r conn i (kept_at up) (told up).ledger (record (told up).kept { unsent = h.held }) piece old new h.now took (open_not_shut up goes_on) some feeds in
        let same : after_item (record (told up).kept { unsent = h.held }) o ≡ behind h.held next = item_behind h.held (told up).kept o ∙ ap (λ (l : Kept). behind h.held (after_item l o)) (heard_same (told up).kept (told_rests up).sent) in (
          e.0,
          record {
            gone = h.gone;
            held = h.held ++ next.unsent;
            parts = sym (append_assoc h.gone h.held next.unsent) ∙ ap (λ (z : List ℕ). z ++ next.unsent) h.parts;
            took = h.took;
            now = e.1 ∙ ap (with_talk r conn t.rest (told up).ledger) same;
          },
        )

    module _ {Now : Rest G → Type 0} {before taken : SinkView} where
      pub one_taken : (used : ℕ) (liveness : Liveness) → used ≡ t.used → SettlesWhole r conn t.rest (settled S conn fed) Now before taken liveness → TakesOne r conn S Now before taken up piece (Ok (record { used = used; liveness = liveness }))
      one_taken used liveness e h =
          subst (λ (n : ℕ). TakesOne r conn S Now before taken up piece (Ok (record { used = n; liveness = liveness }))) (sym e)
          (subst (λ (x : Talk). Holds r conn (kept_at (up ++ take t.used piece)) x Now before taken × (liveness ≡ liveness_of x.kept.ended)) (sym all_next)
          (subst (λ (v : Opened). Holds r conn v (settled S conn fed) Now before taken) (sym kept_next) h.holds, h.stands))

      -- where no step is due
      pub one_rested : (used : ℕ) (liveness : Liveness) → used ≡ t.used → rest_after (what_of (arrival_of (told up).kept t.item)) ≡ Some liveness → Holds r conn t.rest fed Now before taken → TakesOne r conn S Now before taken up piece (Ok (record { used = used; liveness = liveness }))
      one_rested used liveness e rests h =
          let w = waits_not (told up).kept (arrival_of (told up).kept t.item) liveness goes_on rests in
          let none : due next ≡ 0 = ap (λ (xs : List Arrival). steps_due xs (length next.result.rows)) (w.0 ∙ (told_rests up).done goes_on) in
          let same : settled S conn fed ≡ fed = ap (λ (n : ℕ). talk_then fed (steps S conn n)) none ∙ silent_same fed in
          one_taken used liveness e (subst (λ (x : Talk). SettlesWhole r conn t.rest x Now before taken liveness) (sym same) (record { holds = h; stands = w.1 }))

      pub one_broken : BreaksAt (settled S conn fed) (IsPartSettled S conn fed) (HoldsPart r conn Now before taken) → BreaksHolding r conn S Now before taken (up ++ piece)
      one_broken h =
          let b : BreaksHolding r conn S Now before taken (up ++ take t.used piece) = record {
            so_far = h.so_far;
            comes = subst (told_to r conn S (up ++ take t.used piece)) (after_twice (told up).out next.unsent (steps S conn h.comes.0 (told up).ledger (heard_out next)) ∙ sym h.comes.1) (comes_next (after_bytes next.unsent (steps S conn h.comes.0 (told up).ledger (heard_out next))) (h.comes.0, refl));
            is_so = h.is_so;
            front = subst (IsFront h.so_far) (sym all_next) h.front;
          } in
          subst (λ (z : List ℕ). BreaksHolding r conn S Now before taken z) (append_assoc up (take t.used piece) (drop t.used piece) ∙ ap (λ z. up ++ z) (take-append-drop t.used piece)) (breaks_more (up ++ take t.used piece) (drop t.used piece) b)

    -- where nothing was taken
    pub none_taken : (i : IsSome (find conn r.sessions)) {before taken : SinkView} (old new : Rest G) → HoldsAfter r conn S (λ x. old ≡ x) before taken up → (fault : StreamFault) → Feeds (feed_at conn piece) old new (Err fault) → BreaksHolding r conn S (λ x. new ≡ x) before taken (up ++ piece)
    none_taken i old new h fault feeds =
        let k : Kept = record (told up).kept { unsent = h.held } in
        let e = fed_none r conn i (kept_at up) (told up).ledger k piece old new h.now fault feeds in
        breaks_more up piece (breaks_whole up (record { unfinished = e.0; kept = k; grows = part_held h.gone h.parts h.took.grows; known = part_held h.gone h.parts h.took.known; now = e.1 }))

pub open_goes_on : (o : Option Cause) → Open ≡ liveness_of o → o ≡ None
open_goes_on None e = refl
open_goes_on (Some c) e = cc

pub over_ended : (o : Option Cause) → Over ≡ liveness_of o → IsSome o
over_ended None e = cc
over_ended (Some c) e = refl

-- A front of a piece is taken, and the session goes on.
pub record Partly {G : Type 0} (r : Rest G) (conn : ℕ) (S : Setting) (before : SinkView) (up piece : List ℕ) (Now : Rest G → Type 0) (taken : SinkView) (rest : List ℕ) : Type 0 where
  pub done : List ℕ
  pub parts : done ++ rest ≡ piece
  pub live : (told_by r conn S (up ++ done)).kept.ended ≡ None
  pub stands : HoldsAfter r conn S Now before taken (up ++ done)

pub partly_begun : {G : Type 0} {r : Rest G} {conn : ℕ} {S : Setting} {before taken : SinkView} {up piece : List ℕ} {Now : Rest G → Type 0} → (told_by r conn S up).kept.ended ≡ None → HoldsAfter r conn S Now before taken up → Partly r conn S before up piece Now taken piece
partly_begun {r = r} {conn = conn} {S = S} {before = before} {taken = taken} {up = up} {Now = Now} e s =
    let same : up ≡ up ++ [] = sym (append-nil up) in
    record { done = []; parts = refl; live = subst (λ (z : List ℕ). (told_by r conn S z).kept.ended ≡ None) same e; stands = subst (HoldsAfter r conn S Now before taken) same s }

module _ {G : Type 0} {r : Rest G} {conn : ℕ} {S : Setting} {before old new : SinkView} {up piece rest : List ℕ} {Now Then : Rest G → Type 0} (p : Partly r conn S before up piece Now old rest) where
  pub partly_more : (taken : Taken) (after : List ℕ) → after ≡ drop taken.used rest → taken.liveness ≡ Open → TakesOne r conn S Then before new (up ++ p.done) rest (Ok taken) → Partly r conn S before up piece Then new after
  partly_more taken after a o h =
      let joined = append_assoc up p.done (take taken.used rest) in
      record {
        done = p.done ++ take taken.used rest;
        parts = fed_more p.done rest after piece taken.used p.parts a;
        live = subst (λ (z : List ℕ). (told_by r conn S z).kept.ended ≡ None) joined (open_goes_on _ (sym o ∙ h.1));
        stands = subst (HoldsAfter r conn S Then before new) joined h.0;
      }

  pub partly_over : (taken : Taken) → taken.liveness ≡ Over → TakesOne r conn S Then before new (up ++ p.done) rest (Ok taken) → TakesFront r conn S (HoldsAfter r conn S Then before new) up piece
  partly_over taken o h =
      let joined = append_assoc up p.done (take taken.used rest) in
      record {
        front = p.done ++ take taken.used rest;
        rest = drop taken.used rest;
        parts = fed_more p.done rest (drop taken.used rest) piece taken.used p.parts refl;
        stands = subst (HoldsAfter r conn S Then before new) joined h.0;
        over = subst (λ (z : List ℕ). IsSome (told_by r conn S z).kept.ended) joined (over_ended _ (sym o ∙ h.1));
      }

  pub partly_broken : BreaksHolding r conn S Then before new ((up ++ p.done) ++ rest) → BreaksHolding r conn S Then before new (up ++ piece)
  partly_broken h = subst (λ (z : List ℕ). BreaksHolding r conn S Then before new z) (append_assoc up p.done rest ∙ ap (λ z. up ++ z) p.parts) h

pub partly_whole : {G : Type 0} {r : Rest G} {conn : ℕ} {S : Setting} {before taken : SinkView} {up piece rest : List ℕ} {Now : Rest G → Type 0} → rest ≡ [] → Partly r conn S before up piece Now taken rest → TakesItems r conn S Now before taken up piece (Ok Open)
partly_whole {r = r} {conn = conn} {S = S} {before = before} {taken = taken} {up = up} {Now = Now} e p =
    let same = sym (append-nil p.done) ∙ ap (λ z. p.done ++ z) (sym e) ∙ p.parts in
    (subst (λ (z : List ℕ). HoldsAfter r conn S Now before taken (up ++ z)) same p.stands, subst (λ (z : List ℕ). (told_by r conn S (up ++ z)).kept.ended ≡ None) same p.live)

-- what stands for no request ends the session
ends_over : (S : Setting) (c : ℕ) (ledger : List EntryView) (k : Kept) (x : Arrival) → k.ended ≡ None → k.waiting ≡ [] → IsSome (talk_of_due S c ledger (record k { ended = None; waiting = x ∷ [] })).kept.ended
    → IsSome (talk_of_due S c ledger (record k { waiting = k.waiting ++ x ∷ [] })).kept.ended
ends_over S c ledger k x o w i =
    subst (λ (e : Option Cause). IsSome (talk_of_due S c ledger (record k { ended = e; waiting = k.waiting ++ x ∷ [] })).kept.ended) (sym o)
    (subst (λ (ws : List Arrival). IsSome (talk_of_due S c ledger (record k { ended = None; waiting = ws ++ x ∷ [] })).kept.ended) (sym w) i)

interrupts_version : (b : Bool) (k : Kept) → (if b then after_interrupt k else k).version ≡ k.version
interrupts_version true k = refl
interrupts_version false k = refl

-- What arrives and the items that it stands for, one for one, as far as a session goes on.
abbrev Alike : Setting → ℕ → List Arrival → List Item → List EntryView → Kept → Type 0
Alike S c [] [] ledger k = Unit {0}
Alike S c [] (y ∷ ys) ledger k = IsSome k.ended
Alike S c (x ∷ xs) [] ledger k = IsSome k.ended
Alike S c (x ∷ xs) (y ∷ ys) ledger k =
    let first = due_of S c ledger k (as_item k y) in
    IsSome k.ended ⊎ ((as_item k y ≡ x) × Alike S c xs ys first.ledger first.kept)

alike_over : (S : Setting) (c : ℕ) (ys : List Item) (ledger : List EntryView) (k : Kept) → IsSome k.ended → Alike S c [] ys ledger k
alike_over S c [] ledger k i = tt
alike_over S c (y ∷ ys) ledger k i = i

unless_over : (o : Option Cause) (over more : Talk) → IsSome o → unless_ended o over more ≡ over
unless_over (Some cause) over more i = refl
unless_over None over more i = cc

-- so both say the same, ..
alike_talk : (S : Setting) (c : ℕ) (xs : List Arrival) (ys : List Item) (ledger : List EntryView) (k : Kept) → Alike S c xs ys ledger k → talk_of_arrivals S c xs ledger k ≡ item_talk S c ys ledger k
alike_talk S c [] [] ledger k h = refl
alike_talk S c [] (y ∷ ys) ledger k h = sym (item_talk_over S c (y ∷ ys) ledger k h)
alike_talk S c (x ∷ xs) [] ledger k h = unless_over k.ended (silent ledger k) (talk_then (due_of S c ledger k x) (talk_of_arrivals S c xs)) h
alike_talk S c (x ∷ xs) (y ∷ ys) ledger k (inl h) = unless_over k.ended (silent ledger k) (talk_then (due_of S c ledger k x) (talk_of_arrivals S c xs)) h ∙ sym (item_talk_over S c (y ∷ ys) ledger k h)
alike_talk S c (x ∷ xs) (y ∷ ys) ledger k (inr h) =
    let first = due_of S c ledger k (as_item k y) in
    ap (λ (z : Arrival). talk_of_arrivals S c (z ∷ xs) ledger k) (sym h.0)
    ∙ ap (λ (z : Talk). unless_ended k.ended (silent ledger k) (after_bytes first.out z)) (alike_talk S c xs ys first.ledger first.kept h.1)

-- .. and come as far
alike_comes : (S : Setting) (c : ℕ) (xs : List Arrival) {ys : List Item} {ledger : List EntryView} {k : Kept} {t : Talk} → ComesTo as_item S c ys ledger k t → Alike S c xs ys ledger k → ComesTo as_it_is S c xs ledger k t
alike_comes S c xs (nothing_yet ys ledger k) h = nothing_yet xs ledger k
alike_comes S c [] (part_of_first y ys ledger k t e w) h = absurd (no_end k.ended h e)
alike_comes S c (x ∷ xs) (part_of_first y ys ledger k t e w) (inl h) = absurd (no_end k.ended h e)
alike_comes S c (x ∷ xs) (part_of_first y ys ledger k t e w) (inr h) = subst (λ (z : Arrival). ComesTo as_it_is S c (z ∷ xs) ledger k t) h.0 (part_of_first (as_item k y) xs ledger k t e w)
alike_comes S c [] (after_first y ys ledger k t e f) h = absurd (no_end k.ended h e)
alike_comes S c (x ∷ xs) (after_first y ys ledger k t e f) (inl h) = absurd (no_end k.ended h e)
alike_comes S c (x ∷ xs) (after_first y ys ledger k t e f) (inr h) =
    subst (λ (z : Arrival). ComesTo as_it_is S c (z ∷ xs) ledger k (after_bytes (due_of S c ledger k (as_item k y)).out t)) h.0
    (after_first (as_item k y) xs ledger k t e (alike_comes S c xs f h.1))

module _ (S : Setting) (c : ℕ) (v : Version) where
  abbrev Same : List Item → Type 0
  Same ys = (ledger : List EntryView) (k : Kept) → Rested k → k.version ≡ Some v → Alike S c (requests_in v ys) ys ledger k

  abbrev Follows : List Arrival → List Item → List EntryView → Kept → Arrival → Type 0
  Follows xs ys ledger k a = Alike S c xs ys (due_of S c ledger k a).ledger (due_of S c ledger k a).kept

  -- what follows one that arrives
  one_more : (x : Arrival) (xs : List Arrival) (y : Item) (ys : List Item) (ledger : List EntryView) (k : Kept) → arrives v y ≡ x → k.version ≡ Some v → (k.ended ≡ None → Follows xs ys ledger k x) → Alike S c (x ∷ xs) (y ∷ ys) ledger k
  one_more x xs y ys ledger k a e f = by_option (λ o. IsSome k.ended ⊎ ((as_item k y ≡ x) × Follows xs ys ledger k (as_item k y))) k.ended (λ cause q. inl (subst IsSome (sym q) refl)) (λ q. inr (is, subst (Follows xs ys ledger k) (sym is) (f q)))
    where
      known : (o : Option Version) → o ≡ Some v → version_of (record k { version = o }) ≡ v
      known None e = cc
      known (Some w) e = cc

      is : as_item k y ≡ x
      is = subst (λ (w : Version). arrives w y ≡ x) (sym (known k.version e)) a

  goes_on : (x : Arrival) (ys : List Item) (ledger : List EntryView) (k : Kept) → Rested k → k.version ≡ Some v → ((after_item k (Some x)).version ≡ k.version) → Same ys → k.ended ≡ None → Follows (requests_in v ys) ys ledger k x
  goes_on x ys ledger k h e kept more o =
      let t = due_of S c ledger k x in
      let a = settled_rests S c ledger (after_item k (Some x)) (fed_placed k (Some x) (h.done o)) in
      more t.ledger t.kept a.0 (a.1 ∙ kept ∙ e)

  stops : (x : Arrival) (ys : List Item) (ledger : List EntryView) (k : Kept) → IsSome (due_of S c ledger k x).kept.ended → Follows [] ys ledger k x
  stops x ys ledger k i = let t = due_of S c ledger k x in alike_over S c ys t.ledger t.kept i

  pub same_asked : (ys : List Item) → AreChunks ys → Same ys
  same_asked [] a ledger k h e = tt
  same_asked (Opening b ∷ ys) a ledger k h e = absurd a.0
  same_asked (Noop ∷ ys) a ledger k h e = one_more arrival.Idle (requests_in v ys) Noop ys ledger k refl e (goes_on arrival.Idle ys ledger k h e refl (same_asked ys a.1))
  same_asked (TooBig ∷ ys) a ledger k h e = one_more TooLong [] TooBig ys ledger k refl e (λ o. stops TooLong ys ledger k (ends_over S c ledger k TooLong o (h.done o) refl))
  same_asked (Message b ∷ ys) a ledger k h e = go (request_of v b) refl (same_asked ys a.1)
    where
      go : (q : Result RequestView MsgFault) → request_of v b ≡ q → Same ys → Alike S c (then_request q (requests_in v ys)) (Message b ∷ ys) ledger k
      go (Ok q) f more = one_more (Asked q) (requests_in v ys) (Message b) ys ledger k (ap arrival_by f) e (goes_on (Asked q) ys ledger k h e (interrupts_version (is_reset (kind_of q) && interruptible k.state) (record k { waiting = k.waiting ++ Asked q ∷ [] })) more)
      go (Err x) f more = one_more (Unread x) [] (Message b) ys ledger k (ap arrival_by f) e (λ o. stops (Unread x) ys ledger k (ends_over S c ledger k (Unread x) o (h.done o) refl))

-- The offer, and what follows it.
module _ (S : Setting) (c : ℕ) (ledger : List EntryView) where
  abbrev After : Arrival → List Item → Type 0
  After x ys = Alike S c (after_shake x ys) ys (due_of S c ledger begun x).ledger (due_of S c ledger begun x).kept

  after_offer : (o : Option Version) (ys : List Item) → AreChunks ys → After (Shook o) ys
  after_offer None ys a = let t = due_of S c ledger begun (Shook None) in alike_over S c ys t.ledger t.kept refl
  after_offer (Some v) ys a =
      let t = due_of S c ledger begun (Shook (Some v)) in
      same_asked S c v ys a t.ledger t.kept (record { sent = refl; done = λ e. refl }) refl

  after_opening : (b : Bool) (o : Option Version) (ys : List Item) → AreChunks ys → After (if b then Shook o else NoMagic) ys
  after_opening true o ys a = after_offer o ys a
  after_opening false o ys a = let t = due_of S c ledger begun NoMagic in alike_over S c ys t.ledger t.kept refl

  by_came : (xs : List Item) (u : Opened) → Came 20 xs u → Alike S c (arrivals_of xs) xs ledger begun
  by_came xs u (part bytes e s) = subst (λ (zs : List Item). Alike S c (arrivals_of zs) zs ledger begun) (sym e) tt
  by_came xs u (whole bytes ys w e a s) =
      subst (λ (zs : List Item). Alike S c (arrivals_of zs) zs ledger begun) (sym e)
      (inr (refl, after_opening (bytes_eq (take 4 bytes) magic) (version_taken (drop 4 bytes)) ys a))

  arrives_alike : (bytes : List ℕ) → Alike S c (arrivals bytes) (items_received bytes) ledger begun
  arrives_alike bytes = by_came (items_received bytes) (state at_server at_server.start bytes) (came 20 [] bytes)

  pub talk_by_items : (bytes : List ℕ) → conversation S c ledger bytes ≡ item_talk S c (items_received bytes) ledger begun
  talk_by_items bytes = alike_talk S c (arrivals bytes) (items_received bytes) ledger begun (arrives_alike bytes)

  pub comes_by_items : (bytes : List ℕ) (t : Talk) → ComesTo as_item S c (items_received bytes) ledger begun t → ConversationComesTo S c ledger bytes t
  comes_by_items bytes t h = alike_comes S c (arrivals bytes) h (arrives_alike bytes)
