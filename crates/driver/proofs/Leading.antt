-- How calls lead on, one after the other.
use Rattle.std.proofs.Common.{◌≡◌, refl, sym, ◌∙◌, ap, subst, ℕ, Bool, true, false, ◌||◌, if◌then◌else◌, Option, Some, None, Result, Ok, Err, is_ok, true≢false, List, [], ◌∷◌, ◌++◌, length, map, take, append_assoc, append-nil, arith}
use Rattle.std.proofs.lemmas.List.{map-append, take_all}
use Rattle.wire.specs.Prelude.{takes, at_client, Item}
use Rattle.messages.specs.Prelude.{RequestView}
use Rattle.client.specs.declared.ClientFault.{ClientFault}
use Rattle.client.specs.declared.ClientFault.TheVariants as client_fault
use Rattle.client.specs.Prelude.{Rest, Fed, Note, used_of, feed_of, fed_item, fed_open, note_of, heard_as, hears_item, Feeds as FeedsPiece, call}
use Rattle.client.proofs.Makes.{makes, spoiled_over}
use Rattle.client_tracking.specs.declared.faults.FeedFault.{FeedFault}
use Rattle.client_tracking.specs.declared.faults.FeedFault.TheVariants as feed_fault
use Rattle.client_tracking.specs.Feeding.{is_full, Tracked, with_answer, used_by, tracked_feed}
use Rattle.client_tracking.specs.Runs.{TrackedCall, Hears as HearsPiece, Sends, IsLost, TrackedRun, tracked_call, tracked_calls}
use Rattle.driver.specs.Prelude.{Stand, stand_in, GoesOn, Leads, heard_count, heard_stand, lost_stand, taken_stand, emptied_stand, Hears, Accepted, Accepts}

or_assoc : (a b c : Bool) → ((a || b) || c) ≡ (a || (b || c))
or_assoc true b c = refl
or_assoc false b c = refl

or_false : (a : Bool) → a ≡ (a || false)
or_false true = refl
or_false false = refl

pub calls_append : (x : TrackedRun) (cs ds : List TrackedCall) → tracked_calls x (cs ++ ds) ≡ tracked_calls (tracked_calls x cs) ds
calls_append x [] ds = refl
calls_append x (c ∷ cs) ds = calls_append (tracked_call x c) cs ds

pub leads_nowhere : (s : Stand) → Leads s [] s [] [] [] false
leads_nowhere s x e = record { stands = e; sent = sym (append-nil x.run.sent); took = sym (append-nil x.run.took); put = sym (append-nil x.run.out); lose = or_false x.run.lost }

pub leads_on : {a b c : Stand} (cs ds : List TrackedCall) {asked more : List RequestView} {bytes later out next : List ℕ} {l m : Bool} → Leads a cs b asked bytes out l → Leads b ds c more later next m → Leads a (cs ++ ds) c (asked ++ more) (bytes ++ later) (out ++ next) (l || m)
leads_on {a = a} {b = b} {c = c} cs ds {asked = asked} {more = more} {bytes = bytes} {later = later} {out = out} {next = next} {l = l} {m = m} f g x e =
    let p = f x e in
    let y = tracked_calls x cs in
    let q = g y p.stands in
    subst (λ z. GoesOn x z c (asked ++ more) (bytes ++ later) (out ++ next) (l || m)) (sym (calls_append x cs ds))
    (record {
      stands = q.stands;
      sent = q.sent ∙ ap (λ l. l ++ more) p.sent ∙ append_assoc x.run.sent asked more;
      took = q.took ∙ ap (λ l. l ++ later) p.took ∙ append_assoc x.run.took bytes later;
      put = q.put ∙ ap (λ l. l ++ next) p.put ∙ append_assoc x.run.out out next;
      lose = q.lose ∙ ap (λ b. b || m) p.lose ∙ or_assoc x.run.lost l m;
    })

-- by one call
hears_run : (x : TrackedRun) (piece : List ℕ) → GoesOn x (tracked_call x (HearsPiece piece)) (heard_stand (stand_in x) piece) [] (take (heard_count (stand_in x) piece) piece) [] false
hears_run x piece = go (is_full x.run.rest.knows x.account)
  where
    go : (b : Bool)
        → let t : Tracked = (if b then record { rest = x.run.rest; account = x.account; answer = Err feed_fault.Full } else record { rest = (feed_of x.run.rest piece).rest; account = with_answer x.account (feed_of x.run.rest piece).answer; answer = used_by (feed_of x.run.rest piece).answer }) in
        let s : Stand = record { rest = t.rest; account = t.account } in
        GoesOn x (record x { run = (if b then x.run else call x.run (FeedsPiece piece)); account = t.account }) s [] (take (if b then 0 else used_of x.run.rest piece) piece) [] false
    go true = record { stands = refl; sent = sym (append-nil x.run.sent); took = sym (append-nil x.run.took); put = sym (append-nil x.run.out); lose = or_false x.run.lost }
    go false = record { stands = refl; sent = sym (append-nil x.run.sent); took = refl; put = sym (append-nil x.run.out); lose = or_false x.run.lost }

pub leads_hears : (s : Stand) (piece : List ℕ) → Leads s (HearsPiece piece ∷ []) (heard_stand s piece) [] (take (heard_count s piece) piece) [] false
leads_hears s piece x e = subst (λ (z : Stand). GoesOn x (tracked_call x (HearsPiece piece)) (heard_stand z piece) [] (take (heard_count z piece) piece) [] false) e (hears_run x piece)

-- all that waits is put out
pub leads_out : (s : Stand) → Leads s (Sends (length s.rest.unsent) ∷ []) (emptied_stand s) [] [] s.rest.unsent false
leads_out s x e = record {
  stands = ap (λ (z : Stand). taken_stand z (length s.rest.unsent)) e;
  sent = sym (append-nil x.run.sent);
  took = sym (append-nil x.run.took);
  put = ap (λ (z : Stand). x.run.out ++ take (length s.rest.unsent) z.rest.unsent) e ∙ ap (λ l. x.run.out ++ l) (take_all (length s.rest.unsent) s.rest.unsent (omega arith));
  lose = or_false x.run.lost;
}

pub leads_lost : (s : Stand) → Leads s (IsLost ∷ []) (lost_stand s) [] [] [] true
leads_lost s x e = record { stands = ap lost_stand e; sent = sym (append-nil x.run.sent); took = sym (append-nil x.run.took); put = sym (append-nil x.run.out); lose = or_true x.run.lost }
  where
    or_true : (b : Bool) → true ≡ (b || true)
    or_true true = refl
    or_true false = refl

-- how many bytes a feed answers
pub used_is : (s : Stand) (piece : List ℕ) (used : ℕ) → Ok used ≡ (tracked_feed s.rest s.account piece).answer → heard_count s piece ≡ used
used_is s piece used e = go (is_full s.rest.knows s.account) e
  where
    by_item : (r : Rest) (n : ℕ) (o : Option Item) → Ok used ≡ used_by (fed_item r n o).answer → n ≡ used
    by_item r n None h = cc
    by_item r n (Some y) h = by_bad (hears_item r.wish r.knows (heard_as r.knows.version y)).bad h
      where
        by_bad : (b : Bool) → Ok used ≡ used_by (if b then Err client_fault.BadPeer else Ok (n, note_of (heard_as r.knows.version y) (hears_item r.wish r.knows (heard_as r.knows.version y)))) → n ≡ used
        by_bad true k = absurd cc
        by_bad false k = cc

    opened : (b : Bool) → Ok used ≡ used_by (let f : Fed = (if b then record { rest = s.rest; answer = Err client_fault.Closed } else fed_open s.rest (takes at_client s.rest.item piece)) in f.answer) → (if b then 0 else (takes at_client s.rest.item piece).used) ≡ used
    opened true h = absurd cc
    opened false h = by_item (record s.rest { item = (takes at_client s.rest.item piece).rest }) (takes at_client s.rest.item piece).used (takes at_client s.rest.item piece).item h

    go : (b : Bool) → Ok used ≡ (let t : Tracked = (if b then record { rest = s.rest; account = s.account; answer = Err feed_fault.Full } else record { rest = (feed_of s.rest piece).rest; account = with_answer s.account (feed_of s.rest piece).answer; answer = used_by (feed_of s.rest piece).answer }) in t.answer) → (if b then 0 else used_of s.rest piece) ≡ used
    go true h = absurd cc
    go false h = opened s.rest.knows.over h

-- a piece that isn't used, but for rows that have to be taken first, leaves a client that has ended
pub refused_over : (s : Stand) (piece : List ℕ) (f : FeedFault) → Err f ≡ (tracked_feed s.rest s.account piece).answer → (f ≡ feed_fault.Full → ⊥) → (heard_stand s piece).rest.knows.over ≡ true
refused_over s piece f e not_full = go (is_full s.rest.knows s.account) e
  where
    by_item : (r : Rest) (n : ℕ) (o : Option Item) → Err f ≡ used_by (fed_item r n o).answer → (fed_item r n o).rest.knows.over ≡ true
    by_item r n None h = cc
    by_item r n (Some y) h = by_bad (hears_item r.wish r.knows (heard_as r.knows.version y)).bad refl h
      where
        by_bad : (b : Bool) → (hears_item r.wish r.knows (heard_as r.knows.version y)).bad ≡ b
            → Err f ≡ used_by (if b then Err client_fault.BadPeer else Ok (n, note_of (heard_as r.knows.version y) (hears_item r.wish r.knows (heard_as r.knows.version y))))
            → (hears_item r.wish r.knows (heard_as r.knows.version y)).knows.over ≡ true
        by_bad true bad k = spoiled_over r.wish r.knows (heard_as r.knows.version y) (hears_item r.wish r.knows (heard_as r.knows.version y)) (makes r.wish r.knows (heard_as r.knows.version y)) bad
        by_bad false bad k = cc

    opened : (b : Bool) → s.rest.knows.over ≡ b → Err f ≡ used_by (let g : Fed = (if b then record { rest = s.rest; answer = Err client_fault.Closed } else fed_open s.rest (takes at_client s.rest.item piece)) in g.answer)
        → (let g : Fed = (if b then record { rest = s.rest; answer = Err client_fault.Closed } else fed_open s.rest (takes at_client s.rest.item piece)) in g.rest.knows.over) ≡ true
    opened true o h = o
    opened false o h = by_item (record s.rest { item = (takes at_client s.rest.item piece).rest }) (takes at_client s.rest.item piece).used (takes at_client s.rest.item piece).item h

    go : (b : Bool)
        → Err f ≡ (let t : Tracked = (if b then record { rest = s.rest; account = s.account; answer = Err feed_fault.Full } else record { rest = (feed_of s.rest piece).rest; account = with_answer s.account (feed_of s.rest piece).answer; answer = used_by (feed_of s.rest piece).answer }) in t.answer)
        → (let t : Tracked = (if b then record { rest = s.rest; account = s.account; answer = Err feed_fault.Full } else record { rest = (feed_of s.rest piece).rest; account = with_answer s.account (feed_of s.rest piece).answer; answer = used_by (feed_of s.rest piece).answer }) in t.rest.knows.over) ≡ true
    go true h = absurd (not_full cc)
    go false h = opened s.rest.knows.over refl h

-- an open client doesn't say that it has ended
pub refused_closed : (s : Stand) (piece : List ℕ) → Err feed_fault.Closed ≡ (tracked_feed s.rest s.account piece).answer → s.rest.knows.over ≡ false → ⊥
refused_closed s piece e is_open = go (is_full s.rest.knows s.account) e
  where
    by_item : (r : Rest) (n : ℕ) (o : Option Item) → Err feed_fault.Closed ≡ used_by (fed_item r n o).answer → ⊥
    by_item r n None h = cc
    by_item r n (Some y) h = by_bad (hears_item r.wish r.knows (heard_as r.knows.version y)).bad h
      where
        by_bad : (b : Bool) → Err feed_fault.Closed ≡ used_by (if b then Err client_fault.BadPeer else Ok (n, note_of (heard_as r.knows.version y) (hears_item r.wish r.knows (heard_as r.knows.version y)))) → ⊥
        by_bad true k = cc
        by_bad false k = cc

    opened : (b : Bool) → b ≡ false → Err feed_fault.Closed ≡ used_by (let g : Fed = (if b then record { rest = s.rest; answer = Err client_fault.Closed } else fed_open s.rest (takes at_client s.rest.item piece)) in g.answer) → ⊥
    opened true o h = true≢false o
    opened false o h = by_item (record s.rest { item = (takes at_client s.rest.item piece).rest }) (takes at_client s.rest.item piece).used (takes at_client s.rest.item piece).item h

    go : (b : Bool) → Err feed_fault.Closed ≡ (let t : Tracked = (if b then record { rest = s.rest; account = s.account; answer = Err feed_fault.Full } else record { rest = (feed_of s.rest piece).rest; account = with_answer s.account (feed_of s.rest piece).answer; answer = used_by (feed_of s.rest piece).answer }) in t.answer) → ⊥
    go true h = cc
    go false h = opened s.rest.knows.over is_open h

-- the client itself has no limit of rows
unlimited : (x : Result (ℕ × Note) ClientFault) → used_by x ≡ Err feed_fault.Full → ⊥
unlimited (Ok used) e = cc
unlimited (Err client_fault.Closed) e = cc
unlimited (Err client_fault.Memory) e = cc
unlimited (Err client_fault.BadPeer) e = cc

-- if rows have to be taken first, nothing has changed
pub refused_full : (s : Stand) (piece : List ℕ) → (tracked_feed s.rest s.account piece).answer ≡ Err feed_fault.Full → (is_full s.rest.knows s.account ≡ true) × (heard_stand s piece ≡ s) × (heard_count s piece ≡ 0)
refused_full s piece e = go (is_full s.rest.knows s.account) e
  where
    go : (b : Bool)
        → (let t : Tracked = (if b then record { rest = s.rest; account = s.account; answer = Err feed_fault.Full } else record { rest = (feed_of s.rest piece).rest; account = with_answer s.account (feed_of s.rest piece).answer; answer = used_by (feed_of s.rest piece).answer }) in t.answer) ≡ Err feed_fault.Full
        → (b ≡ true)
        × ((let t : Tracked = (if b then record { rest = s.rest; account = s.account; answer = Err feed_fault.Full } else record { rest = (feed_of s.rest piece).rest; account = with_answer s.account (feed_of s.rest piece).answer; answer = used_by (feed_of s.rest piece).answer }) in let z : Stand = record { rest = t.rest; account = t.account } in z) ≡ s)
        × ((if b then 0 else used_of s.rest piece) ≡ 0)
    go true h = (refl, refl, refl)
    go false h = absurd (unlimited (feed_of s.rest piece).answer h)

-- by pieces, one after the other
pub hears_none : (s : Stand) → Hears s s []
hears_none s = record { pieces = []; leads = leads_nowhere s }

pub hears_on : {a b c : Stand} {bytes later : List ℕ} → Hears a b bytes → Hears b c later → Hears a c (bytes ++ later)
hears_on {a = a} {b = b} {c = c} {bytes = bytes} {later = later} f g = record {
  pieces = f.pieces ++ g.pieces;
  leads = subst (λ cs. Leads a cs c [] (bytes ++ later) [] false) (sym (map-append HearsPiece f.pieces g.pieces)) (leads_on (map HearsPiece f.pieces) (map HearsPiece g.pieces) f.leads g.leads);
}

pub hears_piece : (s : Stand) (piece : List ℕ) → Hears s (heard_stand s piece) (take (heard_count s piece) piece)
hears_piece s piece = record { pieces = piece ∷ []; leads = leads_hears s piece }

-- pieces that the client accepts, one after the other
pub accepts_none : (s : Stand) → Accepts s s []
accepts_none s = record { hears = record { pieces = []; leads = leads_nowhere s }; accepted = refl }

accepted_on : (a b c : Stand) (xs ys : List (List ℕ)) → Accepted a xs b → Accepted b ys c → Accepted a (xs ++ ys) c
accepted_on a b c [] ys f g = subst (λ (s : Stand). Accepted s ys c) f g
accepted_on a b c (x ∷ xs) ys f g = (f.0, accepted_on (heard_stand a x) b c xs ys f.1 g)

pub accepts_on : {a b c : Stand} {bytes later : List ℕ} → Accepts a b bytes → Accepts b c later → Accepts a c (bytes ++ later)
accepts_on {a = a} {b = b} {c = c} {bytes = bytes} {later = later} f g = record {
  hears = record {
    pieces = f.hears.pieces ++ g.hears.pieces;
    leads = subst (λ cs. Leads a cs c [] (bytes ++ later) [] false) (sym (map-append HearsPiece f.hears.pieces g.hears.pieces)) (leads_on (map HearsPiece f.hears.pieces) (map HearsPiece g.hears.pieces) f.hears.leads g.hears.leads);
  };
  accepted = accepted_on a b c f.hears.pieces g.hears.pieces f.accepted g.accepted;
}

pub accepts_piece : (s : Stand) (piece : List ℕ) (used : ℕ) → Ok used ≡ (tracked_feed s.rest s.account piece).answer → Accepts s (heard_stand s piece) (take used piece)
accepts_piece s piece used e = record {
  hears = record {
    pieces = piece ∷ [];
    leads = subst (λ n. Leads s (HearsPiece piece ∷ []) (heard_stand s piece) [] (take n piece) [] false) (used_is s piece used e) (leads_hears s piece);
  };
  accepted = (ap is_ok (sym e), refl);
}
