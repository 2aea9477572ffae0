-- Why the last exchange of an attempt stopped, by the bytes that its client took.
use Rattle.std.proofs.Common.{◌≡◌, refl, sym, ◌∙◌, ap, ap₂, subst, ℕ, ◌<◌, ◌≤◌, ◌==◌, nat_lt, nat_le, Bool, true, false, not, ◌&&◌, ◌||◌, if◌then◌else◌, Option, Some, None, option_map, option_to_list, Result, Ok, Err, is_ok, List, [], ◌∷◌, ◌++◌, length, map, take, append_assoc, append-nil, true≢false, arith}
use Rattle.std.proofs.lemmas.Bool.{or_parts}
use Rattle.packstream.specs.Tree.{Tree}
use Rattle.wire.specs.declared.Wish.{Wish}
use Rattle.wire.specs.Prelude.{Took, state, takes, Item, Opened, at_client}
use Rattle.messages.specs.Prelude.{RequestView, Heard, hears}
use Rattle.client.specs.declared.ClientFault.{ClientFault}
use Rattle.client.specs.declared.ClientFault.TheVariants as client_fault
use Rattle.client.specs.Prelude.{Knows, Rest, Note, note_of, heard_as, hears_item, Fed, fed_item, fed_open, feed_of, Reading, knows_of, reading, reading_of, awaits, used_of, IsByBytes}
use Rattle.client.proofs.Fed.{rest_at}
use Rattle.client.proofs.Fed as fed
use Rattle.client.proofs.Hears.{more_heard}
use Rattle.client_tracking.specs.declared.faults.FeedFault.{FeedFault}
use Rattle.client_tracking.specs.declared.faults.FeedFault.TheVariants as feed_fault
use Rattle.client_tracking.specs.Attempts.{Attempt}
use Rattle.client_tracking.specs.Feeding.{is_full, Tracked, with_answer, used_by, tracked_feed}
use Rattle.client_tracking.specs.Runs.{TrackedCall, Hears as HearsPiece, TrackedRun, tracking, tracked_call, tracked_calls}
use Rattle.client_tracking.proofs.Accounts.{run_by_bytes}
use Rattle.client_tracking.proofs.FewRows.{keeps_few_rows}
use Rattle.driver.specs.declared.breaks.Break.{Break}
use Rattle.driver.specs.declared.breaks.Break.TheVariants as break
use Rattle.driver.specs.Prelude.{Stand, stand_in, GoesOn, heard_count, heard_stand, Hears, Accepted, Accepts, NeedsMemory, IsBadAnswer, Stops, known_at_end, AttemptStops}
use Rattle.driver.proofs.Leading.{calls_append, leads_hears}

-- a client says of a piece that the server's answer is bad
abbrev is_bad : Result (ℕ × Note) ClientFault → Bool
is_bad (Err client_fault.BadPeer) = true
is_bad answer = false

-- The reading of the bytes is bad exactly if the client says so of the piece that was fed last.
module _ (wish : Wish) (sent : List RequestView) (unsent bytes : List ℕ) (on : ((reading_of wish sent bytes).ended ≡ false) × ((reading_of wish sent bytes).bad ≡ false)) (piece : List ℕ) where
  abbrev r : Reading
  r = reading_of wish sent bytes

  abbrev before : Rest
  before = rest_at wish sent unsent bytes

  abbrev t : Took Opened Item
  t = takes at_client (state at_client at_client.start bytes) piece

  abbrev read_with : Option Item → Reading
  read_with o = reading wish sent (option_to_list (option_map (heard_as r.version) o) ++ hears bytes)

  by_item : (o : Option Item) → (read_with o).bad ≡ is_bad (fed_item (record before { item = t.rest }) t.used o).answer
  by_item None = on.1
  by_item (Some x) =
      let y : Heard = heard_as r.version x in
      ap (λ (z : Reading). z.bad) (fed.one_more wish sent unsent bytes on piece x) ∙ by_bad (hears_item wish (knows_of r sent false) y).bad y
    where
      by_bad : (b : Bool) (y : Heard) → b ≡ is_bad (if b then Err client_fault.BadPeer else Ok (t.used, note_of y (hears_item wish (knows_of r sent false) y)))
      by_bad true y = refl
      by_bad false y = refl

  goes : (r.ended || r.bad) ≡ false
  goes = ap₂ (λ a b. a || b) on.0 on.1

  pub bad_then : (reading_of wish sent (bytes ++ take t.used piece)).bad ≡ is_bad (feed_of before piece).answer
  bad_then =
      ap (λ l. (reading wish sent l).bad) (more_heard wish sent bytes on piece)
      ∙ subst (λ b. (read_with t.item).bad ≡ is_bad (let f : Fed = (if b then record { rest = before; answer = Err client_fault.Closed } else fed_open before t) in f.answer)) (sym goes) (by_item t.item)

-- only an open client refuses or accepts a message
open_if : (P : Result ℕ FeedFault → Type 0) → (P (Err feed_fault.Full) → ⊥) → (P (Err feed_fault.Closed) → ⊥) → (s : Stand) (piece : List ℕ) → P (tracked_feed s.rest s.account piece).answer → s.rest.knows.over ≡ false
open_if P full closed s piece h = go (is_full s.rest.knows s.account) h
  where
    opened : (b : Bool) → P (used_by (let f : Fed = (if b then record { rest = s.rest; answer = Err client_fault.Closed } else fed_open s.rest (takes at_client s.rest.item piece)) in f.answer)) → b ≡ false
    opened true k = absurd (closed k)
    opened false k = refl

    go : (b : Bool) → P (let t : Tracked = (if b then record { rest = s.rest; account = s.account; answer = Err feed_fault.Full } else record { rest = (feed_of s.rest piece).rest; account = with_answer s.account (feed_of s.rest piece).answer; answer = used_by (feed_of s.rest piece).answer }) in t.answer) → s.rest.knows.over ≡ false
    go true k = absurd (full k)
    go false k = opened s.rest.knows.over k

-- a bad answer is one by the client's own answer
bad_by : (x : Result (ℕ × Note) ClientFault) → used_by x ≡ Err feed_fault.BadPeer → is_bad x ≡ true
bad_by (Ok used) e = cc
bad_by (Err client_fault.Closed) e = cc
bad_by (Err client_fault.Memory) e = cc
bad_by (Err client_fault.BadPeer) e = refl

good_by : (x : Result (ℕ × Note) ClientFault) → is_ok (used_by x) ≡ true → is_bad x ≡ false
good_by (Ok used) e = refl
good_by (Err client_fault.Closed) e = cc
good_by (Err client_fault.Memory) e = cc
good_by (Err client_fault.BadPeer) e = cc

-- if no row is held, none has to be taken first
none_full : (k : Bool) (l m limit : ℕ) (rows : List (List Tree)) → length rows ≤ 0 → (k && ((l == 1) && ((m == 0) && (nat_lt 0 (length rows) && nat_le limit (length rows))))) ≡ false
none_full k l m limit [] few = nothing k (l == 1) (m == 0)
  where
    nothing : (a b c : Bool) → (a && (b && (c && false))) ≡ false
    nothing true true true = refl
    nothing true true false = refl
    nothing true false c = refl
    nothing false b c = refl
none_full k l m limit (row ∷ rows) few = absurd (omega (arith, few))

-- a client that keeps no rows is never full
never_full : (wish : Wish) (x : TrackedRun) → length x.account.rows ≤ 0 → is_full x.run.rest.knows x.account ≡ false
never_full wish x few = none_full (not x.run.rest.knows.over) (length x.run.rest.knows.waiting) x.account.left x.account.limit x.account.rows few

module _ (wish : Wish) where
  abbrev run_of : List TrackedCall → TrackedRun
  run_of cs = tracked_calls (tracking wish 0) cs

  -- true if these bytes, after those that the client took, are a bad answer
  abbrev is_bad_with : TrackedRun → List ℕ → Bool
  is_bad_with x bytes = (reading_of wish x.run.sent (x.run.took ++ bytes)).bad

  module _ (x : TrackedRun) (by : IsByBytes wish x.run) (unlost : x.run.lost ≡ false) where
    abbrev made : Reading
    made = reading_of wish x.run.sent x.run.took

    pub knows_it : x.run.rest.knows ≡ knows_of made x.run.sent false
    knows_it = by.knows ∙ ap (knows_of made x.run.sent) unlost

    pub on : x.run.rest.knows.over ≡ false → (made.ended ≡ false) × (made.bad ≡ false)
    on is_open = or_parts made.ended made.bad (sym (ap (λ (k : Knows). k.over) knows_it) ∙ is_open)

    stands : x.run.rest ≡ rest_at wish x.run.sent x.run.rest.unsent x.run.took
    stands =
        ap₂ (λ w (z : Knows × Opened). record x.run.rest { wish = w; knows = z.0; item = z.1 }) by.wished
        (ap₂ (λ (k : Knows) (i : Opened). (k, i)) knows_it by.item)

    -- a piece more
    pub fed_bad : length x.account.rows ≤ 0 → x.run.rest.knows.over ≡ false → (piece : List ℕ) → is_bad_with x (take (heard_count (stand_in x) piece) piece) ≡ is_bad (feed_of x.run.rest piece).answer
    fed_bad few is_open piece =
        let used : heard_count (stand_in x) piece ≡ (takes at_client (state at_client at_client.start x.run.took) piece).used
        = ap (λ b. if b then 0 else used_of x.run.rest piece) (never_full wish x few)
        ∙ ap (λ b. if b then 0 else (takes at_client x.run.rest.item piece).used) is_open
        ∙ ap (λ (i : Opened). (takes at_client i piece).used) by.item in
        ap (λ n. is_bad_with x (take n piece)) used
        ∙ bad_then wish x.run.sent x.run.rest.unsent x.run.took (on is_open) piece
        ∙ ap (λ (r : Rest). is_bad (feed_of r piece).answer) (sym stands)

    -- the tracking client's answer is its client's answer
    told : length x.account.rows ≤ 0 → (piece : List ℕ) → (tracked_feed x.run.rest x.account piece).answer ≡ used_by (feed_of x.run.rest piece).answer
    told few piece = ap (λ b. let t : Tracked = (if b then record { rest = x.run.rest; account = x.account; answer = Err feed_fault.Full } else record { rest = (feed_of x.run.rest piece).rest; account = with_answer x.account (feed_of x.run.rest piece).answer; answer = used_by (feed_of x.run.rest piece).answer }) in t.answer) (never_full wish x few)

    pub refused_bad : length x.account.rows ≤ 0 → (piece : List ℕ) → (tracked_feed x.run.rest x.account piece).answer ≡ Err feed_fault.BadPeer → is_bad_with x (take (heard_count (stand_in x) piece) piece) ≡ true
    refused_bad few piece e =
        fed_bad few (open_if (λ answer. answer ≡ Err feed_fault.BadPeer) (λ h. cc) (λ h. cc) (stand_in x) piece e) piece
        ∙ bad_by (feed_of x.run.rest piece).answer (sym (told few piece) ∙ e)

    pub accepted_good : length x.account.rows ≤ 0 → (piece : List ℕ) → is_ok (tracked_feed x.run.rest x.account piece).answer ≡ true → is_bad_with x (take (heard_count (stand_in x) piece) piece) ≡ false
    accepted_good few piece e =
        fed_bad few (open_if (λ answer. is_ok answer ≡ true) (λ h. cc) (λ h. cc) (stand_in x) piece e) piece
        ∙ good_by (feed_of x.run.rest piece).answer (ap is_ok (sym (told few piece)) ∙ e)

  abbrev few_rows : List TrackedCall → Type 0
  few_rows cs = length (run_of cs).account.rows ≤ 0

  few_of : (cs : List TrackedCall) → few_rows cs
  few_of cs = (keeps_few_rows wish 0 cs).0

  -- as long as pieces are accepted, the reading isn't bad
  stays_good : (pieces : List (List ℕ)) (cs : List TrackedCall) (to : Stand) → (run_of cs).run.lost ≡ false → is_bad_with (run_of cs) [] ≡ false → Accepted (stand_in (run_of cs)) pieces to
      → is_bad_with (run_of (cs ++ map HearsPiece pieces)) [] ≡ false
  stays_good [] cs to unlost good h = ap (λ l. is_bad_with (run_of l) []) (append-nil cs) ∙ good
  stays_good (piece ∷ pieces) cs to unlost good h =
      let x = run_of cs in
      let ds : List TrackedCall = cs ++ HearsPiece piece ∷ [] in
      let y = tracked_call x (HearsPiece piece) in
      let same : run_of ds ≡ y = calls_append (tracking wish 0) cs (HearsPiece piece ∷ []) in
      let g : GoesOn x y (heard_stand (stand_in x) piece) [] (take (heard_count (stand_in x) piece) piece) [] false = leads_hears (stand_in x) piece x refl in
      let sent : y.run.sent ≡ x.run.sent = g.sent ∙ append-nil x.run.sent in
      let now : is_bad_with y [] ≡ false =
      ap₂ (λ (qs : List RequestView) bytes. (reading_of wish qs bytes).bad) sent (append-nil y.run.took ∙ g.took)
      ∙ accepted_good x (run_by_bytes wish 0 cs) unlost (few_of cs) piece h.0 in
      let still : Accepted (stand_in (run_of ds)) pieces to = subst (λ (s : Stand). Accepted s pieces to) (sym (ap stand_in same ∙ g.stands)) h.1 in
      let unlost_then : (run_of ds).run.lost ≡ false = ap (λ (z : TrackedRun). z.run.lost) same ∙ g.lose ∙ ap (λ b. b || false) unlost in
      ap (λ l. is_bad_with (run_of l) []) (sym (append_assoc cs (HearsPiece piece ∷ []) (map HearsPiece pieces)))
      ∙ stays_good pieces ds to unlost_then (ap (λ (z : TrackedRun). is_bad_with z []) same ∙ now) still

  -- The last exchange began to read where these calls led, and stopped.
  module _ (cs : List TrackedCall) (unlost : (run_of cs).run.lost ≡ false) (is_open : (stand_in (run_of cs)).rest.knows.over ≡ false) (at : Stand) (last unheard : List ℕ) (hears : Hears (stand_in (run_of cs)) at last) (lost : Bool) where
    abbrev x : TrackedRun
    x = run_of cs

    abbrev attempt : Attempt
    attempt = record { wish = wish; sent = x.run.sent; took = x.run.took ++ last; lost = lost }

    abbrev ended : TrackedRun → Type 0
    ended y = GoesOn x y at [] last [] false

    abbrev ds : List TrackedCall
    ds = cs ++ map HearsPiece hears.pieces

    went : ended (run_of ds)
    went = subst ended (sym (calls_append (tracking wish 0) cs (map HearsPiece hears.pieces))) (hears.leads x refl)

    sent : (run_of ds).run.sent ≡ x.run.sent
    sent = went.sent ∙ append-nil x.run.sent

    unlost_then : (run_of ds).run.lost ≡ false
    unlost_then = went.lose ∙ ap (λ b. b || false) unlost

    by : IsByBytes wish (run_of ds).run
    by = run_by_bytes wish 0 ds

    knows_at : at.rest.knows ≡ known_at_end attempt
    knows_at =
        ap (λ (s : Stand). s.rest.knows) (sym went.stands)
        ∙ knows_it (run_of ds) by unlost_then
        ∙ ap₂ (λ (qs : List RequestView) bytes. knows_of (reading_of wish qs bytes) qs false) sent went.took

    item_at : at.rest.item ≡ state at_client at_client.start attempt.took
    item_at = ap (λ (s : Stand). s.rest.item) (sym went.stands) ∙ by.item ∙ ap (state at_client at_client.start) went.took

    good_now : is_bad_with x [] ≡ false
    good_now = ap (λ l. (reading_of wish x.run.sent l).bad) (append-nil x.run.took) ∙ (on x (run_by_bytes wish 0 cs) unlost is_open).1

    -- it accepted all that it took
    good : Accepts (stand_in x) at last → (reading_of wish x.run.sent (x.run.took ++ last)).bad ≡ false
    good a =
        let es : List TrackedCall = cs ++ map HearsPiece a.hears.pieces in
        let g : ended (run_of es) = subst ended (sym (calls_append (tracking wish 0) cs (map HearsPiece a.hears.pieces))) (a.hears.leads x refl) in
        ap₂ (λ (qs : List RequestView) bytes. (reading_of wish qs bytes).bad) (sym (g.sent ∙ append-nil x.run.sent)) (sym g.took ∙ sym (append-nil (run_of es).run.took))
        ∙ stays_good a.hears.pieces cs at unlost good_now a.accepted

    -- it refused the last message
    bad : IsBadAnswer (stand_in x) at last → (reading_of wish x.run.sent (x.run.took ++ last)).bad ≡ true
    bad b =
        let es : List TrackedCall = cs ++ map HearsPiece b.accepts.hears.pieces in
        let y = run_of es in
        let g : GoesOn x y b.before [] b.earlier [] false = subst (λ (z : TrackedRun). GoesOn x z b.before [] b.earlier [] false) (sym (calls_append (tracking wish 0) cs (map HearsPiece b.accepts.hears.pieces))) (b.accepts.hears.leads x refl) in
        let took : x.run.took ++ last ≡ y.run.took ++ take (heard_count b.before b.piece) b.piece =
        ap (λ l. x.run.took ++ l) b.parts ∙ sym (append_assoc x.run.took b.earlier (take (heard_count b.before b.piece) b.piece)) ∙ ap (λ l. l ++ take (heard_count b.before b.piece) b.piece) (sym g.took) in
        let refused : (tracked_feed y.run.rest y.account b.piece).answer ≡ Err feed_fault.BadPeer = ap (λ (s : Stand). (tracked_feed s.rest s.account b.piece).answer) g.stands ∙ b.refused in
        ap₂ (λ (qs : List RequestView) bytes. (reading_of wish qs bytes).bad) (sym (g.sent ∙ append-nil x.run.sent)) (took ∙ ap (λ (s : Stand). y.run.took ++ take (heard_count s b.piece) b.piece) (sym g.stands))
        ∙ refused_bad y (run_by_bytes wish 0 es) (g.lose ∙ ap (λ b. b || false) unlost) (few_of es) b.piece refused

    not_full : is_full at.rest.knows at.account ≡ false
    not_full = ap (λ (s : Stand). is_full s.rest.knows s.account) (sym went.stands) ∙ never_full wish (run_of ds) (few_of ds)

    pub stops_by_bytes : (broken : Result (Unit {0}) Break) → Stops broken (stand_in x) at last unheard → AttemptStops broken attempt unheard
    stops_by_bytes (Ok u) h = (ap awaits (sym knows_at) ∙ h.0.0, (ap (λ (k : Knows). k.waiting) (sym knows_at) ∙ h.0.1, good h.1))
    stops_by_bytes (Err break.ReadFailed) h = (ap awaits (sym knows_at) ∙ h.0, h.1.1)
    stops_by_bytes (Err break.WriteFailed) h = (ap (λ (k : Knows). k.over) (sym knows_at) ∙ ap (λ (s : Stand). s.rest.knows.over) h.0 ∙ is_open, h.1.1)
    stops_by_bytes (Err break.Memory) h = subst (λ (i : Opened). NeedsMemory (known_at_end attempt) i unheard) item_at (subst (λ (k : Knows). NeedsMemory k at.rest.item unheard) knows_at h.1.1)
    stops_by_bytes (Err break.BadAnswer) h = bad h
    stops_by_bytes (Err break.AtEnd) h = (ap awaits (sym knows_at) ∙ h.0, h.1.1)
    stops_by_bytes (Err break.Ended) h = (ap awaits (sym knows_at) ∙ h.0.0, (subst (λ (k : Knows). 0 < length k.waiting) knows_at h.0.1, good h.1))
    stops_by_bytes (Err break.TooManyRows) h = let no : false ≡ true = sym not_full ∙ h.1.0 in true≢false (sym no)
