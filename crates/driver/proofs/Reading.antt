-- The result of an exchange, step by step.
use Rattle.std.proofs.Common.{◌≡◌, ◌<◌, refl, sym, ◌∙◌, ap, ap₂, subst, ℕ, Bool, true, false, Result, Ok, Err, List, [], ◌∷◌, ◌++◌, length, map, take, drop, append_assoc, append-nil, true≢false, inl, inr, ◌⊎◌, ⊎_elim, is_err, OnErr, IsErrOf}
use Rattle.streams.specs.Moving.{Grows}
use Rattle.messages.specs.Prelude.{RequestView}
use Rattle.streams.proofs.Moving.{Grows-kept, Grows-nil, Grows-trans}
use Rattle.client.specs.Prelude.{Knows, Rest, awaits, WantsRoom}
use Rattle.streams.specs.Prelude.{MovesFront}
use Rattle.streams.proofs.Parts.{fed_more}
use Rattle.client_tracking.specs.declared.faults.FeedFault.{FeedFault}
use Rattle.client_tracking.specs.declared.faults.FeedFault.TheVariants as feed_fault
use Rattle.client_tracking.specs.Account.{Account}
use Rattle.client_tracking.specs.Feeding.{is_full, tracked_feed, UnlessMemory}
use Rattle.client_tracking.specs.Runs.{TrackedCall, Hears as HearsPiece, Sends, IsLost}
use Rattle.driver.specs.declared.breaks.Break.{Break}
use Rattle.driver.specs.declared.breaks.Break.TheVariants as break
use Rattle.driver.specs.Prelude.{Stand, Leads, EndsBy, heard_count, heard_stand, lost_stand, emptied_stand, Place, place, Health, Hears, Accepts, IsBadAnswer, WhyUnfed, Ends, Stops, IsWhole, break_by, is_short, IsSeen, Unbroken, Feeds, ReadsOn, Writes, PutsOut, Converses, Exchanges}
use Rattle.driver.proofs.Leading.{leads_on, leads_out, leads_lost, refused_over, refused_closed, refused_full, hears_none, hears_on, hears_piece, accepts_none, accepts_on, accepts_piece}

pub stand_is : (a b : Stand) → a.rest ≡ b.rest → a.account ≡ b.account → a ≡ b
stand_is a b e f = ap₂ (λ (r : Rest) (z : Account). let s : Stand = record { rest = r; account = z } in s) e f

-- Some of a piece was fed, and the rest of it is still to be.
pub record PartHeard (from now : Stand) (piece rest : List ℕ) : Type 0 where
  pub heard : List ℕ
  pub parts : heard ++ rest ≡ piece
  pub accepts : Accepts from now heard

pub part_none : (s : Stand) (piece : List ℕ) → PartHeard s s piece piece
part_none s piece = record { heard = []; parts = refl; accepts = accepts_none s }

pub part_on : {from now : Stand} {piece rest : List ℕ} → PartHeard from now piece rest → (new : Stand) (used : ℕ) (later : List ℕ) → Ok used ≡ (tracked_feed now.rest now.account rest).answer → new ≡ heard_stand now rest → later ≡ drop used rest → PartHeard from new piece later
part_on {from = from} {now = now} {piece = piece} {rest = rest} p new used later e s l = record {
  heard = p.heard ++ take used rest;
  parts = fed_more p.heard rest later piece used p.parts l;
  accepts = accepts_on p.accepts (subst (λ z. Accepts now z (take used rest)) (sym s) (accepts_piece now rest used e));
}

-- The result if the client refuses a piece. It was open, and some of the piece was left.
pub part_refused : {from now : Stand} {piece rest : List ℕ} → PartHeard from now piece rest → (new : Stand) (f : FeedFault) → 0 < length rest → now.rest.knows.over ≡ false
    → UnlessMemory (Err f) ((Err f ≡ (tracked_feed now.rest now.account rest).answer) × ((new.rest ≡ (tracked_feed now.rest now.account rest).rest) × (new.account ≡ (tracked_feed now.rest now.account rest).account)))
    → (IsErrOf {T = ℕ} (Err f) feed_fault.Memory → (new.rest ≡ now.rest) × (new.account ≡ now.account))
    → (IsErrOf {T = ℕ} (Err f) feed_fault.Memory → is_full now.rest.knows now.account ≡ false)
    → (IsErrOf {T = ℕ} (Err f) feed_fault.Memory → (0 < length now.rest.knows.waiting) ⊎ WantsRoom now.rest.item rest) → Feeds from new piece (Err (break_by f))
part_refused {from = from} {now = now} {piece = piece} {rest = rest} p new f left still_open h m takes room = go f h m takes room
  where
    used : ℕ
    used = heard_count now rest

    some : (e : Break) → new ≡ heard_stand now rest → (is_short (Err e) ≡ false → new.rest.knows.over ≡ true) → WhyUnfed (Err e) from new (p.heard ++ take used rest) (drop used rest) → Feeds from new piece (Err e)
    some e s over why = record {
      heard = p.heard ++ take used rest;
      unheard = drop used rest;
      parts = sym (fed_more p.heard rest (drop used rest) piece used p.parts refl);
      hears = hears_on p.accepts.hears (subst (λ z. Hears now z (take used rest)) (sym s) (hears_piece now rest));
      whole = λ k. inr (over k);
      why = why;
    }

    none : new ≡ now → is_full now.rest.knows now.account ≡ false → (0 < length now.rest.knows.waiting) ⊎ WantsRoom now.rest.item rest → Feeds from new piece (Err break.Memory)
    none s few wants = record {
      heard = p.heard;
      unheard = rest;
      parts = sym p.parts;
      hears = subst (λ z. Hears from z p.heard) (sym s) p.accepts.hears;
      whole = λ k. absurd (true≢false k);
      why = subst (λ (z : Stand). WhyUnfed (Err break.Memory) from z p.heard rest) (sym s) (p.accepts, (few, record { some = left; is_open = still_open; room = wants }));
    }

    over : (g : FeedFault) → new ≡ heard_stand now rest → Err g ≡ (tracked_feed now.rest now.account rest).answer → (g ≡ feed_fault.Full → ⊥) → new.rest.knows.over ≡ true
    over g s h n = ap (λ (z : Stand). z.rest.knows.over) s ∙ refused_over now rest g h n

    go : (f : FeedFault) → UnlessMemory (Err f) ((Err f ≡ (tracked_feed now.rest now.account rest).answer) × ((new.rest ≡ (tracked_feed now.rest now.account rest).rest) × (new.account ≡ (tracked_feed now.rest now.account rest).account)))
        → (IsErrOf {T = ℕ} (Err f) feed_fault.Memory → (new.rest ≡ now.rest) × (new.account ≡ now.account))
        → (IsErrOf {T = ℕ} (Err f) feed_fault.Memory → is_full now.rest.knows now.account ≡ false)
        → (IsErrOf {T = ℕ} (Err f) feed_fault.Memory → (0 < length now.rest.knows.waiting) ⊎ WantsRoom now.rest.item rest) → Feeds from new piece (Err (break_by f))
    go feed_fault.Memory h m few wants = let k = m refl in none (stand_is new now k.0 k.1) (few refl) (wants refl)
    go feed_fault.Closed h m few wants = let s = stand_is new (heard_stand now rest) h.1.0 h.1.1 in some break.Ended s (λ _. over feed_fault.Closed s h.0 (λ e. cc)) (absurd (refused_closed now rest h.0 still_open))
    go feed_fault.BadPeer h m few wants =
        let s = stand_is new (heard_stand now rest) h.1.0 h.1.1 in
        some break.BadAnswer s (λ _. over feed_fault.BadPeer s h.0 (λ e. cc)) (record { before = now; earlier = p.heard; accepts = p.accepts; piece = rest; refused = sym h.0; after = s; parts = refl })
    go feed_fault.Full h m few wants =
        let s = stand_is new (heard_stand now rest) h.1.0 h.1.1 in
        let full = refused_full now rest (sym h.0) in
        let none : p.heard ≡ p.heard ++ take used rest = sym (append-nil p.heard) ∙ ap (λ n. p.heard ++ take n rest) (sym full.2) in
        let same : new ≡ now = s ∙ full.1 in
        some break.TooManyRows s (λ k. absurd (true≢false k)) (
          subst (λ l. Accepts from new l) none (subst (λ (z : Stand). Accepts from z p.heard) (sym same) p.accepts),
          (ap (λ (z : Stand). is_full z.rest.knows z.account) same ∙ full.0, subst (λ n. 0 < length (drop n rest)) (sym full.2) left),
        )

-- the end of the piece, or of the client
pub part_done : {from now : Stand} {piece rest : List ℕ} → PartHeard from now piece rest → IsWhole rest now → Feeds from now piece (Ok tt)
part_done {rest = rest} p w = record { heard = p.heard; unheard = rest; parts = sym p.parts; hears = p.accepts.hears; whole = λ _. w; why = p.accepts }

-- a piece that was read
pub reads_piece : {from to : Stand} {left given_now : List ℕ} {piece : List ℕ} {result : Result (Unit {0}) Break} → Grows left given_now piece → Feeds from to piece result → ReadsOn from to left given_now result
reads_piece {left = left} {given_now = given_now} c f = record { heard = f.heard; unheard = f.unheard; input = subst (Grows left given_now) f.parts c; hears = f.hears; whole = f.whole; why = f.why }

pub reads_none : (s : Stand) (left : List ℕ) → ReadsOn s s left left (Ok tt)
reads_none s left = record { heard = []; unheard = []; input = Grows-nil left; hears = hears_none s; whole = λ _. inl refl; why = accepts_none s }

pub reads_kept : (s : Stand) (left given_now : List ℕ) → given_now ≡ left → ReadsOn s s left given_now (Err break.ReadFailed)
reads_kept s left given_now k = record { heard = []; unheard = []; input = Grows-kept left given_now k; hears = hears_none s; whole = λ _. inl refl; why = accepts_none s }

pub reads_empty : (s : Stand) (left given_now : List ℕ) → Grows left given_now [] → ReadsOn s s left given_now (Err break.AtEnd)
reads_empty s left given_now c = record { heard = []; unheard = []; input = c; hears = hears_none s; whole = λ _. inl refl; why = accepts_none s }

pub awaits_open : (k : Knows) → awaits k ≡ true → k.over ≡ true → ⊥
awaits_open k e o = let f : awaits k ≡ false = rw o refl in true≢false (sym e ∙ f)

pub none_unheard : (unheard : List ℕ) (s : Stand) → IsWhole unheard s → (s.rest.knows.over ≡ true → ⊥) → unheard ≡ []
none_unheard unheard s w still_open = ⊎_elim (λ e. e) (λ o. absurd (still_open o)) w

-- a bad answer stays one if other bytes were fed before
bad_on : {a b c : Stand} {bytes later : List ℕ} → Accepts a b bytes → IsBadAnswer b c later → IsBadAnswer a c (bytes ++ later)
bad_on {bytes = bytes} f g = record {
  before = g.before;
  earlier = bytes ++ g.earlier;
  accepts = accepts_on f g.accepts;
  piece = g.piece;
  refused = g.refused;
  after = g.after;
  parts = ap (λ l. bytes ++ l) g.parts ∙ sym (append_assoc bytes g.earlier (take (heard_count g.before g.piece) g.piece));
}

why_on : (a b c : Stand) (bytes later unheard : List ℕ) (r : Result (Unit {0}) Break) → Accepts a b bytes → WhyUnfed r b c later unheard → WhyUnfed r a c (bytes ++ later) unheard
why_on a b c bytes later unheard (Ok u) f w = accepts_on f w
why_on a b c bytes later unheard (Err break.ReadFailed) f w = accepts_on f w
why_on a b c bytes later unheard (Err break.WriteFailed) f w = accepts_on f w
why_on a b c bytes later unheard (Err break.Memory) f w = (accepts_on f w.0, w.1)
why_on a b c bytes later unheard (Err break.BadAnswer) f w = bad_on f w
why_on a b c bytes later unheard (Err break.AtEnd) f w = accepts_on f w
why_on a b c bytes later unheard (Err break.Ended) f w = accepts_on f w
why_on a b c bytes later unheard (Err break.TooManyRows) f w = (accepts_on f w.0, w.1)

pub reads_on : {a b c : Stand} {l m n : List ℕ} {result : Result (Unit {0}) Break} → ReadsOn a b l m (Ok tt) → (b.rest.knows.over ≡ true → ⊥) → ReadsOn b c m n result → ReadsOn a c l n result
reads_on {a = a} {b = b} {c = c} {l = l} {m = m} {n = n} {result = result} f still_open g =
    let all : f.heard ++ f.unheard ≡ f.heard = ap (λ z. f.heard ++ z) (none_unheard f.unheard b (f.whole refl) still_open) ∙ append-nil f.heard in
    record {
      heard = f.heard ++ g.heard;
      unheard = g.unheard;
      input = subst (Grows l n) (ap (λ z. z ++ (g.heard ++ g.unheard)) all ∙ sym (append_assoc f.heard g.heard g.unheard)) (Grows-trans l m n (f.heard ++ f.unheard) (g.heard ++ g.unheard) f.input g.input);
      hears = hears_on f.hears g.hears;
      whole = g.whole;
      why = why_on a b c f.heard g.heard g.unheard result f.why g.why;
    }

-- an error's fact, by a test of the result
pub on_err : {T E : Type 0} (x : Result T E) (P : Type 0) → is_err x ≡ true → OnErr x P → P
on_err (Ok t) P e h = absurd (true≢false (sym e))
on_err (Err f) P e h = h

-- output that was written whole stays so, whatever is read
pub written_then : (out : List ℕ) (r : Result (Unit {0}) Break) (a b : List ℕ) → (IsErrOf r break.WriteFailed → ⊥) → Grows a b out → Writes out r a b
written_then out (Ok u) a b sound h = h
written_then out (Err break.ReadFailed) a b sound h = h
written_then out (Err break.WriteFailed) a b sound h = absurd (sound refl)
written_then out (Err break.Memory) a b sound h = h
written_then out (Err break.BadAnswer) a b sound h = h
written_then out (Err break.AtEnd) a b sound h = h
written_then out (Err break.Ended) a b sound h = h
written_then out (Err break.TooManyRows) a b sound h = h

-- all of it was written, or the sink failed
pub writes_or : (out : List ℕ) (r : Result (Unit {0}) Break) (a b : List ℕ) → Writes out r a b → Grows a b out ⊎ (IsErrOf r break.WriteFailed × MovesFront a b out)
writes_or out (Ok u) a b h = inl h
writes_or out (Err break.ReadFailed) a b h = inl h
writes_or out (Err break.WriteFailed) a b h = inr (refl, h)
writes_or out (Err break.Memory) a b h = inl h
writes_or out (Err break.BadAnswer) a b h = inl h
writes_or out (Err break.AtEnd) a b h = inl h
writes_or out (Err break.Ended) a b h = inl h
writes_or out (Err break.TooManyRows) a b h = inl h

-- a break is true of the stream that it blames
pub seen_by : (r : Result (Unit {0}) Break) (h : Health) → (IsErrOf r break.AtEnd → h.ended ≡ true) → (IsErrOf r break.ReadFailed → h.read_failed ≡ true) → (IsErrOf r break.WriteFailed → h.write_failed ≡ true) → IsSeen r h
seen_by (Ok u) h e f w = tt
seen_by (Err break.ReadFailed) h e f w = f refl
seen_by (Err break.WriteFailed) h e f w = w refl
seen_by (Err break.Memory) h e f w = tt
seen_by (Err break.BadAnswer) h e f w = tt
seen_by (Err break.AtEnd) h e f w = e refl
seen_by (Err break.Ended) h e f w = tt
seen_by (Err break.TooManyRows) h e f w = tt

-- if the sink is blamed, it has failed
pub write_seen : (r : Result (Unit {0}) Break) (h : Health) → IsSeen r h → IsErrOf r break.WriteFailed → h.write_failed ≡ true
write_seen r h s e = subst (λ (z : Result (Unit {0}) Break). IsSeen z h) e s

-- it is a beginning of the output
pub writes_front : (out : List ℕ) (r : Result (Unit {0}) Break) (a b : List ℕ) → Writes out r a b → MovesFront a b out
writes_front out r a b h = ⊎_elim (λ w. (out, [], append-nil out, w)) (λ f. f.1) (writes_or out r a b h)

-- the client took all bytes, or calls lead to its end
ends_or : {from to : Stand} {asked : List RequestView} {bytes out : List ℕ} (unheard : List ℕ) (cs : List TrackedCall) → Leads from cs to asked bytes out false → IsWhole unheard to → (unheard ≡ []) ⊎ EndsBy from asked bytes out
ends_or {to = to} unheard cs l w = ⊎_elim (λ e. inl e) (λ o. inr (cs, to, l, o)) w

-- up to where nothing is lost yet
led_ahead : (from to : Stand) (heard : List ℕ) (h : Hears (emptied_stand from) to heard) → Leads from (Sends (length from.rest.unsent) ∷ map HearsPiece h.pieces) to [] heard from.rest.unsent false
led_ahead from to heard h = subst (λ out. Leads from (Sends (length from.rest.unsent) ∷ map HearsPiece h.pieces) to [] heard out false) (append-nil from.rest.unsent)
    (leads_on (Sends (length from.rest.unsent) ∷ []) (map HearsPiece h.pieces) (leads_out from) h.leads)

-- an exchange leads on by calls
pub record Led (from to : Place) (r : Result (Unit {0}) Break) : Type 0 where
  pub calls : List TrackedCall
  pub heard : List ℕ
  pub unheard : List ℕ
  pub lost : Bool
  pub leads : Leads from.stand calls to.stand [] heard from.stand.rest.unsent lost
  pub input : Grows from.given to.given (heard ++ unheard)
  pub whole : Unbroken r (IsWhole unheard to.stand)
  pub unlost : Unbroken r (lost ≡ false)
  pub ends : is_short r ≡ false → (unheard ≡ []) ⊎ EndsBy from.stand [] heard from.stand.rest.unsent
  -- the client when it stopped, and why it stopped
  pub at : Stand
  pub hears : Hears (emptied_stand from.stand) at heard
  pub stops : Stops r (emptied_stand from.stand) at heard unheard

pub exchange_led : (from to : Place) (r : Result (Unit {0}) Break) → Exchanges from to r → Led from to r
exchange_led from to (Ok u) x =
    let calls = Sends (length from.stand.rest.unsent) ∷ map HearsPiece x.converses.reads.hears.pieces in
    let heard = x.converses.reads.heard in
    let unsent = from.stand.rest.unsent in
    record {
      calls = calls;
      heard = heard;
      unheard = x.converses.reads.unheard;
      lost = false;
      leads = subst (λ (s : Stand). Leads from.stand calls s [] heard unsent false) (sym x.settles)
          (subst (λ out. Leads from.stand calls x.answered [] heard out false) (append-nil unsent)
          (leads_on (Sends (length unsent) ∷ []) (map HearsPiece x.converses.reads.hears.pieces) (leads_out from.stand) x.converses.reads.hears.leads));
      input = x.converses.reads.input;
      whole = subst (λ (s : Stand). IsWhole x.converses.reads.unheard s) (sym x.settles) (x.converses.reads.whole refl);
      unlost = refl;
      ends = λ k. ends_or x.converses.reads.unheard calls (led_ahead from.stand x.answered heard x.converses.reads.hears) (x.converses.reads.whole k);
      at = x.answered;
      hears = x.converses.reads.hears;
      stops = x.converses.stops;
    }
exchange_led from to (Err e) x =
    let pieces = map HearsPiece x.converses.reads.hears.pieces in
    let calls = Sends (length from.stand.rest.unsent) ∷ (pieces ++ IsLost ∷ []) in
    let heard = x.converses.reads.heard in
    let unsent = from.stand.rest.unsent in
    record {
      calls = calls;
      heard = heard;
      unheard = x.converses.reads.unheard;
      lost = true;
      leads = subst (λ (s : Stand). Leads from.stand calls s [] heard unsent true) (sym x.settles)
          (subst (λ bs. Leads from.stand calls (lost_stand x.answered) [] bs unsent true) (append-nil heard)
          (subst (λ out. Leads from.stand calls (lost_stand x.answered) [] (heard ++ []) out true) (append-nil unsent)
          (leads_on (Sends (length unsent) ∷ []) (pieces ++ IsLost ∷ []) (leads_out from.stand) (leads_on pieces (IsLost ∷ []) x.converses.reads.hears.leads (leads_lost x.answered)))));
      input = x.converses.reads.input;
      whole = tt;
      unlost = tt;
      ends = λ k. ends_or x.converses.reads.unheard (Sends (length from.stand.rest.unsent) ∷ pieces) (led_ahead from.stand x.answered heard x.converses.reads.hears) (x.converses.reads.whole k);
      at = x.answered;
      hears = x.converses.reads.hears;
      stops = x.converses.stops;
    }

-- if the output wasn't written whole, nothing is read
pub says_unwritten : (from : Place) (s : Stand) (written : List ℕ) → PutsOut from.stand s from.written written (Err break.WriteFailed) → Converses from (place s from.given written) (Err break.WriteFailed)
says_unwritten from s written h =
    subst (λ (z : Stand). Converses from (place z from.given written) (Err break.WriteFailed)) (sym h.1)
    (record {
      writes = h.0;
      reads = record { heard = []; unheard = []; input = Grows-nil from.given; hears = hears_none (emptied_stand from.stand); whole = λ _. inl refl; why = accepts_none (emptied_stand from.stand) };
      stops = (refl, (refl, refl));
    })

-- why the reading stopped, by what the client says then
stops_by : {from to : Stand} {given given_now : List ℕ} (r : Result (Unit {0}) Break) (x : ReadsOn from to given given_now r) → (IsErrOf r break.WriteFailed → ⊥) → Ends r to → Stops r from to x.heard x.unheard
stops_by (Ok u) x written e = (e, x.why)
stops_by {to = to} (Err break.ReadFailed) x written e = (e, (x.why, none_unheard x.unheard to (x.whole refl) (awaits_open to.rest.knows e)))
stops_by (Err break.WriteFailed) x written e = absurd (written refl)
stops_by (Err break.Memory) x written e = x.why
stops_by (Err break.BadAnswer) x written e = x.why
stops_by {to = to} (Err break.AtEnd) x written e = (e, (x.why, none_unheard x.unheard to (x.whole refl) (awaits_open to.rest.knows e)))
stops_by (Err break.Ended) x written e = (e, x.why)
stops_by (Err break.TooManyRows) x written e = x.why

pub says_written : (from : Place) (mid to : Stand) (left written : List ℕ) (r : Result (Unit {0}) Break) → PutsOut from.stand mid from.written written (Ok tt) → (IsErrOf r break.WriteFailed → ⊥) → ReadsOn mid to from.given left r → Ends r to → Converses from (place to left written) r
says_written from mid to left written r h n x e =
    let y : ReadsOn (emptied_stand from.stand) to from.given left r = subst (λ (z : Stand). ReadsOn z to from.given left r) h.1 x in
    record {
      writes = written_then from.stand.rest.unsent r from.written written n h.0;
      reads = y;
      stops = stops_by r y n e;
    }

-- an open client doesn't refuse a piece because it has ended
pub not_ended : (s : Stand) (piece : List ℕ) (f : FeedFault) (Q : Type 0) → UnlessMemory (Err f) ((Err f ≡ (tracked_feed s.rest s.account piece).answer) × Q) → s.rest.knows.over ≡ false → IsErrOf {T = Unit {0}} (Err (break_by f)) break.Ended → ⊥
not_ended s piece feed_fault.Closed Q h over e = refused_closed s piece h.0 over
not_ended s piece feed_fault.Memory Q h over e = cc
not_ended s piece feed_fault.BadPeer Q h over e = cc
not_ended s piece feed_fault.Full Q h over e = cc
