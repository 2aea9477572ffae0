-- Requests that are sent in parts, step by step.
use Rattle.std.proofs.Common.{◌≡◌, refl, sym, ◌∙◌, ap, ap₂, subst, ℕ, zero, suc, ◌+◌, ◌-◌, ◌*◌, ◌<◌, ◌≤◌, ◌==◌, Bool, true, false, ◌||◌, if◌then◌else◌, Option, Some, None, Result, Ok, Err, List, [], ◌∷◌, ◌++◌, length, option_map, append_assoc, append-nil, inl, inr, ◌⊎◌, ⊎_elim, IfOk, IfErr, is_err, is_none, true≢false, arith, length-append}
use Rattle.std.specs.Option.{option_or}
use Rattle.streams.specs.Moving.{Grows}
use Rattle.streams.proofs.Moving.{Grows-nil, Grows-trans}
use Rattle.std.proofs.lemmas.Bool.{cond-true, cond-false}
use Rattle.std.proofs.lemmas.Bool.Decides.{nat_tests}
use Rattle.wire.specs.Prelude.{bytes_in_order}
use Rattle.messages.specs.Prelude.{RequestView}
use Rattle.machine.specs.Limits.{max_waiting}
use Rattle.client.specs.declared.Outcome.{Outcome}
use Rattle.client.specs.declared.SubmitFault.{SubmitFault}
use Rattle.client.specs.declared.SubmitFault.TheVariants as submit_fault
use Rattle.client.specs.Prelude.{Knows, refuses, refuses_at_once, after_submit, asking_bytes}
use Rattle.client.proofs.Runs.{texts_more}
use Rattle.client_tracking.specs.Account.{Account, ReplyView, with_losses, reply_in, outcome_of}
use Rattle.client_tracking.specs.Runs.{TrackedCall, Asks, Sends}
use Rattle.driver.specs.declared.breaks.Break.{Break}
use Rattle.driver.specs.Prelude.{Stand, Leads, EndsBy, Place, place, Health, StopsBy, emptied_stand, IsWhole, is_short, IsSeen, Exchanges, asked_stand, is_done, or_undone, first_undone, is_whole, is_answered, IsQuiet, IsUndone, short_of, WhyLeft, SendsPart, MakesRoom, SendsInParts}
use Rattle.driver.proofs.Leading.{leads_nowhere, leads_on, leads_out}
use Rattle.driver.proofs.Reading.{stand_is, none_unheard, writes_or, write_seen, Led, exchange_led}
use Rattle.driver.proofs.Keeping.{hears_keeps, exchange_empties}
use Rattle.driver.proofs.Asking.{leads_ask, accepted_open}

not_true : (b : Bool) → (b ≡ true → ⊥) → b ≡ false
not_true true never = absurd (never refl)
not_true false never = refl

either : (b : Bool) → (b ≡ false) ⊎ (b ≡ true)
either true = inr refl
either false = inl refl

none_left : (xs : List RequestView) → (0 < length xs → ⊥) → xs ≡ []
none_left [] none = refl
none_left (x ∷ xs) none = absurd (none (omega arith))

-- a client that has ended refuses each request at once
ended_at_once : (k : Knows) (q : RequestView) → k.over ≡ true → refuses_at_once k q ≡ None → ⊥
ended_at_once k q o e = let f : refuses_at_once k q ≡ Some submit_fault.Closed = rw o refl in cc

-- only a lack of memory is reported of a request that isn't accepted
short_ok : (rule : SubmitFault) → (rule ≡ submit_fault.Memory → ⊥) → short_of rule ≡ Ok tt
short_ok submit_fault.NotAllowed never = refl
short_ok submit_fault.PipelineFull never = refl
short_ok submit_fault.Size never = refl
short_ok submit_fault.Closed never = refl
short_ok submit_fault.Memory never = absurd (never refl)
short_ok (submit_fault.Unwritable u) never = refl

-- Those of the parts before were done; those of the last part wait, and nothing of it went out.
pub record SoSent (from now : Place) (before last : List RequestView) : Type 0 where
  pub parts : ℕ
  pub whole : length before ≡ max_waiting * parts
  pub few : length last ≤ max_waiting
  pub done : (i : ℕ) → i < length before → is_answered now.stand.account i ≡ true
  pub told : now.stand.account.lost ≡ []
  pub waits : now.stand.rest.knows.waiting ≡ last
  pub calls : List TrackedCall
  pub heard : List ℕ
  pub unheard : List ℕ
  pub out : List ℕ
  pub leads : Leads from.stand calls now.stand (before ++ last) heard out false
  pub input : Grows from.given now.given (heard ++ unheard)
  pub quiet : IsWhole unheard now.stand
  -- the client is open; or it had ended before; or the last exchange stopped because all was answered
  pub so : (now.stand.rest.knows.over ≡ false) ⊎ ((from.stand.rest.knows.over ≡ true) ⊎ StopsBy from.stand before heard out unheard (Ok tt))
  pub is_open : 0 < length last → now.stand.rest.knows.over ≡ true → ⊥
  pub written : Grows from.written now.written out
  pub unsent : now.stand.rest.unsent ≡ bytes_in_order (asking_bytes now.stand.rest.knows.version) last

pub none_sent : (from : Place) → IsQuiet from.stand → SoSent from from [] []
none_sent from q = record {
  parts = 0;
  whole = refl;
  few = omega arith;
  done = λ i l. absurd (omega (arith, l));
  told = q.lost;
  waits = q.waits;
  calls = [];
  heard = [];
  unheard = [];
  out = [];
  leads = leads_nowhere from.stand;
  input = Grows-nil from.given;
  quiet = inl refl;
  so = ⊎_elim (λ e. inl e) (λ e. inr (inl e)) (either from.stand.rest.knows.over);
  is_open = λ l. absurd (omega (arith, l));
  written = Grows-nil from.written;
  unsent = q.unsent;
}

longer : (xs : List RequestView) (x : RequestView) → length (xs ++ x ∷ []) ≡ suc (length xs)
longer xs x = length-append xs (x ∷ []) ∙ omega arith

-- one request more is accepted
module _ (from now : Place) (before last : List RequestView) (s : SoSent from now before last) (q : RequestView) (accepted : refuses now.stand.rest.knows q ≡ None) (room : length last < max_waiting) where
  asked_leads : Leads from.stand (s.calls ++ Asks q ∷ []) (asked_stand now.stand q) (before ++ (last ++ q ∷ [])) s.heard s.out false
  asked_leads =
      subst (λ qs. Leads from.stand (s.calls ++ Asks q ∷ []) (asked_stand now.stand q) qs s.heard s.out false) (append_assoc before last (q ∷ []))
      (subst (λ bs. Leads from.stand (s.calls ++ Asks q ∷ []) (asked_stand now.stand q) ((before ++ last) ++ q ∷ []) bs s.out false) (append-nil s.heard)
      (subst (λ bs. Leads from.stand (s.calls ++ Asks q ∷ []) (asked_stand now.stand q) ((before ++ last) ++ q ∷ []) (s.heard ++ []) bs false) (append-nil s.out)
      (leads_on s.calls (Asks q ∷ []) s.leads (leads_ask now.stand q accepted))))

  one_asked : SoSent from (place (asked_stand now.stand q) now.given now.written) before (last ++ q ∷ [])
  one_asked = record {
    parts = s.parts;
    whole = s.whole;
    few = let n = longer last q in omega (arith, n, room);
    done = s.done;
    told = s.told;
    waits = ap (λ l. l ++ q ∷ []) s.waits;
    calls = s.calls ++ Asks q ∷ [];
    heard = s.heard;
    unheard = s.unheard;
    out = s.out;
    leads = asked_leads;
    input = s.input;
    quiet = s.quiet;
    so = inl (not_true now.stand.rest.knows.over (λ o. accepted_open now.stand.rest.knows q accepted o));
    is_open = λ _ o. accepted_open now.stand.rest.knows q accepted o;
    written = s.written;
    unsent = ap (λ l. l ++ asking_bytes now.stand.rest.knows.version q) s.unsent ∙ sym (texts_more (asking_bytes now.stand.rest.knows.version) last q);
  }

  pub one_sent : (new : Stand) → new.rest ≡ after_submit now.stand.rest q → new.account ≡ now.stand.account → SoSent from (place new now.given now.written) before (last ++ q ∷ [])
  one_sent new r a = subst (λ (z : Stand). SoSent from (place z now.given now.written) before (last ++ q ∷ [])) (sym (stand_is new (asked_stand now.stand q) r a)) one_asked

-- a reply stays, whatever replies follow it
reply_stays : (i : ℕ) (rs more : List ReplyView) → is_done (option_map (λ (r : ReplyView). r.outcome) (reply_in i rs)) ≡ true → is_done (option_map (λ (r : ReplyView). r.outcome) (reply_in i (rs ++ more))) ≡ true
reply_stays i [] more e = cc
reply_stays i (r ∷ rs) more e = go (r.ordinal == i) (reply_stays i rs more) e
  where
    go : (b : Bool) → (is_done (option_map (λ (r : ReplyView). r.outcome) (reply_in i rs)) ≡ true → is_done (option_map (λ (r : ReplyView). r.outcome) (reply_in i (rs ++ more))) ≡ true) → is_done (option_map (λ (r : ReplyView). r.outcome) (if b then Some r else reply_in i rs)) ≡ true → is_done (option_map (λ (r : ReplyView). r.outcome) (if b then Some r else reply_in i (rs ++ more))) ≡ true
    go true f e = e
    go false f e = f e

answer_stays : (a b : Account) (more : List ReplyView) (i : ℕ) → b.replies ≡ a.replies ++ more → is_answered a i ≡ true → is_answered b i ≡ true
answer_stays a b more i e h = ap (λ rs. is_done (option_map (λ (r : ReplyView). r.outcome) (reply_in i rs))) e ∙ reply_stays i a.replies more h

or_nothing : (o : Option Outcome) → option_or o None ≡ o
or_nothing None = refl
or_nothing (Some x) = refl

-- if nothing was lost, each request that is done was answered
done_answered : (a : Account) (i : ℕ) → a.lost ≡ [] → is_done (outcome_of a i) ≡ true → is_answered a i ≡ true
done_answered a i e h =
    let same : outcome_of a i ≡ option_map (λ (r : ReplyView). r.outcome) (reply_in i a.replies) = ap (λ ls. outcome_of (record a { lost = ls }) i) e ∙ or_nothing (option_map (λ (r : ReplyView). r.outcome) (reply_in i a.replies)) in
    ap is_done (sym same) ∙ h

-- an answered request is done, whatever was lost
done_or : (o l : Option Outcome) → is_done o ≡ true → is_done (option_or o l) ≡ true
done_or None l e = cc
done_or (Some x) l e = e

pub answered_done : (a : Account) (i : ℕ) → is_answered a i ≡ true → is_done (outcome_of a i) ≡ true
answered_done a i e = done_or (option_map (λ (r : ReplyView). r.outcome) (reply_in i a.replies)) _ e

-- each of those is done among which none was found that isn't
undone_none : (o : Option ℕ) (n : ℕ) (x : Option Outcome) → or_undone o n x ≡ None → (o ≡ None) × (is_done x ≡ true)
undone_none (Some i) n x e = cc
undone_none None n x e = (refl, go (is_done x) e)
  where
    go : (b : Bool) → (if b then None else Some n) ≡ None → b ≡ true
    go true e = refl
    go false e = cc

each_done : (told : ℕ → Option Outcome) (first n : ℕ) → first_undone told first n ≡ None → (i : ℕ) → i < n → is_done (told (first + i)) ≡ true
each_done told first zero e i l = absurd (omega (arith, l))
each_done told first (suc n) e i l =
    let p = undone_none (first_undone told first n) (first + n) (told (first + n)) e in
    ⊎_elim (λ (m : i < n). each_done told first n p.0 i m) (λ (m : i ≡ n). ap (λ k. is_done (told (first + k))) m ∙ p.1) (le_cases i n (omega (arith, l)))
  where
    le_cases : (i n : ℕ) → i ≤ n → (i < n) ⊎ (i ≡ n)
    le_cases zero zero l = inr refl
    le_cases zero (suc n) l = inl (omega arith)
    le_cases (suc i) zero l = absurd (omega (arith, l))
    le_cases (suc i) (suc n) l = ⊎_elim (λ (m : i < n). inl (omega (arith, m))) (λ (m : i ≡ n). inr (ap suc m)) (le_cases i n (omega (arith, l)))

pub losses_replies : (a : Account) (ls : List (ℕ × Outcome)) → (with_losses a ls).replies ≡ a.replies
losses_replies a [] = refl
losses_replies a (x ∷ xs) = refl

-- the account after an exchange
exchanged_longer : (from to : Place) (r : Result (Unit {0}) Break) → Exchanges from to r → (more : List ReplyView) × (to.stand.account.replies ≡ from.stand.account.replies ++ more)
exchanged_longer from to (Ok u) x = let k = hears_keeps x.converses.reads.hears in (k.more, ap (λ (s : Stand). s.account.replies) x.settles ∙ k.replies)
exchanged_longer from to (Err e) x = let k = hears_keeps x.converses.reads.hears in (k.more, ap (λ (s : Stand). s.account.replies) x.settles ∙ losses_replies x.answered.account _ ∙ k.replies)

pub exchanged_told : (from to : Place) → Exchanges from to (Ok tt) → to.stand.account.lost ≡ from.stand.account.lost
exchanged_told from to x = ap (λ (s : Stand). s.account.lost) x.settles ∙ (hears_keeps x.converses.reads.hears).lost

-- an exchange that was broken off leaves its client lost
pub broken_undone : (from to : Place) (r : Result (Unit {0}) Break) (first count : ℕ) → is_err r ≡ true → Exchanges from to r → IsUndone r to.stand first count
broken_undone from to (Ok u) first count e x = absurd (true≢false (sym e))
broken_undone from to (Err why) first count e x = inl ((why, refl), (x.answered, x.settles))

-- one was found that isn't done
pub found_undone : (broken : Result (Unit {0}) Break) (to : Stand) (first count : ℕ) (o : Option ℕ) (done : Bool) → o ≡ first_undone (outcome_of to.account) first count → done ≡ is_none o → done ≡ false → IsUndone broken to first count
found_undone broken to first count None done e d f = absurd (true≢false (sym d ∙ f))
found_undone broken to first count (Some i) done e d f = inr (i, sym e)

-- the last part is sent
module _ (from now to : Place) (before last : List RequestView) (s : SoSent from now before last) (some : 0 < length last) where
  none_unread : s.unheard ≡ []
  none_unread = none_unheard s.unheard now.stand s.quiet (s.is_open some)

  module _ (r : Result (Unit {0}) Break) (x : Exchanges now to r) where
    led : Led now to r
    led = exchange_led now to r x

    input : Grows from.given to.given ((s.heard ++ led.heard) ++ led.unheard)
    input =
        let whole : s.heard ++ s.unheard ≡ s.heard = ap (λ l. s.heard ++ l) none_unread ∙ append-nil s.heard in
        subst (Grows from.given to.given) (ap (λ l. l ++ (led.heard ++ led.unheard)) whole ∙ sym (append_assoc s.heard led.heard led.unheard))
        (Grows-trans from.given now.given to.given (s.heard ++ s.unheard) (led.heard ++ led.unheard) s.input led.input)

    leads : Leads from.stand (s.calls ++ led.calls) to.stand (before ++ last) (s.heard ++ led.heard) (s.out ++ now.stand.rest.unsent) led.lost
    leads =
        subst (λ qs. Leads from.stand (s.calls ++ led.calls) to.stand qs (s.heard ++ led.heard) (s.out ++ now.stand.rest.unsent) led.lost) (append-nil (before ++ last))
        (leads_on s.calls led.calls s.leads led.leads)

    stays : (i : ℕ) → i < length before → is_answered to.stand.account i ≡ true
    stays i l = let k = exchanged_longer now to r x in answer_stays now.stand.account to.stand.account k.0 i k.1 (s.done i l)

    ends : is_short r ≡ false → (led.unheard ≡ []) ⊎ EndsBy from.stand (before ++ last) (s.heard ++ led.heard) (s.out ++ now.stand.rest.unsent)
    ends k =
        ⊎_elim (λ e. inl e)
        (λ p. inr (
          s.calls ++ p.0,
          p.1,
          subst (λ qs. Leads from.stand (s.calls ++ p.0) p.1 qs (s.heard ++ led.heard) (s.out ++ now.stand.rest.unsent) false) (append-nil (before ++ last)) (leads_on s.calls p.0 s.leads p.2),
          p.3,
        ))
        (led.ends k)

    -- the calls up to the start of the reading
    led_out : Leads from.stand (s.calls ++ Sends (length now.stand.rest.unsent) ∷ []) (emptied_stand now.stand) (before ++ last) s.heard (s.out ++ now.stand.rest.unsent) false
    led_out =
        subst (λ qs. Leads from.stand (s.calls ++ Sends (length now.stand.rest.unsent) ∷ []) (emptied_stand now.stand) qs s.heard (s.out ++ now.stand.rest.unsent) false) (append-nil (before ++ last))
        (subst (λ bs. Leads from.stand (s.calls ++ Sends (length now.stand.rest.unsent) ∷ []) (emptied_stand now.stand) ((before ++ last) ++ []) bs (s.out ++ now.stand.rest.unsent) false) (append-nil s.heard)
        (leads_on s.calls (Sends (length now.stand.rest.unsent) ∷ []) s.leads (leads_out now.stand)))

    stops : StopsBy from.stand (before ++ last) (s.heard ++ led.heard) (s.out ++ now.stand.rest.unsent) led.unheard r
    stops = record {
      start = emptied_stand now.stand;
      calls = s.calls ++ Sends (length now.stand.rest.unsent) ∷ [];
      earlier = s.heard;
      leads = led_out;
      is_open = not_true now.stand.rest.knows.over (s.is_open some);
      at = led.at;
      last = led.heard;
      hears = led.hears;
      parts = refl;
      stops = led.stops;
    }

    pub part_ended : (health : Health) → IsSeen r health → (later all : List RequestView) (n : ℕ) → is_whole last later ≡ true → all ≡ before ++ (last ++ later) → n ≡ length (before ++ last) → WhyLeft to.stand before last later r → SendsInParts from to health all n r
    part_ended health seen later all n w asks count why = record {
      why = why;
      seen = seen;
      before = before;
      last = last;
      later = later;
      asks = asks;
      count = count;
      parts = s.parts;
      whole = s.whole;
      few = s.few;
      done = stays;
      calls = s.calls ++ led.calls;
      heard = s.heard ++ led.heard;
      unheard = led.unheard;
      out = s.out ++ now.stand.rest.unsent;
      lost = led.lost;
      leads = leads;
      input = input;
      ends = ends;
      stops = inr (inr stops);
      written =
          ⊎_elim (λ a. inl (Grows-trans from.written now.written to.written s.out now.stand.rest.unsent s.written a))
          (λ f. inr (write_seen r health seen f.0, (s.out ++ f.1.0, f.1.1, append_assoc s.out f.1.0 f.1.1 ∙ ap (λ l. s.out ++ l) f.1.2, Grows-trans from.written now.written to.written s.out f.1.0 s.written f.1.3)))
          (writes_or now.stand.rest.unsent r now.written to.written x.converses.writes);
      unsent = exchange_empties now to r x ∙ sym (cond-true (is_whole last later) [] (bytes_in_order (asking_bytes to.stand.rest.knows.version) last) w);
    }

  -- and each of it is done
  pub part_done : (health : Health) (broken : Result (Unit {0}) Break) → length last ≡ max_waiting → SendsPart now to health (length before) max_waiting true broken → SoSent from to (before ++ last) []
  part_done health broken full p =
      let done = p.is_done refl in
      let x : Exchanges now to (Ok tt) = subst (λ (r : Result (Unit {0}) Break). Exchanges now to r) done.0 p.exchanged in
      let told : to.stand.account.lost ≡ [] = exchanged_told now to x ∙ s.told in
      record {
        parts = suc s.parts;
        whole = length-append before last ∙ ap₂ (λ a b. a + b) s.whole full ∙ omega arith;
        few = omega arith;
        done = λ i l. ⊎_elim (λ (m : i < length before). stays (Ok tt) x i m)
            (λ (m : length before ≤ i).
            let n : length (before ++ last) ≡ length before + length last = length-append before last in
            let at : length before + (i - length before) ≡ i = omega (arith, m) in
            done_answered to.stand.account i told (ap (λ k. is_done (outcome_of to.stand.account k)) (sym at) ∙ each_done (outcome_of to.stand.account) (length before) max_waiting done.1 (i - length before) (omega (arith, l, n, full, m))))
            (lt_or_le i (length before));
        told = told;
        waits = ap (λ (s : Stand). s.rest.knows.waiting) x.settles ∙ ends x;
        calls = s.calls ++ (led (Ok tt) x).calls;
        heard = s.heard ++ (led (Ok tt) x).heard;
        unheard = (led (Ok tt) x).unheard;
        out = s.out ++ now.stand.rest.unsent;
        leads = subst (λ qs. Leads from.stand (s.calls ++ (led (Ok tt) x).calls) to.stand qs (s.heard ++ (led (Ok tt) x).heard) (s.out ++ now.stand.rest.unsent) false) (sym (append-nil (before ++ last)))
            (subst (λ b. Leads from.stand (s.calls ++ (led (Ok tt) x).calls) to.stand (before ++ last) (s.heard ++ (led (Ok tt) x).heard) (s.out ++ now.stand.rest.unsent) b) (led (Ok tt) x).unlost (leads (Ok tt) x));
        input = input (Ok tt) x;
        quiet = (led (Ok tt) x).whole;
        so = inr (inr (stops (Ok tt) x));
        is_open = λ l. absurd (omega (arith, l));
        written = Grows-trans from.written now.written to.written s.out now.stand.rest.unsent s.written x.converses.writes;
        unsent = exchange_empties now to (Ok tt) x;
      }
    where
      ends : (x : Exchanges now to (Ok tt)) → x.answered.rest.knows.waiting ≡ []
      ends x = x.converses.stops.0.1

      lt_or_le : (i n : ℕ) → (i < n) ⊎ (n ≤ i)
      lt_or_le i zero = inr (omega arith)
      lt_or_le zero (suc n) = inl (omega arith)
      lt_or_le (suc i) (suc n) = ⊎_elim (λ (m : i < n). inl (omega (arith, m))) (λ (m : n ≤ i). inr (omega (arith, m))) (lt_or_le i n)

-- a request isn't accepted, and the last part never goes out
pub stopped : (from now : Place) (before last : List RequestView) → SoSent from now before last → (health : Health) (q : RequestView) (behind all : List RequestView) (n : ℕ) → length last < max_waiting → all ≡ before ++ (last ++ q ∷ behind) → n ≡ length (before ++ last) → (rule : SubmitFault) → ((rule ≡ SubmitFault.Memory → ⊥) → refuses now.stand.rest.knows q ≡ Some rule) → (rule ≡ SubmitFault.Memory → refuses_at_once now.stand.rest.knows q ≡ None) → (broken : Result (Unit {0}) Break) → broken ≡ short_of rule → IsSeen broken health → SendsInParts from now health all n broken
stopped from now before last s health q behind all n room asks count rule first needed broken told seen = record {
  seen = seen;
  why = inr (inl (record { request = q; behind = behind; parts = refl; rule = rule; first = first; needed = needed; told = told }));
  stops =
      ⊎_elim (λ e. inl (record { request = q; behind = behind; parts = refl; rule = rule; first = first; needed = needed; told = told }, e))
      (λ e. inr (⊎_elim (λ open_now. let no : false ≡ true = sym open_now ∙ e in absurd (true≢false (sym no)))
      (λ k. ⊎_elim (λ had. inl had) (λ p. inr (ended e p)) k)
      s.so))
      (either now.stand.rest.knows.over);
  before = before;
  last = last;
  later = q ∷ behind;
  asks = asks;
  count = count;
  parts = s.parts;
  whole = s.whole;
  few = s.few;
  done = s.done;
  calls = s.calls;
  heard = s.heard;
  unheard = s.unheard;
  out = s.out;
  lost = false;
  leads = s.leads;
  input = s.input;
  ends = λ _. ⊎_elim (λ e. inl e) (λ o. inr (s.calls, now.stand, s.leads, o)) s.quiet;
  written = inl s.written;
  unsent = s.unsent ∙ sym (cond-false (is_whole last (q ∷ behind)) [] (bytes_in_order (asking_bytes now.stand.rest.knows.version) last) (grind (arith, nat_tests)));
}
  where
    ended : now.stand.rest.knows.over ≡ true → StopsBy from.stand before s.heard s.out s.unheard (Ok tt) → StopsBy from.stand (before ++ last) s.heard s.out s.unheard broken
    ended e p =
        let all : before ++ last ≡ before = ap (λ l. before ++ l) (none_left last (λ l. s.is_open l e)) ∙ append-nil before in
        let ok : broken ≡ Ok tt = told ∙ short_ok rule (λ m. ended_at_once now.stand.rest.knows q e (needed m)) in
        subst (λ qs. StopsBy from.stand qs s.heard s.out s.unheard broken) (sym all) (subst (λ (r : Result (Unit {0}) Break). StopsBy from.stand before s.heard s.out s.unheard r) (sym ok) p)

-- So many requests were accepted, the last of them in the part that waits.
pub record SoAsked (from now : Place) (qs : List RequestView) (n : ℕ) : Type 0 where
  pub before : List RequestView
  pub last : List RequestView
  pub parts : qs ≡ before ++ last
  pub count : n ≡ length qs
  pub sent : SoSent from now before last
  pub some : 0 < length qs → 0 < length last

-- a fact about a result, by a test of the result
pub ok_part : {T E : Type 0} (x : Result T E) (P : T → Type 0) → is_err x ≡ false → IfOk x P → (y : T) × P y
ok_part (Ok y) P e h = (y, h)
ok_part (Err f) P e h = cc

pub err_part : {T E : Type 0} (x : Result T E) (P : E → Type 0) → is_err x ≡ true → IfErr x P → (y : E) × P y
err_part (Ok y) P e h = cc
err_part (Err f) P e h = (f, h)

pub none_asked : (from : Place) → IsQuiet from.stand → SoAsked from from [] 0
none_asked from q = record { before = []; last = []; parts = refl; count = refl; sent = none_sent from q; some = λ l. absurd (omega (arith, l)) }

-- They were accepted, and one more may be submitted.
pub record HasRoom (from now : Place) (qs : List RequestView) : Type 0 where
  pub before : List RequestView
  pub last : List RequestView
  pub parts : qs ≡ before ++ last
  pub sent : SoSent from now before last
  pub room : length last < max_waiting

-- a part that is full has as many requests as may wait, and they are the last of those that were asked
full_length : (from now : Place) (before last : List RequestView) → SoSent from now before last → max_waiting ≤ length now.stand.rest.knows.waiting → length last ≡ max_waiting
full_length from now before last s m = let n = ap length s.waits in let few = s.few in omega (arith, m, n, few)

full_first : (before last qs : List RequestView) (n : ℕ) → qs ≡ before ++ last → n ≡ length qs → length last ≡ max_waiting → n - max_waiting ≡ length before
full_first before last qs n e c f =
    let k : length qs ≡ length before + length last = ap length e ∙ length-append before last in
    omega (arith, c, k, f)

pub room_made : (from now mid : Place) (qs : List RequestView) (n : ℕ) (health : Health) (room : Bool) (broken : Result (Unit {0}) Break) → SoAsked from now qs n → MakesRoom now mid health n room broken → room ≡ true → HasRoom from mid qs
room_made from now mid qs n health room broken s m has =
    ⊎_elim
    (λ few.
    let k = ap length s.sent.waits in
    let less = few.0 in
    record {
      before = s.before;
      last = s.last;
      parts = s.parts;
      sent = subst (λ (z : Place). SoSent from z s.before s.last) (sym few.1.0) s.sent;
      room = omega (arith, k, less);
    })
    (λ full.
    let f = full_length from now s.before s.last s.sent full.0 in
    record {
      before = s.before ++ s.last;
      last = [];
      parts = s.parts ∙ sym (append-nil (s.before ++ s.last));
      sent = part_done from now mid s.before s.last s.sent (omega (arith, f)) health broken f (subst (λ k. SendsPart now mid health k max_waiting true broken) (full_first s.before s.last qs n s.parts s.count f) (subst (λ b. SendsPart now mid health (n - max_waiting) max_waiting b broken) has full.1));
      room = omega arith;
    })
    m

whole_full : (last later : List RequestView) → length last ≡ max_waiting → is_whole last later ≡ true
whole_full last later f = ap (λ n. n == max_waiting || length later == 0) f

whole_end : (last : List RequestView) → is_whole last [] ≡ true
whole_end last = or_true (length last == max_waiting)
  where
    or_true : (b : Bool) → (b || true) ≡ true
    or_true true = refl
    or_true false = refl

behind_parts : (all qs before last later : List RequestView) → all ≡ qs ++ later → qs ≡ before ++ last → all ≡ before ++ (last ++ later)
behind_parts all qs before last later e p = e ∙ ap (λ l. l ++ later) p ∙ append_assoc before last later

pub no_room : (from now to : Place) (qs : List RequestView) (n : ℕ) (health : Health) → SoAsked from now qs n → (room : Bool) (broken : Result (Unit {0}) Break) → MakesRoom now to health n room broken → room ≡ false → (later all : List RequestView) → all ≡ qs ++ later → SendsInParts from to health all n broken
no_room from now to qs n health s room broken m lacks later all e =
    ⊎_elim (λ few. let no : false ≡ true = sym lacks ∙ few.1.1 in cc)
    (λ full.
    let f = full_length from now s.before s.last s.sent full.0 in
    part_ended from now to s.before s.last s.sent (omega (arith, f)) broken full.1.exchanged health full.1.seen later all n (whole_full s.last later f) (behind_parts all qs s.before s.last later e s.parts) (s.count ∙ ap length s.parts)
    (inr (inr (f, subst (λ k. IsUndone broken to.stand k max_waiting) (full_first s.before s.last qs n s.parts s.count f) (full.1.is_undone lacks)))))
    m

pub one_more : (from now : Place) (qs : List RequestView) (n : ℕ) → HasRoom from now qs → n ≡ length qs → (q : RequestView) (new : Stand) → refuses now.stand.rest.knows q ≡ None → new.rest ≡ after_submit now.stand.rest q → new.account ≡ now.stand.account → SoAsked from (place new now.given now.written) (qs ++ q ∷ []) (n + 1)
one_more from now qs n h c q new accepted r a = record {
  before = h.before;
  last = h.last ++ q ∷ [];
  parts = ap (λ l. l ++ q ∷ []) h.parts ∙ append_assoc h.before h.last (q ∷ []);
  count = ap (λ k. k + 1) c ∙ sym (length-append qs (q ∷ []));
  sent = one_sent from now h.before h.last h.sent q accepted h.room new r a;
  some = λ _. let k = longer h.last q in omega (arith, k);
}

pub none_more : (from now : Place) (qs : List RequestView) (n : ℕ) (health : Health) → HasRoom from now qs → n ≡ length qs → (q : RequestView) (behind all : List RequestView) → all ≡ qs ++ q ∷ behind → (new : Stand) → new ≡ now.stand → (rule : SubmitFault) → ((rule ≡ SubmitFault.Memory → ⊥) → refuses now.stand.rest.knows q ≡ Some rule) → (rule ≡ SubmitFault.Memory → refuses_at_once now.stand.rest.knows q ≡ None) → (broken : Result (Unit {0}) Break) → broken ≡ short_of rule → IsSeen broken health → SendsInParts from (place new now.given now.written) health all n broken
none_more from now qs n health h c q behind all e new same rule first needed broken told seen =
    subst (λ (z : Stand). SendsInParts from (place z now.given now.written) health all n broken) (sym same)
    (stopped from now h.before h.last h.sent health q behind all n h.room (behind_parts all qs h.before h.last (q ∷ behind) e h.parts) (c ∙ ap length h.parts) rule first needed broken told seen)

pub all_sent : (from now to : Place) (qs : List RequestView) (n : ℕ) (health : Health) → SoAsked from now qs n → 0 < length qs → (r : Result (Unit {0}) Break) → Exchanges now to r → IsSeen r health → SendsInParts from to health qs n r
all_sent from now to qs n health s l r x seen =
    part_ended from now to s.before s.last s.sent (s.some l) r x health seen [] qs n (whole_end s.last) (behind_parts qs qs s.before s.last [] (sym (append-nil qs)) s.parts) (s.count ∙ ap length s.parts) (inl refl)
