-- The result of an attempt over streams.
use Rattle.std.proofs.Common.{◌≡◌, refl, sym, ◌∙◌, ap, ap₂, subst, ℕ, suc, Bool, true, false, ◌||◌, Option, Some, None, Result, Ok, Err, List, [], ◌∷◌, ◌++◌, ◌<◌, if◌then◌else◌, length, slice_get, option_map, append_assoc, append-nil, is_err, true≢false, inl, inr, ◌⊎◌, ⊎_elim, arith}
use Rattle.std.proofs.lemmas.List.{append_cancel_right}
use Rattle.streams.specs.Moving.{Grows}
use Rattle.streams.proofs.Moving.{Grows-trans}
use Rattle.wire.specs.declared.Wish.{Wish}
use Rattle.wire.specs.declared.Version.{Version}
use Rattle.wire.specs.Prelude.{offer_of, bytes_in_order}
use Rattle.messages.specs.declared.Count.TheVariants as counts
use Rattle.messages.specs.Prelude.{RequestView}
use Rattle.client.specs.Client.{knows_of, reading_of}
use Rattle.client.specs.Rest.{Knows, asking_bytes}
use Rattle.client.specs.Moments.{put_out, IsByBytes}
use Rattle.client_tracking.specs.declared.attempts.Tells.{Tells}
use Rattle.client_tracking.specs.declared.attempts.Tells.TheVariants as tells_variant
use Rattle.client_tracking.specs.Account.{Account, ReplyView, failure_of, reply_in}
use Rattle.client_tracking.specs.Attempts.{Made, read, told_of, tells}
use Rattle.client_tracking.specs.Telling.{is_clash, any_final, tells_of}
use Rattle.client_tracking.specs.Runs.{TrackedCall, IsLost, TrackedRun, tracking, tracked_calls, attempt_of}
use Rattle.client_tracking.proofs.Accounts.{accounts_by_bytes, run_by_bytes}
use Rattle.client_tracking.proofs.Joined.{account_tells}
use Rattle.driver.specs.declared.breaks.Break.{Break}
use Rattle.driver.specs.declared.breaks.Break.TheVariants as break
use Rattle.driver.specs.Prelude.{Stand, stand_in, GoesOn, Leads, lost_stand, Place, place, Health, Hears, Stops, is_short, IsSeen, Exchanges, is_done, IsWritten, is_whole, gone, is_answered, IsQuiet, IsRefused, SendsInParts, WhyLeft, AskedView, requests_of, asks_of, greeting, Streams, streams, at_first, has_ended, AttemptStops, IsShort, TellsOf}
use Rattle.driver.proofs.Leading.{leads_on, leads_lost}
use Rattle.driver.proofs.Stopping.{stops_by_bytes}
use Rattle.driver.proofs.Reading.{none_unheard, Led, exchange_led}
use Rattle.driver.proofs.Parting.{answered_done, losses_replies, exchanged_told}
use Rattle.driver.proofs.Keeping.{exchange_empties}

-- memory ran out before the first request
pub none_short : (a : AskedView) (from to : Streams) → IsShort a from to → TellsOf a from to tells_variant.Nothing (Err break.Memory)
none_short a from to short = (None, refl, λ conn. inl (refl, short))

-- the exchange of the offer led to a version
pub agreed : (a : AskedView) (from to : Place) (health health_then : Health) (broken : Result (Unit {0}) Break) → from.stand ≡ at_first a.wish 0 → Exchanges from to broken → broken ≡ Ok tt → to.stand.rest.knows.over ≡ false → IsShort a (streams from.given from.written health) (streams to.given to.written health_then)
agreed a from to health health_then broken start x ok is_open =
    inr (record {
      heard = to.stand;
      exchanged = subst (λ (r : Result (Unit {0}) Break). Exchanges (place (at_first a.wish 0) from.given from.written) (place to.stand to.given to.written) r) ok
          (subst (λ (s : Stand). Exchanges (place s from.given from.written) (place to.stand to.given to.written) broken) start x);
      is_open = is_open;
    })

-- the exchange of the offer led to no version
pub none_begun : (a : AskedView) (from to : Place) (health health_then : Health) (broken : Result (Unit {0}) Break) → from.stand ≡ at_first a.wish 0 → Exchanges from to broken → IsSeen broken health_then → (broken ≡ Ok tt → to.stand.rest.knows.over ≡ true)
    → TellsOf a (streams from.given from.written health) (streams to.given to.written health_then) tells_variant.Nothing broken
none_begun a from to health health_then broken start x seen ends = (
  None,
  refl,
  λ conn. inr (record {
    heard = to.stand;
    exchanged = subst (λ (s : Stand). Exchanges (place s from.given from.written) (place to.stand to.given to.written) broken) start x;
    seen = seen;
    ends = ends;
  }),
)

last_of : (xs : List RequestView) (y : RequestView) → slice_get (xs ++ y ∷ []) (length xs) ≡ Some y
last_of [] y = refl
last_of (x ∷ xs) y = last_of xs y

length_last : (xs : List RequestView) (y : RequestView) → length (xs ++ y ∷ []) ≡ suc (length xs)
length_last [] y = refl
length_last (x ∷ xs) y = ap suc (length_last xs y)

suc_same : (a b : ℕ) → suc a ≡ suc b → a ≡ b
suc_same a b e = cc

or_lost : (a b : Bool) → (a || (b || true)) ≡ true
or_lost true b = refl
or_lost false true = refl
or_lost false false = refl

-- after the version was read, no request is pending
pub heard_quiet : (wish : Wish) (from heard : Place) (r : Result (Unit {0}) Break) → Exchanges from heard r → r ≡ Ok tt → from.stand ≡ at_first wish 0 → IsQuiet heard.stand
heard_quiet wish from heard r y e start =
    let x : Exchanges from heard (Ok tt) = subst (λ (z : Result (Unit {0}) Break). Exchanges from heard z) e y in
    record {
      waits = ap (λ (s : Stand). s.rest.knows.waiting) x.settles ∙ x.converses.stops.0.1;
      unsent = exchange_empties from heard (Ok tt) x;
      lost = exchanged_told from heard x ∙ ap (λ (s : Stand). s.account.lost) start;
    }

-- the bytes of requests after others
bytes_append : (f : RequestView → List ℕ) (xs ys : List RequestView) → bytes_in_order f (xs ++ ys) ≡ bytes_in_order f xs ++ bytes_in_order f ys
bytes_append f [] ys = refl
bytes_append f (x ∷ xs) ys = ap (λ l. f x ++ l) (bytes_append f xs ys) ∙ sym (append_assoc (f x) (bytes_in_order f xs) (bytes_in_order f ys))

-- COMMIT is the last of them
pub commits : (a : AskedView) (login : Bool) (n : ℕ) → length (requests_of login a) ≡ suc n → slice_get (requests_of login a) n ≡ Some RequestView.Commit
commits a login n count =
    let before : List RequestView = greeting login a.agent a.auth ++ RequestView.Begin a.mode (Some a.token) ∷ asks_of a.mode (RequestView.Discard counts.All) a.queries in
    let parts : requests_of login a ≡ before ++ RequestView.Commit ∷ [] = sym (append_assoc (greeting login a.agent a.auth) (RequestView.Begin a.mode (Some a.token) ∷ asks_of a.mode (RequestView.Discard counts.All) a.queries) (RequestView.Commit ∷ [])) in
    let at : length before ≡ n = suc_same (length before) n (sym (length_last before RequestView.Commit) ∙ ap length (sym parts) ∙ count) in
    subst (λ (z : List RequestView). slice_get z n ≡ Some RequestView.Commit) (sym parts) (subst (λ k. slice_get (before ++ RequestView.Commit ∷ []) k ≡ Some RequestView.Commit) at (last_of before RequestView.Commit))

-- there is one at least
pub some_requests : (a : AskedView) (login : Bool) → 0 < length (requests_of login a)
some_requests a true = omega arith
some_requests a false = omega arith

module _ (a : AskedView) (login : Bool) (from heard done : Place) (start : from.stand ≡ at_first a.wish 0) (first : Exchanges from heard (Ok tt)) (still_open : heard.stand.rest.knows.over ≡ true → ⊥)
    (health had : Health) (n : ℕ) (broken : Result (Unit {0}) Break) (s : SendsInParts heard done health (requests_of login a) n broken) (commit : ℕ) (count : length (requests_of login a) ≡ suc commit) (told : Tells) (tell : told ≡ tells_of (lost_stand done.stand).account commit n) where
  one : Led from heard (Ok tt)
  one = exchange_led from heard (Ok tt) first

  abbrev sent : List RequestView
  sent = s.before ++ s.last

  abbrev calls : List TrackedCall
  calls = one.calls ++ (s.calls ++ IsLost ∷ [])

  abbrev bytes : List ℕ
  bytes = one.heard ++ (s.heard ++ [])

  abbrev offer : List ℕ
  offer = from.stand.rest.unsent

  leads : Leads from.stand calls (lost_stand done.stand) ([] ++ (sent ++ [])) bytes (offer ++ (s.out ++ [])) (one.lost || (s.lost || true))
  leads = leads_on one.calls (s.calls ++ IsLost ∷ []) one.leads (leads_on s.calls (IsLost ∷ []) s.leads (leads_lost done.stand))

  abbrev made : ℕ → TrackedRun → Made
  made conn x = record { attempt = attempt_of a.wish x.run; commit = commit; clash = is_clash (failure_of x.account commit); final = any_final x.account (length x.run.sent); conn = conn }

  abbrev run : TrackedRun
  run = tracked_calls (tracking a.wish 0) calls

  goes : GoesOn (tracking a.wish 0) run (lost_stand done.stand) ([] ++ (sent ++ [])) bytes (offer ++ (s.out ++ [])) (one.lost || (s.lost || true))
  goes = leads (tracking a.wish 0) (sym start)

  sent_is : run.run.sent ≡ sent
  sent_is = goes.sent ∙ append-nil sent

  took : run.run.took ≡ one.heard ++ s.heard
  took = goes.took ∙ ap (λ l. one.heard ++ l) (append-nil s.heard)

  input : Grows from.given done.given ((one.heard ++ s.heard) ++ s.unheard)
  input =
      let whole : one.heard ++ one.unheard ≡ one.heard = ap (λ l. one.heard ++ l) (none_unheard one.unheard heard.stand one.whole still_open) ∙ append-nil one.heard in
      subst (Grows from.given done.given) (ap (λ l. l ++ (s.heard ++ s.unheard)) whole ∙ sym (append_assoc one.heard s.heard s.unheard))
      (Grows-trans from.given heard.given done.given (one.heard ++ one.unheard) (s.heard ++ s.unheard) one.input s.input)

  by_bytes : IsByBytes a.wish run.run
  by_bytes = run_by_bytes a.wish 0 calls

  abbrev version : Option Version
  version = (read (attempt_of a.wish run.run)).version

  -- the client put out the offer and the requests of each complete part
  came : run.run.out ≡ offer ++ s.out
  came = goes.put ∙ ap (λ l. offer ++ l) (append-nil s.out)

  puts : offer ++ s.out ≡ put_out a.wish version (gone s.before s.last s.later)
  puts = go (is_whole s.last s.later) left
    where
      text : RequestView → List ℕ
      text = asking_bytes version

      same : done.stand.rest.knows.version ≡ version
      same = ap (λ (z : Stand). z.rest.knows.version) (sym goes.stands) ∙ ap (λ k. k.version) by_bytes.knows

      left : run.run.rest.unsent ≡ (if is_whole s.last s.later then [] else bytes_in_order text s.last)
      left = ap (λ (z : Stand). z.rest.unsent) goes.stands ∙ s.unsent ∙ ap (λ v. if is_whole s.last s.later then [] else bytes_in_order (asking_bytes v) s.last) same

      all : (offer ++ s.out) ++ run.run.rest.unsent ≡ put_out a.wish version sent
      all = ap (λ l. l ++ run.run.rest.unsent) (sym came) ∙ by_bytes.out ∙ ap (put_out a.wish version) sent_is

      go : (b : Bool) → run.run.rest.unsent ≡ (if b then [] else bytes_in_order text s.last) → offer ++ s.out ≡ put_out a.wish version (if b then sent else s.before)
      go true e = sym (append-nil (offer ++ s.out)) ∙ ap (λ l. (offer ++ s.out) ++ l) (sym e) ∙ all
      go false e =
          append_cancel_right (offer ++ s.out) (put_out a.wish version s.before) (bytes_in_order text s.last)
          (ap (λ l. (offer ++ s.out) ++ l) (sym e) ∙ all ∙ ap (λ l. offer_of a.wish ++ l) (bytes_append text s.before s.last) ∙ sym (append_assoc (offer_of a.wish) (bytes_in_order text s.before) (bytes_in_order text s.last)))

  written : IsWritten from.written done.written health.write_failed (offer ++ s.out)
  written =
      ⊎_elim (λ w. inl (Grows-trans from.written heard.written done.written offer s.out first.converses.writes w))
      (λ f. inr (f.0, (offer ++ f.1.0, f.1.1, append_assoc offer f.1.0 f.1.1 ∙ ap (λ l. offer ++ l) f.1.2, Grows-trans from.written heard.written done.written offer f.1.0 first.converses.writes f.1.3)))
      s.written

  tells_it : (conn : ℕ) → tells (made conn run) ≡ told
  tells_it conn =
      sym (account_tells a.wish 0 calls commit conn)
      ∙ ap (λ (z : ℕ). tells_of run.account commit z) (ap length sent_is ∙ sym s.count)
      ∙ ap (λ (z : Stand). tells_of z.account commit n) goes.stands ∙ sym tell

  done_before : (i : ℕ) → i < length s.before → is_done (told_of (attempt_of a.wish run.run) i) ≡ true
  done_before i l =
      let account : run.account ≡ (lost_stand done.stand).account = ap (λ (z : Stand). z.account) goes.stands in
      let answered : is_answered run.account i ≡ true = ap (λ rs. is_done (option_map (λ (r : ReplyView). r.outcome) (reply_in i rs))) (ap (λ (z : Account). z.replies) account ∙ losses_replies done.stand.account _) ∙ s.done i l in
      ap is_done (sym (accounts_by_bytes a.wish 0 calls i)) ∙ answered_done run.account i answered

  -- all was heard, or by these bytes the client has ended
  ended : is_short broken ≡ false → (s.unheard ≡ []) ⊎ (has_ended (attempt_of a.wish run.run) ≡ true)
  ended k =
      ⊎_elim (λ e. inl e)
      (λ p.
      let before = one.calls ++ p.0 in
      let y : TrackedRun = tracked_calls (tracking a.wish 0) before in
      let h : GoesOn (tracking a.wish 0) y p.1 ([] ++ sent) (one.heard ++ s.heard) (offer ++ s.out) (one.lost || false) = leads_on one.calls p.0 one.leads p.2 (tracking a.wish 0) (sym start) in
      let sent_then : y.run.sent ≡ run.run.sent = h.sent ∙ sym sent_is in
      let took_then : y.run.took ≡ run.run.took = h.took ∙ sym took in
      let open_then : y.run.lost ≡ false = h.lose ∙ ap (λ b. b || false) one.unlost in
      let over : y.run.rest.knows.over ≡ true = ap (λ (z : Stand). z.rest.knows.over) h.stands ∙ p.3 in
      let by : y.run.rest.knows ≡ knows_of (reading_of a.wish y.run.sent y.run.took) y.run.sent y.run.lost = (run_by_bytes a.wish 0 before).knows in
      let same : knows_of (reading_of a.wish y.run.sent y.run.took) y.run.sent y.run.lost ≡ knows_of (reading_of a.wish run.run.sent run.run.took) run.run.sent false
      = ap₂ (λ qs bs. knows_of (reading_of a.wish qs bs) qs y.run.lost) sent_then took_then ∙ ap (λ l. knows_of (reading_of a.wish run.run.sent run.run.took) run.run.sent l) open_then in
      inr (sym (ap (λ (z : Knows). z.over) (by ∙ same)) ∙ over))
      (s.ends k)

  -- why the last exchange stopped, by the bytes
  stopped : (IsRefused (stand_in (tracked_calls (tracking a.wish 0) (one.calls ++ s.calls))) s.later broken × ((stand_in (tracked_calls (tracking a.wish 0) (one.calls ++ s.calls))).rest.knows.over ≡ false)) ⊎ AttemptStops broken (attempt_of a.wish run.run) s.unheard
  stopped =
      ⊎_elim
      (λ q. inl (subst (λ (z : Stand). IsRefused z s.later broken × (z.rest.knows.over ≡ false)) (sym ((leads_on one.calls s.calls one.leads s.leads) (tracking a.wish 0) (sym start)).stands) q))
      (⊎_elim (λ had. absurd (still_open had))
      (λ p.
      let cs = one.calls ++ p.calls in
      let y : TrackedRun = tracked_calls (tracking a.wish 0) cs in
      let h : GoesOn (tracking a.wish 0) y p.start ([] ++ sent) (one.heard ++ p.earlier) (offer ++ s.out) (one.lost || false) = leads_on one.calls p.calls one.leads p.leads (tracking a.wish 0) (sym start) in
      let unlost : y.run.lost ≡ false = h.lose ∙ ap (λ b. b || false) one.unlost in
      let took_then : y.run.took ++ p.last ≡ run.run.took = ap (λ l. l ++ p.last) h.took ∙ append_assoc one.heard p.earlier p.last ∙ ap (λ l. one.heard ++ l) (sym p.parts) ∙ sym took in
      let stops = stops_by_bytes a.wish cs unlost (ap (λ (z : Stand). z.rest.knows.over) h.stands ∙ p.is_open) p.at p.last s.unheard (subst (λ (z : Stand). Hears z p.at p.last) (sym h.stands) p.hears) run.run.lost broken
      (subst (λ (z : Stand). Stops broken z p.at p.last s.unheard) (sym h.stands) p.stops) in
      inr (subst (λ bytes. AttemptStops broken (record { wish = a.wish; sent = run.run.sent; took = bytes; lost = run.run.lost }) s.unheard) took_then
      (subst (λ qs. AttemptStops broken (record { wish = a.wish; sent = qs; took = y.run.took ++ p.last; lost = run.run.lost }) s.unheard) (h.sent ∙ sym sent_is) stops))))
      s.stops

  pub attempted : TellsOf a (streams from.given from.written had) (streams done.given done.written health) told broken
  attempted = (
    Some (calls, commit),
    tells_it 0,
    λ conn. record {
      sent = record {
        asked = one.calls ++ s.calls;
        calls = calls;
        at_last = sym (append_assoc one.calls s.calls (IsLost ∷ []));
        why = subst (λ (z : Stand). WhyLeft z s.before s.last s.later broken) (sym ((leads_on one.calls s.calls one.leads s.leads) (tracking a.wish 0) (sym start)).stands) s.why;
        is = refl;
        login = login;
        before = s.before;
        last = s.last;
        later = s.later;
        asks = s.asks;
        parts = s.parts;
        whole = s.whole;
        few = s.few;
        done = done_before;
        wish = refl;
        sent = sent_is;
        commit = commits a login commit count;
        lost = goes.lose ∙ or_lost one.lost s.lost;
        at = refl;
      };
      seen = s.seen;
      written = subst (IsWritten from.written done.written health.write_failed) puts written;
      puts = came ∙ puts;
      unheard = s.unheard;
      took = subst (λ l. Grows from.given done.given (l ++ s.unheard)) (sym took) input;
      ends = ended;
      stops = stopped;
    },
  )

pub ok_of : (x : Result (Unit {0}) Break) → is_err x ≡ false → x ≡ Ok tt
ok_of (Ok u) e = refl
ok_of (Err e) h = cc

-- an exchange that broke off isn't one that didn't
pub none_over : {P : Type 0} (x : Result (Unit {0}) Break) → is_err x ≡ true → x ≡ Ok tt → P
none_over (Ok u) e h = absurd (true≢false (sym e))
none_over (Err f) e h = absurd cc
