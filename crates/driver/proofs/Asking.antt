-- Requests that are asked in turn.
use Rattle.std.proofs.Common.{◌≡◌, refl, sym, ◌∙◌, ap, subst, ℕ, suc, ◌+◌, ◌<◌, ◌^◌, Bool, true, false, ◌||◌, ◌&&◌, nat_lt, Option, Some, None, Result, Ok, Err, List, [], ◌∷◌, ◌++◌, length, append-nil, arith}
use Rattle.std.specs.Result.{result_err}
use Rattle.messages.specs.Prelude.{RequestView}
use Rattle.messages.specs.View.{AuthView}
use Rattle.std.proofs.lemmas.Bool.Decides.{nat_tests}
use Rattle.client.specs.declared.Outcome.{Outcome}
use Rattle.client.specs.declared.SubmitFault.{SubmitFault}
use Rattle.client.specs.Prelude.{Knows, Rest, refuses, after_submit, submits, has_room}
use Rattle.client.specs.Rest.{next_ordinal}
use Rattle.client.proofs.Refusing.{accepted_facts}
use Rattle.client_tracking.specs.Account.{Account}
use Rattle.client_tracking.specs.Runs.{Asks, TrackedRun, tracked_call}
use Rattle.driver.specs.declared.breaks.Break.{Break}
use Rattle.driver.specs.declared.faults.Fault.{Fault}
use Rattle.driver.specs.declared.faults.Fault.TheVariants as fault
use Rattle.driver.specs.Prelude.{Stand, stand_in, GoesOn, Leads, Place, place, Health, IsSeen, Exchanges, or_undone, first_undone, Told, fresh, given_up, Sent, IsNotSent, Says, Blames, asked_stand, asked_all, AcceptsEach, StopsAt, AsksAll, greeting}
use Rattle.driver.proofs.Reading.{stand_is}

pub asked_more : (s : Stand) (qs : List RequestView) (q : RequestView) → asked_all s (qs ++ q ∷ []) ≡ asked_stand (asked_all s qs) q
asked_more s [] q = refl
asked_more s (p ∷ qs) q = asked_more (asked_stand s p) qs q

pub accepts_more : (s : Stand) (qs : List RequestView) (q : RequestView) → AcceptsEach s qs → refuses (asked_all s qs).rest.knows q ≡ None → AcceptsEach s (qs ++ q ∷ [])
accepts_more s [] q h e = (e, tt)
accepts_more s (p ∷ qs) q h e = (h.0, accepts_more (asked_stand s p) qs q h.1 e)

-- after a first request
pub asks_behind : (from to : Stand) (q : RequestView) (qs : List RequestView) (o : Option SubmitFault) → refuses from.rest.knows q ≡ None → AsksAll (asked_stand from q) to qs o → AsksAll from to (q ∷ qs) o
asks_behind from to q qs None e h = ((e, h.0), h.1)
asks_behind from to q qs (Some rule) e h = record { before = q ∷ h.before; request = h.request; behind = h.behind; parts = ap (λ l. q ∷ l) h.parts; accepted = (e, h.accepted); stays = h.stays; first = h.first }

ask_run : (x : TrackedRun) (q : RequestView) → refuses x.run.rest.knows q ≡ None → GoesOn x (tracked_call x (Asks q)) (asked_stand (stand_in x) q) (q ∷ []) [] [] false
ask_run x q e = subst (λ o. GoesOn x (record x { run = submits x.run q o }) (asked_stand (stand_in x) q) (q ∷ []) [] [] false) (sym e) (record { stands = refl; sent = refl; took = sym (append-nil x.run.took); put = sym (append-nil x.run.out); lose = or_false x.run.lost })
  where
    or_false : (a : Bool) → a ≡ (a || false)
    or_false true = refl
    or_false false = refl

pub leads_ask : (s : Stand) (q : RequestView) → refuses s.rest.knows q ≡ None → Leads s (Asks q ∷ []) (asked_stand s q) (q ∷ []) [] [] false
leads_ask s q e x f = subst (λ (z : Stand). GoesOn x (tracked_call x (Asks q)) (asked_stand z q) (q ∷ []) [] [] false) f (ask_run x q (ap (λ (z : Stand). refuses z.rest.knows q) f ∙ e))

-- a request that is accepted has an ordinal below 2^63
pub accepted_open : (k : Knows) (q : RequestView) → refuses k q ≡ None → k.over ≡ true → ⊥
accepted_open k q e o = let f = (accepted_facts k q e).0 in cc

and_second : (a b : Bool) → (a && b) ≡ true → b ≡ true
and_second true b e = e
and_second false b e = cc

pub accepted_short : (r : Rest) (q : RequestView) → refuses r.knows q ≡ None → next_ordinal r < 2 ^ 63
accepted_short r q e =
    let room : has_room r.knows ≡ true = (accepted_facts r.knows q e).2 in
    let below : nat_lt (r.knows.first + length r.knows.waiting) (2 ^ 63) ≡ true = and_second (nat_lt (length r.knows.waiting) 32) (nat_lt (r.knows.first + length r.knows.waiting) (2 ^ 63)) room in
    grind (arith, nat_tests)

-- These were accepted so far.
pub record AskedSoFar (from now : Stand) (qs : List RequestView) : Type 0 where
  pub accepted : AcceptsEach from qs
  pub stands : now ≡ asked_all from qs

pub asked_none : (s : Stand) → AskedSoFar s s []
asked_none s = record { accepted = tt; stands = refl }

pub asked_on : {from now : Stand} {qs : List RequestView} → AskedSoFar from now qs → (new : Stand) (q : RequestView) → refuses now.rest.knows q ≡ None → new.rest ≡ after_submit now.rest q → new.account ≡ now.account → AskedSoFar from new (qs ++ q ∷ [])
asked_on {from = from} {now = now} {qs = qs} so new q e r a = record {
  accepted = accepts_more from qs q so.accepted (ap (λ (z : Stand). refuses z.rest.knows q) (sym so.stands) ∙ e);
  stands = stand_is new (asked_stand now q) r a ∙ ap (λ (z : Stand). asked_stand z q) so.stands ∙ sym (asked_more from qs q);
}

pub asked_stops : {from now : Stand} {qs : List RequestView} → AskedSoFar from now qs → (new : Stand) (q : RequestView) (behind all : List RequestView) (rule : SubmitFault) → new ≡ now → ((rule ≡ SubmitFault.Memory → ⊥) → refuses now.rest.knows q ≡ Some rule) → qs ++ q ∷ behind ≡ all → StopsAt from new all rule
asked_stops {from = from} {now = now} {qs = qs} so new q behind all rule same first parts = record {
  before = qs;
  request = q;
  behind = behind;
  parts = sym parts;
  accepted = so.accepted;
  stays = same ∙ so.stands;
  first = λ n. ap (λ (z : Stand). refuses z.rest.knows q) same ∙ first n;
}

pub undone_more : (told : ℕ → Option Outcome) (first i : ℕ) (found new : Option ℕ) → found ≡ first_undone told first i → new ≡ or_undone found (first + i) (told (first + i)) → new ≡ first_undone told first (i + 1)
undone_more told first i found new e f =
    let on : suc i ≡ i + 1 = omega arith in
    f ∙ ap (λ z. or_undone z (first + i) (told (first + i))) e ∙ ap (first_undone told first) on

pub says_sent : {A : Type 0} (from to : Place) (qs : List RequestView) (result : Result A Fault) → Sent from to qs result → Says from to qs result
says_sent from to qs (Ok x) s = s
says_sent from to qs (Err (fault.NotSent rule)) s = absurd s.told
says_sent from to qs (Err (fault.Refused i c m)) s = s
says_sent from to qs (Err (fault.Broken why)) s = s
says_sent from to qs (Err fault.Memory) s = s

pub all_said : (from to : Place) (qs : List RequestView) (mid asked : Stand) (broken : Result (Unit {0}) Break) (result : Result ℕ Fault) (first count : ℕ) → mid ≡ fresh from.stand → AsksAll mid asked qs None → Exchanges (place asked from.given from.written) to broken
    → first ≡ next_ordinal mid.rest → count ≡ length qs → Told to.stand.account first count broken result → Says from to qs result
all_said from to qs mid asked broken result first count m h x f n t =
    let same : asked ≡ asked_all (fresh from.stand) qs = h.1 ∙ ap (λ (z : Stand). asked_all z qs) m in
    let at : first ≡ next_ordinal from.stand.rest = f ∙ ap (λ (z : Stand). next_ordinal z.rest) m in
    says_sent from to qs result (record {
      broken = broken;
      accepted = subst (λ (z : Stand). AcceptsEach z qs) m h.0;
      exchanged = subst (λ (z : Stand). Exchanges (place z from.given from.written) to broken) same x;
      told = subst (λ k. Told to.stand.account (next_ordinal from.stand.rest) k broken result) n (subst (λ k. Told to.stand.account k count broken result) at t);
    })

pub none_said : (from to : Place) (qs : List RequestView) (mid stopped : Stand) (rule : SubmitFault) → mid ≡ fresh from.stand → StopsAt mid stopped qs rule → to ≡ place (given_up stopped) from.given from.written → IsNotSent from to qs rule
none_said from to qs mid stopped rule m h e = record { stopped = stopped; stops = subst (λ (z : Stand). StopsAt z stopped qs rule) m h; unsent = e }

-- the others after one that was accepted
pub asks_then : (from mid to : Stand) (q : RequestView) (qs : List RequestView) (o : Option SubmitFault) → refuses from.rest.knows q ≡ None → mid.rest ≡ after_submit from.rest q → mid.account ≡ from.account → AsksAll mid to qs o → AsksAll from to (q ∷ qs) o
asks_then from mid to q qs o e r a h = asks_behind from to q qs o e (subst (λ (z : Stand). AsksAll z to qs o) (stand_is mid (asked_stand from q) r a) h)

-- no memory was left for the requests
pub unasked_said : (A : Type 0) (from to : Place) (q : RequestView) (qs all : List RequestView) (f : Fault) → q ∷ qs ≡ all → f ≡ fault.NotSent SubmitFault.Memory → to ≡ place (given_up (fresh from.stand)) from.given from.written → Says {A = A} from to all (Err f)
unasked_said A from to q qs all f e g h =
    subst (λ (z : Fault). Says {A = A} from to all (Err z)) (sym g)
    (record { stopped = fresh from.stand; stops = record { before = []; request = q; behind = qs; parts = sym e; accepted = tt; stays = refl; first = λ n. absurd (n refl) }; unsent = h })

pub greeting_some : (b : Bool) (agent : List ℕ) (auth : AuthView) → (q : RequestView) × (qs : List RequestView) × (q ∷ qs ≡ greeting b agent auth)
greeting_some true agent auth = (RequestView.Hello agent (Some auth), [], refl)
greeting_some false agent auth = (RequestView.Hello agent None, RequestView.Logon auth ∷ [], refl)

-- a fault that names a broken exchange blames what the exchange blamed
pub blames_told : {A : Type 0} (a : Account) (first count : ℕ) (broken : Result (Unit {0}) Break) (h : Health) (result : Result A Fault) → Told a first count broken result → IsSeen broken h → Blames result h
blames_told a first count broken h (Ok x) t s = tt
blames_told a first count broken h (Err (fault.Refused i code message)) t s = tt
blames_told a first count broken h (Err (fault.Broken None)) t s = tt
blames_told a first count broken h (Err (fault.Broken (Some why))) t s = go broken t.3 s
  where
    go : (r : Result (Unit {0}) Break) → Some why ≡ result_err r → IsSeen r h → IsSeen (Err why) h
    go (Ok u) e s = cc
    go (Err e) same s = subst (λ (z : Option Break). blamed z) (sym same) s
      where
        blamed : Option Break → Type 0
        blamed None = Unit {0}
        blamed (Some w) = IsSeen (Err w) h
blames_told a first count broken h (Err fault.Memory) t s = tt
blames_told a first count broken h (Err (fault.NotSent rule)) t s = tt
