-- Attempts so far, each over a connection of its own.
use Rattle.std.proofs.Common.{◌≡◌, ◌<◌, ◌≤◌, ◌+◌, refl, sym, ◌∙◌, ap, subst, ℕ, suc, Bool, false, Option, Some, None, Result, List, [], ◌∷◌, ◌++◌, length, map, length-append, append_assoc, append-nil, inl, inr, ⊎_elim, Ok, Err, true≢false, arith}
use Rattle.std.proofs.lemmas.List.{map-append}
use Rattle.client_tracking.specs.declared.attempts.Tells.{Tells}
use Rattle.client_tracking.specs.declared.attempts.Retry.{Retry}
use Rattle.client_tracking.specs.declared.attempts.Fate.{Fate}
use Rattle.client_tracking.specs.Attempts.{Made}
use Rattle.client_tracking.specs.Fates.{fate_of}
use Rattle.client_tracking.proofs.Fates.{SoFar, none_yet, one_more, known_by, used_up}
use Rattle.streams.specs.Moving.{Grows}
use Rattle.wire.specs.declared.Wish.{Wish}
use Rattle.wire.specs.declared.Wish.TheVariants.{Newest, Only}
use Rattle.wire.specs.Prelude.{offer_of}
use Rattle.client.specs.Moments.{put_out}
use Rattle.client_tracking.specs.Attempts.{read}
use Rattle.driver.specs.declared.breaks.Break.{Break}
use Rattle.driver.specs.declared.breaks.Break.TheVariants as break
use Rattle.driver.proofs.Reading.{writes_or, write_seen}
use Rattle.driver.specs.Prelude.{place, Exchanges, AskedView, Streams, Ending, at_first, IsWritten, gone, IsShort, NoneAsked, Attempts, Calls, made_at, tells_at, made_from, unmoved, IsTry, Tries, AreTries, IsKnown}

-- an attempt over streams that have moved nothing yet
pub from_first : (a : AskedView) (conn : ℕ) (from to : Streams) (broken : Result (Unit {0}) Break) (m : Option Made) → from.given ≡ [] → from.written ≡ [] → Attempts a conn from to broken m → Attempts a conn unmoved to broken m
from_first a conn from to broken None given written h =
    ⊎_elim (λ p. inl (p.0, short p.1))
    (λ p. inr (record {
      heard = p.heard;
      exchanged = subst (λ (l : List ℕ). Exchanges (place (at_first a.wish 0) [] l) (place p.heard to.given to.written) broken) written
          (subst (λ (l : List ℕ). Exchanges (place (at_first a.wish 0) l from.written) (place p.heard to.given to.written) broken) given p.exchanged);
      seen = p.seen;
      ends = p.ends;
    }))
    h
  where
    short : IsShort a from to → IsShort a unmoved to
    short s =
        ⊎_elim (λ m. inl (m.0 ∙ given, m.1 ∙ written))
        (λ g. inr (record {
          heard = g.heard;
          exchanged = subst (λ (l : List ℕ). Exchanges (place (at_first a.wish 0) [] l) (place g.heard to.given to.written) (Ok tt)) written
              (subst (λ (l : List ℕ). Exchanges (place (at_first a.wish 0) l from.written) (place g.heard to.given to.written) (Ok tt)) given g.exchanged);
          is_open = g.is_open;
        }))
        s
from_first a conn from to broken (Some m) given written h = record {
  sent = h.sent;
  seen = h.seen;
  written = subst (λ (l : List ℕ). IsWritten l to.written to.health.write_failed (put_out a.wish (read m.attempt).version (gone h.sent.before h.sent.last h.sent.later))) written h.written;
  puts = h.puts;
  unheard = h.unheard;
  took = subst (λ (l : List ℕ). Grows l to.given (m.attempt.took ++ h.unheard)) given h.took;
  ends = h.ends;
  stops = h.stops;
}

offer_some : (wish : Wish) → offer_of wish ≡ [] → ⊥
offer_some Newest e = cc
offer_some (Only v) e = cc

-- If nothing was written and the sink hasn't failed, no request was submitted only because memory ran out.
pub untouched : (a : AskedView) (to : Streams) (broken : Result (Unit {0}) Break) → to.written ≡ [] → to.health.write_failed ≡ false → NoneAsked a unmoved to broken → broken ≡ Err break.Memory
untouched a to broken none sound h =
    ⊎_elim (λ p. p.0)
    (λ t. ⊎_elim (λ (w : Grows [] to.written (offer_of a.wish)). absurd (offer_some a.wish (sym w ∙ none)))
    (λ p. absurd (true≢false (sym (write_seen broken to.health t.seen p.0) ∙ sound)))
    (writes_or (offer_of a.wish) broken [] to.written t.exchanged.converses.writes))
    h

module _ (a : AskedView) (r : Retry) where
  abbrev Log : Type 0
  Log = List (Option Ending)

  -- So many connections were added to the log, with one attempt over each, and what is known by all depends on those that come.
  pub record SoTried (old now : Log) (tries made : ℕ) (d : Bool) : Type 0 where
    pub used : Log
    pub logs : now ≡ old ++ used
    pub count : length used ≡ made
    pub calls : List (Option Calls)
    pub called : length calls ≡ made
    pub tried : (conns : ℕ → ℕ) → AreTries a conns 0 used (made_from a.wish conns 0 calls)
    pub so : SoFar r tries made d (map (tells_at a.wish) calls)

  pub not_tried : (old : Log) (tries : ℕ) → SoTried old old tries 0 false
  not_tried old tries = record { used = []; logs = sym (append-nil old); count = refl; calls = []; called = refl; tried = λ conns. tt; so = none_yet r tries }

  -- with one more after them
  tries_more : (conns : ℕ → ℕ) (n : ℕ) (os : Log) (ms : List (Option Made)) (o : Option Ending) (m : Option Made) → AreTries a conns n os ms → IsTry a (conns (n + length os)) o m → AreTries a conns n (os ++ o ∷ []) (ms ++ m ∷ [])
  tries_more conns n [] [] o m h is = (subst (λ k. IsTry a (conns k) o m) (omega arith) is, tt)
  tries_more conns n [] (y ∷ ms) o m h is = absurd h
  tries_more conns n (x ∷ os) [] o m h is = absurd h
  tries_more conns n (x ∷ os) (y ∷ ms) o m h is = (h.0, tries_more conns (suc n) os ms o m h.1 (subst (λ k. IsTry a (conns k) o m) (omega arith) is))

  made_more : (conns : ℕ → ℕ) (n : ℕ) (os : List (Option Calls)) (o : Option Calls) → made_from a.wish conns n (os ++ o ∷ []) ≡ made_from a.wish conns n os ++ made_at a.wish (conns (n + length os)) o ∷ []
  made_more conns n [] o = ap (λ k. made_at a.wish (conns k) o ∷ []) (omega arith)
  made_more conns n (x ∷ os) o =
      ap (λ l. made_at a.wish (conns n) x ∷ l)
      (made_more conns (suc n) os o ∙ ap (λ k. made_from a.wish conns (suc n) os ++ made_at a.wish (conns k) o ∷ []) (omega arith))

  module _ (old now new : Log) (tries made : ℕ) (d : Bool) (s : SoTried old now tries made d) (l : made < tries) (t : Tells) (told : Tries a now new t) where
    abbrev used : Log
    used = s.used ++ told.0 ∷ []

    logs : new ≡ old ++ used
    logs = told.1 ∙ ap (λ z. z ++ told.0 ∷ []) s.logs ∙ append_assoc old s.used (told.0 ∷ [])

    abbrev last : Option Calls
    last = told.2

    abbrev calls : List (Option Calls)
    calls = s.calls ++ last ∷ []

    are : (conns : ℕ → ℕ) → AreTries a conns 0 used (made_from a.wish conns 0 calls)
    are conns =
        let count = s.count in
        let at : made ≡ 0 + length s.used = omega (arith, count) in
        let called = s.called in
        let at_calls : 0 + length s.calls ≡ made = omega (arith, called) in
        let before = made_from a.wish conns 0 s.calls in
        let more : made_from a.wish conns 0 calls ≡ before ++ made_at a.wish (conns made) last ∷ [] = made_more conns 0 s.calls last ∙ ap (λ k. before ++ made_at a.wish (conns k) last ∷ []) at_calls in
        subst (λ ms. AreTries a conns 0 used ms) (sym more)
        (tries_more conns 0 s.used before told.0 (made_at a.wish (conns made) last) (s.tried conns)
        (subst (λ k. IsTry a (conns k) told.0 (made_at a.wish (conns made) last)) at (told.4 (conns made))))

    tell : map (tells_at a.wish) s.calls ++ t ∷ [] ≡ map (tells_at a.wish) calls
    tell = ap (λ z. map (tells_at a.wish) s.calls ++ z ∷ []) (sym told.3) ∙ sym (map-append (tells_at a.wish) s.calls (last ∷ []))

    pub tried : (d2 : Bool) → ((n : ℕ) (later : List Tells) → fate_of r d (suc n) (t ∷ later) ≡ fate_of r d2 n later) → SoTried old new tries (made + 1) d2
    tried d2 step = record {
      used = used;
      logs = logs;
      count = length-append s.used (told.0 ∷ []) ∙ ap (λ n. n + 1) s.count;
      calls = calls;
      called = length-append s.calls (last ∷ []) ∙ ap (λ n. n + 1) s.called;
      tried = are;
      so = subst (SoFar r tries (made + 1) d2) tell (one_more r tries made d d2 (map (tells_at a.wish) s.calls) t s.so l step);
    }

    pub is_known : (f : Fate) → ((n : ℕ) → fate_of r d (suc n) (t ∷ []) ≡ Some f) → IsKnown a r old new tries f
    is_known f step = record {
      used = used;
      logs = logs;
      calls = calls;
      tried = are;
      known = ap (fate_of r false tries) (sym tell) ∙ known_by r tries made d (map (tells_at a.wish) s.calls) t f s.so l step;
    }

  pub is_over : (old now : Log) (tries made : ℕ) (d : Bool) (f : Fate) → SoTried old now tries made d → tries ≤ made → fate_of r d 0 [] ≡ Some f → IsKnown a r old now tries f
  is_over old now tries made d f s l e = record {
    used = s.used;
    logs = s.logs;
    calls = s.calls;
    tried = s.tried;
    known = used_up r tries made d (map (tells_at a.wish) s.calls) f s.so l e;
  }
