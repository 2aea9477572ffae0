-- Nothing is told of a request that wasn't sent.
use Rattle.std.proofs.Common.{◌≡◌, refl, ap₂, ℕ, suc, ◌+◌, ◌-◌, ◌≤◌, ◌==◌, Bool, true, false, ◌||◌, if◌then◌else◌, Some, None, List, [], ◌∷◌, length, arith, eqb-true, unwrap_or}
use Rattle.std.specs.Option.{option_or}
use Rattle.std.proofs.lemmas.Bool.{cond_both}
use Rattle.std.proofs.lemmas.List.{length-drop}
use Rattle.wire.specs.declared.Version.{Version}
use Rattle.wire.specs.declared.Version.TheVariants as version
use Rattle.wire.specs.declared.Wish.{Wish}
use Rattle.messages.specs.Prelude.{RequestView, Heard, hears}
use Rattle.client.specs.Prelude.{Knows, Hearing, Reading, knows_of, losses, losses_from}
use Rattle.client.specs.Client.{reading, hear, and_told}
use Rattle.client.proofs.Later.{reading_count}
use Rattle.client.proofs.Makes.{Makes, makes, spoils, turns_away, takes_version, tells_none, tells_row, tells_summary}
use Rattle.client_tracking.specs.Account.{outcome_lost}
use Rattle.client_tracking.specs.Attempts.{Attempt, read, outcome_heard, told_of}

module _ (wish : Wish) (sent : List RequestView) (i : ℕ) where
  step : (r : Reading) (k : Knows) (x : Heard) (h : Hearing) → k.first ≡ r.count → Makes wish k x h → (r.count ≤ i → outcome_heard i r.told ≡ None) → h.knows.first ≤ i → outcome_heard i (and_told h.tells r.told) ≡ None
  step r k x h e (spoils y) f l = f (omega (arith, e, l))
  step r k x h e (turns_away n) f l = f (omega (arith, e, l))
  step r k x h e (takes_version v n y) f l = f (omega (arith, e, l))
  step r k x h e tells_none f l = f (omega (arith, e, l))
  step r k x h e (tells_row cells n later w) f l = f (omega (arith, e, l))
  step r k x h e (tells_summary a s) f l =
      cond_both (k.first == i) (Some _) (outcome_heard i r.told) (λ z. z ≡ None)
      (λ b. let same : k.first ≡ i = eqb-true k.first i b in absurd (omega (arith, same, l)))
      (λ _. f (omega (arith, e, l)))

  heard_past : (xs : List Heard) → (reading wish sent xs).count ≤ i → outcome_heard i (reading wish sent xs).told ≡ None
  heard_past [] l = refl
  heard_past (x ∷ xs) l = go (r.ended || r.bad) (heard_past xs) l
    where
      r : Reading
      r = reading wish sent xs

      go : (b : Bool) → (r.count ≤ i → outcome_heard i r.told ≡ None) → (if b then r else hear wish sent r x).count ≤ i → outcome_heard i (if b then r else hear wish sent r x).told ≡ None
      go true f l = f l
      go false f l = step r (knows_of r sent false) x _ refl (makes wish (knows_of r sent false) x) f l

losses_past : (v : Version) (k : Knows) (j : ℕ) (qs : List RequestView) (i : ℕ) → k.first + j + length qs ≤ i → outcome_lost i (losses_from v k j qs) ≡ None
losses_past v k j [] i l = refl
losses_past v k j (q ∷ qs) i l =
    cond_both ((k.first + j) == i) (Some _) (outcome_lost i (losses_from v k (suc j) qs)) (λ z. z ≡ None)
    (λ b. let same : k.first + j ≡ i = eqb-true (k.first + j) i b in absurd (omega (arith, same, l)))
    (λ _. losses_past v k (suc j) qs i (omega (arith, l)))

within : (c n d i : ℕ) → d ≡ n - c → c ≤ n → n ≤ i → c + 0 + d ≤ i
within c n d i e f l = omega (arith, e, f, l)

pub told_beyond : (a : Attempt) (i : ℕ) → length a.sent ≤ i → told_of a i ≡ None
told_beyond a i l = ap₂ option_or (heard_past a.wish a.sent i (hears a.took) (omega (arith, few, l))) (lost a.lost)
  where
    few : (read a).count ≤ length a.sent
    few = reading_count a.wish a.sent (hears a.took)

    lost : (b : Bool) → outcome_lost i (if b then losses (knows_of (read a) a.sent false) else []) ≡ None
    lost false = refl
    lost true =
        let k = knows_of (read a) a.sent false in
        losses_past (unwrap_or k.version version.V51) k 0 k.waiting i (within (read a).count (length a.sent) (length k.waiting) i (length-drop (read a).count a.sent) few l)
