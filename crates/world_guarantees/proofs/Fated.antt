-- The meaning of a call of `until_known`, by the calls at both ends.
use Rattle.std.proofs.Common.{◌≡◌, refl, ◌∙◌, ap, subst, ℕ, suc, false, Option, Some, None, Result, Ok, Err, IfOk, List, [], ◌∷◌, map}
use Rattle.wire.specs.declared.Wish.{Wish}
use Rattle.engine.specs.Prelude.{EntryView, Welcome}
use Rattle.server.specs.Prelude.{empty, after_events}
use Rattle.client_tracking.specs.declared.Retry.{Retry}
use Rattle.client_tracking.specs.declared.Fate.{Fate}
use Rattle.client_tracking.specs.Fates.{fate_of}
use Rattle.client_tracking.specs.Attempts.{Attempt, tells_in}
use Rattle.driver.specs.Prelude.{AskedView, Calls, made_at, tells_at, made_from, Ending, IsKnown}
use Rattle.world.specs.Prelude.{Definition, setting_of, IsLedger, Each}
use Rattle.world_guarantees.specs.Sending.{IsMet}
use Rattle.world_guarantees.specs.Tied.{IsAt}
use Rattle.world_guarantees.proofs.Sending.{sent_until_known}
use Rattle.world_guarantees.specs.Prelude.{Moment, server_calls, ArePlayed, IsRun}
use Rattle.world_guarantees.specs.Fates.{IsCalledAt, AreCalledAt, CallsAreKnown, IsKnownTo}
use Rattle.world_guarantees.proofs.Played.{are_runs}
use Rattle.world_guarantees.proofs.Relied.{found_in}

-- The numbers of connections do not change what attempts report.
tells_from : (wish : Wish) (conns : ℕ → ℕ) (n : ℕ) (cs : List (Option Calls)) → map tells_in (made_from wish conns n cs) ≡ map (tells_at wish) cs
tells_from wish conns n [] = refl
tells_from wish conns n (None ∷ cs) = ap (λ ts. tells_at wish None ∷ ts) (tells_from wish conns (suc n) cs)
tells_from wish conns n (Some c ∷ cs) = ap (λ ts. tells_at wish (Some c) ∷ ts) (tells_from wish conns (suc n) cs)

module _ {G : Type 0} (answer : Definition) (welcomes : G → Welcome) (gate : G) (ours : ℕ → Option Wish) (ledger : List EntryView) (ms : List Moment) (is : IsLedger ledger)
    (played : ArePlayed answer welcomes ours ms (empty ledger gate)) (wish : Wish) where
  abbrev run : IsRun answer welcomes gate ours ledger ms
  run = are_runs answer welcomes gate ours ledger ms is played

  -- The attempt is the connection with its number.
  met : (conn : ℕ) (c : Option Calls) → IsCalledAt answer welcomes ours ms (empty ledger gate) wish conn c → IsMet run.after (made_at wish conn c)
  met conn None h = tt
  met conn (Some c) h =
      let k = found_in answer welcomes gate run.after (after_events answer welcomes (server_calls ms) (empty ledger gate)) run.behind.server conn h.2 in
      (k.0, subst (λ (z : Attempt). IsAt run.after conn k.0 z) h.1 (run.attempts conn k.0 wish h.0 k.1))

  each_met : (conns : ℕ → ℕ) (n : ℕ) (cs : List (Option Calls)) → AreCalledAt answer welcomes ours ms (empty ledger gate) wish conns n cs → Each (IsMet run.after) (made_from wish conns n cs)
  each_met conns n [] h = tt
  each_met conns n (c ∷ cs) h = (met (conns n) c h.0, each_met conns (suc n) cs h.1)

pub calls_are_known : {G : Type 0} (answer : Definition) (welcomes : G → Welcome) (gate : G) (ours : ℕ → Option Wish) → CallsAreKnown answer welcomes gate ours
calls_are_known answer welcomes gate ours ledger ms is played a conns used cs tried called again tries f e =
    let r = run answer welcomes gate ours ledger ms is played a.wish in
    record {
      run = r;
      means = sent_until_known (setting_of answer welcomes gate) ledger r.after r.behind.reached a conns used (made_from a.wish conns 0 cs) tried
          (each_met answer welcomes gate ours ledger ms is played a.wish conns 0 cs called) again tries f (ap (fate_of again false tries) (tells_from a.wish conns 0 cs) ∙ e);
    }

pub is_known_to : {G : Type 0} (answer : Definition) (welcomes : G → Welcome) (a : AskedView) (again : Retry) (old new : List (Option Ending)) (tries : ℕ) (f : Fate) → IsKnown a again old new tries f
    → IsKnownTo answer welcomes a again old new tries f
is_known_to answer welcomes a again old new tries f k = record {
  known = k;
  means = λ gate ours ledger ms is played conns called. calls_are_known answer welcomes gate ours ledger ms is played a conns k.used k.calls (k.tried conns) called again tries f k.known;
}

-- An answer that is a fate has this meaning. There is no fate if no request can carry the token.
pub known_if : {G E : Type 0} (answer : Definition) (welcomes : G → Welcome) (a : AskedView) (again : Retry) (old new : List (Option Ending)) (tries : ℕ) (r : Result Fate E)
    → IfOk r (λ f. IsKnown a again old new tries f) → IfOk r (λ f. IsKnownTo answer welcomes a again old new tries f)
known_if answer welcomes a again old new tries (Ok f) k = is_known_to answer welcomes a again old new tries f k
known_if answer welcomes a again old new tries (Err e) k = tt
