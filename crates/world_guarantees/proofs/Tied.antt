-- An attempt as its caller saw it.
use Rattle.std.proofs.Common.{◌≡◌, refl, sym, ◌∙◌, ap, ap₂, subst, ℕ, ◌<◌, ◌==◌, Bool, true, false, if◌then◌else◌, Option, Some, None, List, [], ◌∷◌, length, slice_get, eqb-true}
use Rattle.std.specs.Option.{option_or}
use Rattle.std.proofs.lemmas.Bool.{cond_both}
use Rattle.messages.specs.Prelude.{RequestView}
use Rattle.engine.specs.Prelude.{EntryView}
use Rattle.client.specs.declared.Outcome.{Outcome}
use Rattle.client.specs.Prelude.{Told, Got, GotRow, Reading, knows_of, reading_of, losses}
use Rattle.server_session.specs.Prelude.{Setting}
use Rattle.world.specs.Prelude.{Connection, heard_by_bytes, wish_of, World, Reached, Each, outcome, outcome_in, tellings_of, delivered_whole, by_peer, outcomes_at_loss, Good}
use Rattle.world.proofs.Headline.{headline}
use Rattle.client_tracking.specs.Account.{outcome_lost}
use Rattle.client_tracking.specs.Telling.{adds_nothing}
use Rattle.client_tracking.specs.Attempts.{Attempt, read, told_lost, outcome_heard, told_of}
use Rattle.world_guarantees.specs.Attempts.{BeginsUnder}
use Rattle.world_guarantees.specs.Tied.{IsAt, TellsOutcomes, AttemptStands, AttemptClashes, AttemptAddsNone}
use Rattle.world_guarantees.proofs.Attempts.{committed_stands, refused_commit_clashes, refused_adds_none}

-- what holds of each pair holds of the one that is found
found_each : (P : ℕ → Outcome → Type 0) (i : ℕ) (o : Outcome) (xs : List (ℕ × Outcome)) → Each (λ x. P x.0 x.1) xs → outcome_lost i xs ≡ Some o → P i o
found_each P i o [] h e = cc
found_each P i o (x ∷ xs) h e =
    cond_both (x.0 == i) (Some x.1) (outcome_lost i xs) (λ z. z ≡ Some o → P i o)
    (λ b k. let same : x.1 ≡ o = cc in subst (λ n. P n o) (eqb-true x.0 i b) (subst (λ z. P x.0 z) same h.0))
    (λ _ k. found_each P i o xs h.1 k) e

-- both ways to look for the outcome that was told
same_heard : (i : ℕ) (ts : List Told) → outcome_heard i ts ≡ outcome_in i ts
same_heard i [] = refl
same_heard i (GotRow row ∷ ts) = same_heard i ts
same_heard i (Got j p o x ∷ ts) = ap (λ (z : Option Outcome). if j == i then Some o else z) (same_heard i ts)

pick : (a l m : Option Outcome) (o : Outcome) → (l ≡ Some o → option_or a m ≡ Some o) → option_or a l ≡ Some o → option_or a m ≡ Some o
pick None l m o f h = f h
pick (Some x) l m o f h = h

module _ (S : Setting) (brought : List EntryView) (w : World) (r : Reached S brought w) (c : ℕ) (k : Connection) (a : Attempt) (at : IsAt w c k a) where
  g : Good S w c k
  g = headline.good S brought w r c k a.wish at.here at.ours

  reads : heard_by_bytes k ≡ read a
  reads = ap₂ (λ (f : List RequestView → List ℕ → Reading) (b : List ℕ). f k.sent b) (ap (λ p. reading_of (wish_of p)) at.ours) at.took ∙ ap (λ sent. reading_of a.wish sent a.took) at.sent

  told : (read a).told ≡ tellings_of (delivered_whole k)
  told = ap (λ z. z.told) (sym reads) ∙ g.told

  lost_is : outcomes_at_loss k ≡ told_lost a
  lost_is =
      ap (λ p. by_peer p (if k.client_lost then losses (knows_of (heard_by_bytes k) k.sent false) else [])) at.ours
      ∙ ap₂ (λ (b : Bool) (z : Reading). if b then losses (knows_of z k.sent false) else []) at.lost reads
      ∙ ap (λ sent. if a.lost then losses (knows_of (read a) sent false) else []) at.sent

  same : (i : ℕ) (o : Outcome) → told_of a i ≡ Some o → outcome k i ≡ Some o
  same i o h =
      pick (outcome_in i (tellings_of (delivered_whole k))) (outcome_lost i (told_lost a)) _ o
      (λ e. found_each (λ i o. outcome k i ≡ Some o) i o (told_lost a) (subst (λ xs. Each (λ (x : ℕ × Outcome). outcome k x.0 ≡ Some x.1) xs) lost_is g.reports.lost) e)
      (subst (λ z. option_or z (outcome_lost i (told_lost a)) ≡ Some o) (same_heard i (read a).told ∙ ap (outcome_in i) told) h)

  no_doubt : (i : ℕ) → (z : Option Outcome) → told_of a i ≡ z → adds_nothing z ≡ true → adds_nothing (outcome k i) ≡ true
  no_doubt i None e h = cc
  no_doubt i (Some o) e h = ap adds_nothing (same i o e) ∙ h

pub tells_outcomes : TellsOutcomes
tells_outcomes S brought w r c k a at i o h = same S brought w r c k a at i o h

pub attempt_stands : AttemptStands
attempt_stands S brought w r t c k a at under i asks done =
    committed_stands S brought w r t c k (record { wish = a.wish; here = at.here; ours = at.ours; under = subst (BeginsUnder t) (sym at.sent) under }) i
    (ap (λ qs. slice_get qs i) at.sent ∙ asks) (same S brought w r c k a at i Outcome.Committed done)

pub attempt_clashes : AttemptClashes
attempt_clashes S brought w r t c k a at under i asks done =
    refused_commit_clashes S brought w r t c k (record { wish = a.wish; here = at.here; ours = at.ours; under = subst (BeginsUnder t) (sym at.sent) under }) i
    (ap (λ qs. slice_get qs i) at.sent ∙ asks) (same S brought w r c k a at i Outcome.Refused done)

pub attempt_adds_none : AttemptAddsNone
attempt_adds_none S brought w r c k a at refused =
    refused_adds_none S brought w r c k a.wish at.here at.ours
    (λ i l. no_doubt S brought w r c k a at i (told_of a i) refl (refused i (subst (λ qs. i < length qs) at.sent l)))
