-- What a client makes of an item: a bad answer, or that no version is taken, or one; nothing, a row, or a summary.
use Rattle.std.proofs.Common.{◌≡◌, refl, ◌∙◌, ap, Bool, true, false, Option, Some, None, List, ◌∷◌, option_map}
use Rattle.packstream.specs.Prelude.{Tree}
use Rattle.std.proofs.lemmas.Bool.{cond_both}
use Rattle.wire.specs.declared.Version.{Version}
use Rattle.wire.specs.declared.Wish.{Wish}
use Rattle.messages.specs.declared.Count.{Count}
use Rattle.messages.specs.Prelude.{RequestView, ResponseView, Heard}
use Rattle.machine.specs.declared.Phase.{Phase}
use Rattle.machine.specs.declared.Verdict.{Verdict}
use Rattle.machine.specs.Prelude.{kind_of, in_part}
use Rattle.client.specs.Prelude.{Told, GotRow, is_wished, verdict_of, phase_accepted, outcome_of, resets, Knows, Hearing, after_bad_answer, turned_away, hears_version, hears_row, judgement_by, judgement_of, hears_judged, hears_summary, hears_response, hears_item}

-- a version that is taken
abbrev pub versed : Knows → Version → Hearing
versed k v = record { knows = record k { version = Some v }; bad = false; tells = None }

-- nothing that is known changes
abbrev pub unmoved : Knows → Option Told → Hearing
unmoved k told = record { knows = k; bad = false; tells = told }

-- that a response is a summary of the first waiting request, and accepted
pub record Settles (k : Knows) (a : ResponseView) : Type 0 where
  pub spoken : Version
  pub first : RequestView
  pub later : List RequestView
  pub verdict : Verdict
  pub next : Phase
  pub version : k.version ≡ Some spoken
  pub waits : k.waiting ≡ first ∷ later
  pub tells : verdict_of (in_part first) a ≡ Some verdict
  pub accepts : phase_accepted spoken k.phase (kind_of first) (resets later) verdict ≡ Some next

pub data Makes (wish : Wish) (k : Knows) : Heard → Hearing → Type 0 where
  spoils : (x : Heard) → Makes wish k x (after_bad_answer k)
  turns_away : k.version ≡ None → Makes wish k (Heard.Chosen None) (turned_away k)
  takes_version : (v : Version) → k.version ≡ None → is_wished wish v ≡ true → Makes wish k (Heard.Chosen (Some v)) (versed k v)
  tells_none : Makes wish k Heard.Quiet (unmoved k None)
  tells_row : (cells : List Tree) (n : Count) (later : List RequestView) → k.waiting ≡ RequestView.Pull n ∷ later → Makes wish k (Heard.Told (ResponseView.Record cells)) (unmoved k (Some (GotRow cells)))
  tells_summary : (a : ResponseView) (s : Settles k a) → Makes wish k (Heard.Told a) (hears_judged k a (Some (s.next, outcome_of k.phase (kind_of s.first) s.verdict)))

module _ (wish : Wish) (k : Knows) where
  by_version : (o w : Option Version) → k.version ≡ w → Makes wish k (Heard.Chosen o) (hears_version wish k w o)
  by_version (Some v) None e =
      cond_both (is_wished wish v) (versed k v) (after_bad_answer k) (λ h. Makes wish k (Heard.Chosen (Some v)) h) (takes_version v e) (λ i. spoils (Heard.Chosen (Some v)))
  by_version None None e = turns_away e
  by_version o (Some w) e = spoils (Heard.Chosen o)

  by_row : (cells : List Tree) (ws : List RequestView) → k.waiting ≡ ws → Makes wish k (Heard.Told (ResponseView.Record cells)) (hears_row k cells ws)
  by_row cells (RequestView.Pull n ∷ later) e = tells_row cells n later e
  by_row cells ws e = spoils (Heard.Told (ResponseView.Record cells))

  by_summary : (a : ResponseView) (o : Option Version) (ws : List RequestView) → k.version ≡ o → k.waiting ≡ ws → Makes wish k (Heard.Told a) (hears_judged k a (judgement_of k a o ws))
  by_summary a (Some v) (q ∷ later) e f = by_verdict (verdict_of (in_part q) a) refl
    where
      by_phase : (d : Verdict) → verdict_of (in_part q) a ≡ Some d → (o : Option Phase) → phase_accepted v k.phase (kind_of q) (resets later) d ≡ o
          → Makes wish k (Heard.Told a) (hears_judged k a (option_map (λ next. (next, outcome_of k.phase (kind_of q) d)) o))
      by_phase d t None g = spoils (Heard.Told a)
      by_phase d t (Some p) g = tells_summary a (record { spoken = v; first = q; later = later; verdict = d; next = p; version = e; waits = f; tells = t; accepts = g })

      by_verdict : (o : Option Verdict) → verdict_of (in_part q) a ≡ o → Makes wish k (Heard.Told a) (hears_judged k a (judgement_by v k.phase (kind_of q) (resets later) o))
      by_verdict None t = spoils (Heard.Told a)
      by_verdict (Some d) t = by_phase d t (phase_accepted v k.phase (kind_of q) (resets later) d) refl
  by_summary a o ws e f = spoils (Heard.Told a)

  by_response : (a : ResponseView) → Makes wish k (Heard.Told a) (hears_response k a)
  by_response (ResponseView.Record cells) = by_row cells k.waiting refl
  by_response a = by_summary a k.version k.waiting refl refl

  pub makes : (x : Heard) → Makes wish k x (hears_item wish k x)
  makes (Heard.Chosen o) = by_version o k.version refl
  makes Heard.Quiet = tells_none
  makes (Heard.Told a) = by_response a
  makes x = spoils x

  -- a bad answer ends it
  pub spoiled_over : (x : Heard) (h : Hearing) → Makes wish k x h → h.bad ≡ true → h.knows.over ≡ true
  spoiled_over x h (spoils y) e = refl
  spoiled_over x h (turns_away n) e = refl
  spoiled_over x h _ e = cc

  -- a version that is known stays
  pub version_stays : (v : Version) → k.version ≡ Some v → (x : Heard) (h : Hearing) → Makes wish k x h → h.knows.version ≡ Some v
  version_stays v e x h (takes_version w n i) = cc
  version_stays v e x h _ = e

-- what tells a verdict is no row
hears_told : (k : Knows) (part : Bool) (a : ResponseView) (d : Verdict) → verdict_of part a ≡ Some d → hears_response k a ≡ hears_summary k a
hears_told k part (ResponseView.Record cells) d h = cc
hears_told k part _ d h = refl

-- and a summary that is accepted is made this of
pub settles_is : (k : Knows) (a : ResponseView) (s : Settles k a) → hears_response k a ≡ hears_judged k a (Some (s.next, outcome_of k.phase (kind_of s.first) s.verdict))
settles_is k a s =
    hears_told k (in_part s.first) a s.verdict s.tells
    ∙ ap (λ o. hears_judged k a (judgement_of k a o k.waiting)) s.version
    ∙ ap (λ (ws : List RequestView). hears_judged k a (judgement_of k a (Some s.spoken) ws)) s.waits
    ∙ ap (λ o. hears_judged k a (judgement_by s.spoken k.phase (kind_of s.first) (resets s.later) o)) s.tells
    ∙ ap (λ o. hears_judged k a (option_map (λ next. (next, outcome_of k.phase (kind_of s.first) s.verdict)) o)) s.accepts
