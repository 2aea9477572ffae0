use Rattle.std.proofs.Common.{refl, rules, ◌≡◌, sym, ◌∙◌, ap, suc, true, false, [], ◌∷◌, arith}
use Rattle.client_tracking.specs.declared.attempts.Tells.TheVariants as tells
use Rattle.client_tracking.specs.declared.attempts.Retry.TheVariants as retry
use Rattle.client_tracking.specs.declared.attempts.Fate.TheVariants as fate
use Rattle.client_tracking.specs.Fates.{fate_of}
use Rattle.client_tracking.proofs.Fates.{stands, clashes, refuses, refused_after_doubt, nothing, doubts, stays_open, open_at_end, absent_at_end}
use Rattle.driver.proofs.Retried.{not_tried, tried, is_known, is_over}
use Rattle.driver.proofs.retrying.send_until_known.Goals as goal
use Rattle.driver.proofs.retrying.send_until_known.Goals.{in-Refused+else-not-doubtful, in-Nothing, in-Doubt+in-Tokens}

pub loop-init : goal.loop-init
loop-init g c = record { so = not_tried _ c.args.retry _ c.args.tries; given_back = refl }

pub returns-in-Stands-clause-known : goal.returns-in-Stands-clause-known
returns-in-Stands-clause-known g c = is_known _ c.args.retry _ _ _ c.args.tries c.loop.counter c.loop.doubtful c.loop.invariant.so c.loop-test.true tells.Stands (search rules) fate.Stands (stands c.args.retry c.loop.doubtful)

pub returns-in-Clash-clause-known : goal.returns-in-Clash-clause-known
returns-in-Clash-clause-known g c = is_known _ c.args.retry _ _ _ c.args.tries c.loop.counter c.loop.doubtful c.loop.invariant.so c.loop-test.true tells.Clash (search rules) fate.Clash (clashes c.args.retry c.loop.doubtful)

pub returns-then-not-doubtful-clause-known : goal.returns-then-not-doubtful-clause-known
returns-then-not-doubtful-clause-known g c =
    let sure : c.loop.doubtful ≡ false = search rules in
    is_known _ c.args.retry _ _ _ c.args.tries c.loop.counter c.loop.doubtful c.loop.invariant.so c.loop-test.true tells.Refused (search rules) fate.Refused
    (λ n. ap (λ d. fate_of c.args.retry d (suc n) (tells.Refused ∷ [])) sure ∙ refuses c.args.retry n)

pub returns-in-Never-clause-known : goal.returns-in-Never-clause-known
returns-in-Never-clause-known g c =
    let never : c.args.retry ≡ retry.Never = search rules in
    is_known _ c.args.retry _ _ _ c.args.tries c.loop.counter c.loop.doubtful c.loop.invariant.so c.loop-test.true tells.Doubt (search rules) fate.Open
    (λ n. ap (λ r. fate_of r c.loop.doubtful (suc n) (tells.Doubt ∷ [])) never ∙ stays_open c.loop.doubtful n)

pub loop-preserved : goal.loop-preserved
loop-preserved g c = record {
  so = elim c.match-try_once.branch [
    | in-Refused+else-not-doubtful w ↦
        let doubt : c.loop.doubtful ≡ true = search rules in
        tried _ c.args.retry _ _ _ c.args.tries c.loop.counter c.loop.doubtful c.loop.invariant.so c.loop-test.true tells.Refused (search rules) c.match-try_once.doubtful
        (λ n later. ap (λ d. fate_of c.args.retry d (suc n) (tells.Refused ∷ later)) doubt ∙ refused_after_doubt c.args.retry n later ∙ ap (λ d. fate_of c.args.retry d n later) (sym (w.doubtful-is ∙ doubt)))
    | in-Nothing w ↦
        tried _ c.args.retry _ _ _ c.args.tries c.loop.counter c.loop.doubtful c.loop.invariant.so c.loop-test.true tells.Nothing (search rules) c.match-try_once.doubtful
        (λ n later. nothing c.args.retry c.loop.doubtful n later ∙ ap (λ d. fate_of c.args.retry d n later) (sym w.doubtful-is))
    | in-Doubt+in-Tokens w ↦
        let again : c.args.retry ≡ retry.Tokens = search rules in
        tried _ c.args.retry _ _ _ c.args.tries c.loop.counter c.loop.doubtful c.loop.invariant.so c.loop-test.true tells.Doubt (search rules) c.match-try_once.doubtful
        (λ n later. ap (λ r. fate_of r c.loop.doubtful (suc n) (tells.Doubt ∷ later)) again ∙ doubts c.loop.doubtful n later ∙ ap (λ r. fate_of r true n later) (sym again) ∙ ap (λ d. fate_of c.args.retry d n later) (sym w.doubtful-is))
  ];
  given_back = c.try_once.ensures.given_back ∙ c.loop.invariant.given_back;
}

pub returns-then-doubtful-clause-known : goal.returns-then-doubtful-clause-known
returns-then-doubtful-clause-known g c = is_over _ c.args.retry _ _ c.args.tries c.loop.counter c.loop.doubtful fate.Open c.loop.invariant.so (omega (arith, c.loop-test.false)) (ap (λ d. fate_of c.args.retry d 0 []) c.if-doubtful.true ∙ open_at_end c.args.retry)

pub returns-clause-known : goal.returns-clause-known
returns-clause-known g c = is_over _ c.args.retry _ _ c.args.tries c.loop.counter c.loop.doubtful fate.Absent c.loop.invariant.so (omega (arith, c.loop-test.false)) (ap (λ d. fate_of c.args.retry d 0 []) c.if-doubtful.false ∙ absent_at_end c.args.retry)
