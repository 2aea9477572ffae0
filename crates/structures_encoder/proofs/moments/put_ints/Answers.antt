use Rattle.structures_encoder.proofs.Words.{◌≡◌, ◌∙◌, ℤ, pos, get_or, to_z, of_z, w64, rules, arith, get_or_default}
use Rattle.structures_encoder.proofs.Adding.{none, then, one_more, all_of}
use Rattle.structures_encoder.proofs.moments.put_ints.Goals as goal

pub loop-number-preserved : goal.loop-number-preserved
loop-number-preserved c =
    let i = c.loop-number.number-index in
    let x : ℤ = get_or c.args.numbers.now i (pos 0) in
    let z : to_z w64 (of_z w64 x) ≡ x = search rules in
    (c.put_number.ensures.before ∙ c.loop-number.invariant.0, λ s. one_more (c.loop-number.invariant.1 s) c.loop-number-test.true (get_or_default c.args.numbers.now i (pos 0) x c.loop-number-test.true) (λ ys e q. then (rw z at c.in_ok-put_number.ensures.put) q))

pub returns : goal.returns
returns c = record { before = search rules; put = λ s. all_of (c.loop-number.invariant.1 s) (omega (arith, c.loop-number-test.false)) none }
