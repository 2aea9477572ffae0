use Rattle.structures_encoder.proofs.Words.{rules, ◌∙◌, arith, text_of}
use Rattle.structures_encoder.proofs.Adding.{none, then, one_more, all_of, list_put}
use Rattle.structures_encoder.proofs.graphs.put_texts.Goals as goal

pub loop-text-preserved : goal.loop-text-preserved
loop-text-preserved c =
    (c.put_string.ensures.before ∙ c.loop-text.invariant.0, λ s. one_more (c.loop-text.invariant.1 s) c.loop-text-test.true c.text-item.is (λ ys e q. then c.in_ok-put_string.ensures.put q))

pub returns : goal.returns
returns c = record { before = search rules; put = list_put text_of c.args.texts.now c.in_ok-put_list_head.ensures.opens (all_of (c.loop-text.invariant.1 c.in_ok-put_list_head.field-0) (omega (arith, c.loop-text-test.false)) none) }
