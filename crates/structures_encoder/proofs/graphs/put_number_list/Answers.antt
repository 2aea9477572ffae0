use Rattle.structures_encoder.proofs.Words.{rules, int}
use Rattle.structures_encoder.proofs.Adding.{last, list_put}
use Rattle.structures_encoder.proofs.graphs.put_number_list.Goals as goal

pub returns : goal.returns
returns c = last c.put_ints.ensures (search rules) (λ p. list_put int c.args.numbers.now c.in_ok-put_list_head.ensures.opens (p c.in_ok-put_list_head.field-0))
