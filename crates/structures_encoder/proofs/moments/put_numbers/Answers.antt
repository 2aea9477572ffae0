use Rattle.structures_encoder.proofs.Words.{rules, map, sym, arith, int, trees_of, form_numbers}
use Rattle.structures_encoder.proofs.Adding.{last, count_each, structure_added}
use Rattle.structures_encoder.proofs.moments.put_numbers.Goals as goal

pub returns : goal.returns
returns c =
    let zs = c.args.numbers.now in
    let i = c.in_ok-put_opening.field-0 in
    last c.put_ints.ensures (search rules) (λ p. structure_added (trees_of (map int zs)) c.in_ok-put_opening.ensures.opens (omega arith) (omega arith) (sym (count_each int zs)) (rw (form_numbers i.version zs) at (p i)))
