use Rattle.structures_decoder.proofs.Words.{arith, int}
use Rattle.structures_decoder.proofs.Fronts.{fronts}
use Rattle.structures_decoder.proofs.whole.int_from.Goals as goal

pub returns-clause-spelled : goal.returns-clause-spelled
returns-clause-spelled g c = (fronts c.int_in.result (λ x. int x.0) (λ x. g.S.Source.left x.1) (g.S.Source.left c.args.source) 0 c.has_bytes.ensures (omega arith) (c.int_in.ensures 0)).0
