use Rattle.structures_decoder.proofs.Words.{arith, text}
use Rattle.structures_decoder.proofs.Fronts.{fronts}
use Rattle.structures_decoder.proofs.whole.text_from.Goals as goal

pub returns-clause-spelled : goal.returns-clause-spelled
returns-clause-spelled g c = (fronts c.text_in.result (λ x. text x.0.now) (λ x. g.S.Source.left x.1) (g.S.Source.left c.args.source.now) 0 c.has_bytes.ensures (omega arith) (c.text_in.ensures 0)).0
