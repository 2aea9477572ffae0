use Rattle.structures_decoder.proofs.Words.{arith, bytes_from_each, text}
use Rattle.structures_decoder.proofs.Fronts.{fronts}
use Rattle.structures_decoder.proofs.whole.scan_text.Goals as goal

pub returns-clause-spelled : goal.returns-clause-spelled
returns-clause-spelled c = (fronts c.text_in_slice.result (λ x. text x.0.now) (λ x. x.1.now) c.args.bytes.now 0 (bytes_from_each c.args.bytes.now c.type_inv.bytes) (omega arith) (c.text_in_slice.ensures 0)).0
