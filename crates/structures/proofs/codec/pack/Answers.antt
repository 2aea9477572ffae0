use Rattle.std.proofs.Common.{Err, ap, ◌∙◌}
use Rattle.structures.proofs.codec.pack.Goals as goal

pub returns-in-Err-Refused : goal.returns-in-Err-Refused
returns-in-Err-Refused c = (c.new_in.ensures.fault c.in-Err-Refused.reason c.in-Err-Refused.place).0 (c.in-Err-Refused.is ∙ ap (λ x. Err x) c.in-Err-Refused.field-0-is)
