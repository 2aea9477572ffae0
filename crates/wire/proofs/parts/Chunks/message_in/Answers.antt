use Rattle.std.proofs.Common.{◌∙◌}
use Rattle.wire.proofs.First.{whole_found}
use Rattle.wire.proofs.parts.Chunks.message_in.Goals as goal

pub returns-then-second-eq0 : goal.returns-then-second-eq0
returns-then-second-eq0 c =
    whole_found c.args.self.now c.args.piece.now c.split_at.result.0.now c.split_at.result.1.now (c.is_start.ensures.0 c.if-not-is_start.false) c.in-len2-up.len_at_least c.type_inv.piece c.split_at.ensures.by_index.0 (c.split_at.ensures.front_len ∙ c.length_in-len.ensures) (λ e. c.if-len-eq0.false (c.length_in-len.ensures ∙ e)) c.in-len2-up-after.len_at_least c.if-first-eq0.true c.if-second-eq0.true
