use Rattle.std.proofs.Common.{sym, ◌∙◌, arith}
use Rattle.packstream_incremental.proofs.Taking.{refuses_deep, refuses_none, no_text}
use Rattle.packstream_incremental.proofs.open.Open.refuses.Goals as goal

pub returns-then-self-eq-MOST : goal.returns-then-self-eq-MOST
returns-then-self-eq-MOST c = λ fs levels.
    sym (refuses_deep fs c.args.announced c.args.self.now.depth c.args.self.now.around levels (no_text c.args.announced c.in_default.not-Text) (sym (c.waits_for_key.ensures fs levels) ∙ c.if-waits_for_key.false)
    (sym c.nests.ensures ∙ c.if-not-nests.false) c.if-self-eq-MOST.true)

pub returns : goal.returns
returns c = λ fs levels.
    sym (refuses_none fs c.args.announced c.args.self.now.depth c.args.self.now.around levels (no_text c.args.announced c.in_default.not-Text) (sym (c.waits_for_key.ensures fs levels) ∙ c.if-waits_for_key.false)
    (sym c.nests.ensures ∙ c.if-not-nests.false) (omega (arith, c.args.self.now.fits)) c.if-self-eq-MOST.false)
