use Rattle.std.proofs.Common.{◌+◌, ◌*◌, ◌∙◌, arith, rules}
use Rattle.wire.proofs.Proposals.{chosen-past}
use Rattle.wire.proofs.offers.choose.Goals as goal

pub loop-at-preserved : goal.loop-at-preserved
loop-at-preserved c = c.loop-at.invariant ∙ chosen-past c.args.offer.now (4 + 4 * c.loop-at.at) (4 + 4 * (c.loop-at.at + 1)) c.covered-version.result (omega arith) (omega arith) c.covered-version.ensures (search rules)
