use Rattle.std.proofs.Common.{◌≡◌, ◌+◌, ◌*◌, drop}
use Rattle.wire.specs.Prelude.{choice_of}
use Rattle.wire.proofs.offers.choose.Given as goal

abbrev pub invariant-loop-at : goal.invariant-loop-at
invariant-loop-at l = choice_of (drop 4 l.offer) ≡ choice_of (drop (4 + 4 * l.at) l.offer)
