use Rattle.std.proofs.Common.{length, map}
use Rattle.client.specs.Prelude.{Rest, note, Fits}
use Rattle.client_blocking.specs.Prelude.{PartFed}
use Rattle.client_blocking.proofs.client_end.feed_piece.Given as goal

abbrev pub invariant-loop-rest : goal.invariant-loop-rest
invariant-loop-rest l = (r : Rest) → Fits l.fn.client r → PartFed r l.fn.piece l.rest (map note l.fn.heard.items) (map note l.heard.items) (Fits l.client)

abbrev pub decreases-loop-rest : goal.decreases-loop-rest
decreases-loop-rest l = length l.rest
