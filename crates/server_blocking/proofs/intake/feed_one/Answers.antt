use Rattle.std.proofs.Common.{arith, refl, inr}
use Rattle.server.specs.Prelude.{fed_live}
use Rattle.server_blocking.proofs.Called.{feed_within, grows_called}
use Rattle.server_blocking.proofs.intake.feed_one.Goals as goal

pub returns-then-took-eq0-clause-grows : goal.returns-then-took-eq0-clause-grows
returns-then-took-eq0-clause-grows g c = grows_called c.args.conn (λ s. fed_live s c.args.piece.now) (λ s. refl) _ _ c.in-Ok.took c.in-Ok.ensures.done

pub returns-clause-grows : goal.returns-clause-grows
returns-clause-grows g c = grows_called c.args.conn (λ s. fed_live s c.args.piece.now) (λ s. refl) _ _ c.in-Ok.took c.in-Ok.ensures.done

pub returns-then-took-eq0-clause-feeds : goal.returns-then-took-eq0-clause-feeds
returns-then-took-eq0-clause-feeds g c = inr (c.in-Ok.took, c.in-Ok.ensures.done, c.if-took-eq0.true)

pub returns-clause-feeds : goal.returns-clause-feeds
returns-clause-feeds g c = c.in-Ok.ensures.done

pub returns-clause-bound : goal.returns-clause-bound
returns-clause-bound g c =
    let some = c.if-took-eq0.false in
    (omega arith, feed_within c.args.piece.now c.args.conn _ _ c.in-Ok.took c.in-Ok.ensures.done)
