use Rattle.engine_sqlite.proofs.Reading.{shown_next}
use Rattle.engine_sqlite.proofs.opening.take_each.Goals as goal

pub loop-at-preserved : goal.loop-at-preserved
loop-at-preserved g c =
    let entries = g.E.Engine.entries in
    shown_next c.args.rows.now c.loop-at.at c.index-rows-at.result (entries c.loop-at.inner) (entries c.take_row.new.inner) c.loop-at-test.true c.index-rows-at.is c.loop-at.invariant c.in_ok-take_row.ensures
