use Rattle.std.proofs.Common.{arith}
use Rattle.server_event_loop.specs.Prelude.{woken_closing}
use Rattle.server_event_loop.proofs.Lists.{one_written}
use Rattle.server_event_loop.proofs.host.wake_closings.Goals as goal

pub loop-at-preserved : goal.loop-at-preserved
loop-at-preserved c = record {
  items = one_written (woken_closing c.args.conn c.args.ready) c.args.closings.now.items c.loop-at.closings.items c.loop-at.at c.index_mut.result.now c.wake_closing.new.closing (omega (arith, c.loop-at-test.true, c.len-at-end.ensures, c.args.closings.now.ok.0)) c.loop-at.invariant.items c.index_mut.ensures.value c.wake_closing.ensures;
  len = c.loop-at.invariant.len;
  capacity = c.loop-at.invariant.capacity;
}
