use Rattle.std.proofs.Common.{arith}
use Rattle.server_event_loop.specs.Prelude.{woken_seat}
use Rattle.server_event_loop.proofs.Lists.{one_written}
use Rattle.server_event_loop.proofs.host.wake_seats.Goals as goal

pub loop-at-preserved : goal.loop-at-preserved
loop-at-preserved c = record {
  items = one_written (woken_seat c.args.conn c.args.ready) c.args.seats.now.items c.loop-at.seats.items c.loop-at.at c.index_mut.result.now c.wake_seat.new.seat (omega (arith, c.loop-at-test.true, c.len-at-end.ensures, c.args.seats.now.ok.0)) c.loop-at.invariant.items c.index_mut.ensures.value c.wake_seat.ensures;
  len = c.loop-at.invariant.len;
  capacity = c.loop-at.invariant.capacity;
}
