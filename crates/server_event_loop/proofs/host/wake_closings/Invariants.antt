use Rattle.std.proofs.Common.{◌≡◌, ◌++◌, map, take, drop}
use Rattle.std.specs.VecDeque.{deque_len, deque_capacity}
use Rattle.server_event_loop.specs.Prelude.{woken_closing}
use Rattle.server_event_loop.proofs.host.wake_closings.Given as goal

abbrev pub invariant-loop-at : goal.invariant-loop-at
invariant-loop-at l = record {
  items : l.closings.items ≡ map (woken_closing l.conn l.ready) (take l.at l.fn.closings.items) ++ drop l.at l.fn.closings.items;
  len : deque_len l.closings ≡ deque_len l.fn.closings;
  capacity : deque_capacity l.closings ≡ deque_capacity l.fn.closings;
}
