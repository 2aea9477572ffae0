use Rattle.std.proofs.Common.{◌≡◌, ◌++◌, map, take, drop}
use Rattle.std.specs.VecDeque.{deque_len, deque_capacity}
use Rattle.server_event_loop.specs.Prelude.{woken_seat}
use Rattle.server_event_loop.proofs.host.wake_seats.Given as goal

abbrev pub invariant-loop-at : goal.invariant-loop-at
invariant-loop-at l = record {
  items : l.seats.items ≡ map (woken_seat l.conn l.ready) (take l.at l.fn.seats.items) ++ drop l.at l.fn.seats.items;
  len : deque_len l.seats ≡ deque_len l.fn.seats;
  capacity : deque_capacity l.seats ≡ deque_capacity l.fn.seats;
}
