use Rattle.std.proofs.Common.{◌≡◌}
use Rattle.std.specs.VecDeque.Iter.{deque_iter_rest}
use Rattle.server_event_loop.specs.Prelude.{nearest_seat}
use Rattle.server_event_loop.proofs.host.nearest_seat.Given as goal

abbrev pub invariant-loop-seat : goal.invariant-loop-seat
invariant-loop-seat l = nearest_seat l.limits (deque_iter_rest l.seat-iterator) l.nearest ≡ nearest_seat l.limits l.seats.items l.time
