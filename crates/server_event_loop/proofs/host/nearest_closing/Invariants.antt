use Rattle.std.proofs.Common.{◌≡◌}
use Rattle.std.specs.VecDeque.Iter.{deque_iter_rest}
use Rattle.server_event_loop.specs.Prelude.{nearest_closing}
use Rattle.server_event_loop.proofs.host.nearest_closing.Given as goal

abbrev pub invariant-loop-closing : goal.invariant-loop-closing
invariant-loop-closing l = nearest_closing l.limits (deque_iter_rest l.closing-iterator) l.nearest ≡ nearest_closing l.limits l.closings.items l.time
