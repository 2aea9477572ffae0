use Rattle.bolt.specs.Served.{IsServing, HasServedAll}
use Rattle.bolt.proofs.sockets.serve_count.Given as goal

-- no session lives, the next number is that of the connections so far, and each of them has its line
abbrev pub invariant-loop : goal.invariant-loop
invariant-loop g l = record {
  serving : IsServing l.server l.counter;
  told : HasServedAll (g.O.Sink.taken l.fn.out) (g.O.Sink.taken l.out) l.fn.port l.counter;
}
