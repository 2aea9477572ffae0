use Rattle.std.specs.Io.KnownBytes.{Keeps}
use Rattle.server_tcp.proofs.transfers.write_now.Given as goal

-- nothing was written
abbrev pub invariant-loop : goal.invariant-loop
invariant-loop g l = Keeps (g.W.Write.contents l.fn.stream) (g.W.Write.contents l.stream)
