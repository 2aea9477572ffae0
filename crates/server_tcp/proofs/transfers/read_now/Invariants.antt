use Rattle.std.specs.Io.KnownBytes.{Keeps}
use Rattle.server_tcp.proofs.transfers.read_now.Given as goal

-- nothing was read
abbrev pub invariant-loop : goal.invariant-loop
invariant-loop g l = Keeps (g.R.Read.remaining l.fn.stream) (g.R.Read.remaining l.stream)
