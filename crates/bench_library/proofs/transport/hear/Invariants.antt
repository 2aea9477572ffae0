use Rattle.std.proofs.Common.{length}
use Rattle.bench_library.proofs.transport.hear.Given as goal

-- each turn of the loop takes bytes of the piece
abbrev pub decreases-loop-rest : goal.decreases-loop-rest
decreases-loop-rest l = length l.rest
