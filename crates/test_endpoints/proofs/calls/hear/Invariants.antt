use Rattle.std.proofs.Common.{length}
use Rattle.test_endpoints.proofs.calls.hear.Given as goal

abbrev pub decreases-loop-rest : goal.decreases-loop-rest
decreases-loop-rest l = length l.rest
