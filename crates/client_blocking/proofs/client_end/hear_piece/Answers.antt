use Rattle.std.proofs.Common.{arith}
use Rattle.client_blocking.proofs.client_end.hear_piece.Goals as goal

pub hear_into-requires : goal.hear_into-requires
hear_into-requires g c = record { some = omega arith; few = omega arith; turn = c.requires }
