use Rattle.std.proofs.Common.{length}
use Rattle.client_blocking.proofs.client_end.hear_into.Goals as goal

pub read_after-requires : goal.read_after-requires
read_after-requires g c = record { turn = c.requires.turn (length c.args.buffer.now) c.requires.few }
