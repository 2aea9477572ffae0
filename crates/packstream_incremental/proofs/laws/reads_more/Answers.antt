use Rattle.packstream_incremental.proofs.Pieces.{more_read}
use Rattle.packstream_incremental.proofs.laws.reads_more.Goals as goal

pub returns : goal.returns
returns c = more_read
