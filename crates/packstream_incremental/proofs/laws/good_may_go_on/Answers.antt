use Rattle.packstream_incremental.proofs.Pieces.{good_data}
use Rattle.packstream_incremental.proofs.laws.good_may_go_on.Goals as goal

pub returns : goal.returns
returns c = λ b reads good. good_data c.args.reader.now.here b reads good (c.stands.ensures.good good)
