use Rattle.wire.proofs.Framed.{reads_items}
use Rattle.wire.proofs.laws.framing.reads_items.Goals as goal

pub returns : goal.returns
returns c = reads_items
