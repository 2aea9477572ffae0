use Rattle.wire.proofs.Fronts.{reads_messages}
use Rattle.wire.proofs.laws.reads_messages.Goals as goal

pub returns : goal.returns
returns c = reads_messages
