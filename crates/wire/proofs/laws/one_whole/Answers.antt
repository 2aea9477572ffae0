use Rattle.wire.proofs.Fronts.{one_whole}
use Rattle.wire.proofs.laws.one_whole.Goals as goal

pub returns : goal.returns
returns c = one_whole
