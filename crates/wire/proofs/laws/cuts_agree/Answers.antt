use Rattle.wire.proofs.Cuts.{cuts_agree}
use Rattle.wire.proofs.laws.cuts_agree.Goals as goal

pub returns : goal.returns
returns c = cuts_agree
