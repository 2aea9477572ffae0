use Rattle.bolt_c.proofs.Heads.{heads_tell}
use Rattle.bolt_c.proofs.laws.heads_tell.Goals as goal

pub returns : goal.returns
returns c = heads_tell
