use Rattle.cli_replay.proofs.Stepping.{leads_as}
use Rattle.cli_replay.proofs.script_lines.once.Goals as goal

pub returns : goal.returns
returns g c = λ gate brought w reached fits. leads_as (λ w2 x. (x.0, x.1, x.2.0)) (c.in_ok-done.ensures gate brought w reached fits)
