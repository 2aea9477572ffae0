use Rattle.messages.proofs.Words.{◌-◌, arith, rules}
use Rattle.messages.proofs.Put.{run_closed}
use Rattle.messages.proofs.runs.close_run.Goals as goal

pub returns-clause-closed : goal.returns-clause-closed
returns-clause-closed c = λ yes. run_closed c.args.out.now.more c.write_first.new.self.more (c.len-count.result - 2) c.requires (omega (arith, c.len-count.ensures)) (omega arith) (search rules)
