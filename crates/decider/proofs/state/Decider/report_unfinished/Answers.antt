use Rattle.decider.proofs.Appending.{unfinished}
use Rattle.decider.proofs.state.Decider.report_unfinished.Goals as goal

pub returns-then-self : goal.returns-then-self
returns-then-self c = unfinished c.args.self.now c.report.new.self c.report.ensures c.if-self.true
