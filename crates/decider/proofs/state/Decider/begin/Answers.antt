-- The next step is that of all results, and only the mark of an attempt under way is set after it.
use Rattle.std.proofs.Common.{◌∙◌, ap, false}
use Rattle.decider.specs.Rules.{sends, all_results, next_at}
use Rattle.decider.proofs.Appending.{set_pending}
use Rattle.decider.proofs.state.Decider.begin.Goals as goal

pub returns-clause-next : goal.returns-clause-next
returns-clause-next c p ts b w =
    c.next_step-next.ensures p (all_results ts b) false (c.report_unfinished.ensures p ts b w)

pub returns-clause-state : goal.returns-clause-state
returns-clause-state c p ts b w =
    set_pending c.report_unfinished.new.self c.sends-self.result (sends (next_at p ts b))
    (c.sends-self.ensures
    ∙ ap sends (c.next_step-next.ensures p (all_results ts b) false (c.report_unfinished.ensures p ts b w)))
    p (all_results ts b) false (c.report_unfinished.ensures p ts b w)
