use Rattle.std.proofs.Common.{sym, ◌∙◌, ap}
use Rattle.decider.specs.Rules.{is_end}
use Rattle.decider.proofs.Appending.{no_reason}
use Rattle.decider.proofs.state.Decider.end_reason.Goals as goal

pub returns-then-not-is_end : goal.returns-then-not-is_end
returns-then-not-is_end c p ts b w =
    no_reason p ts (sym (c.is_end.ensures ∙ ap is_end (c.next_step.ensures p ts b w)) ∙ c.if-not-is_end.true)
