use Rattle.std.proofs.Common.{◌≡◌, ◌∙◌}
use Rattle.server_event_loop.specs.declared.closing.Phase.TheVariants.{Writing}
use Rattle.server_event_loop.proofs.closing.Closing.write.Goals as goal

pub returns-else-is_empty-clause-whole : goal.returns-else-is_empty-clause-whole
returns-else-is_empty-clause-whole g c = λ e. let h : c.say.new.self.phase ≡ Writing = c.say.ensures.phase ∙ c.shift.ensures.phase ∙ c.requires in cc
