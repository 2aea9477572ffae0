use Rattle.machine.proofs.Sets.{greeting-joined}
use Rattle.machine.proofs.successors.by_greeting.Goals as goal

pub returns-in-Some : goal.returns-in-Some
returns-in-Some c = greeting-joined _ _ _ _ _ _ _ c.union.ensures c.of-in-Some.ensures c.phase.ensures c.told.ensures c.in-Some.is
