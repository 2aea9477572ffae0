use Rattle.machine.proofs.Sets.{row-joined}
use Rattle.machine.proofs.successors.by_row.Goals as goal

pub returns-in-Some : goal.returns-in-Some
returns-in-Some c =
    row-joined _ _ _ _ _ _ _ _ _ c.union-in-Some-2.ensures c.union-in-Some.ensures c.of-in-Some.ensures c.phase.ensures c.told.ensures c.of-in-Some-2.ensures c.in-Some.is
