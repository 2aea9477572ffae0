use Rattle.std.proofs.Common.{take}
use Rattle.engine_sqlite.specs.Shown.{AreShownAs}
use Rattle.engine_sqlite.proofs.opening.take_each.Given as goal

-- the rows before it are the entries
abbrev pub invariant-loop-at : goal.invariant-loop-at
invariant-loop-at g l = AreShownAs 1 (g.E.Engine.entries l.inner) (take l.at l.rows)
