use Rattle.std.proofs.Common.{◌≡◌, drop}
use Rattle.engine.specs.Prelude.{same_writes, writes_view}
use Rattle.engine.proofs.lookup.same_each.Given as goal

abbrev pub invariant-loop-i : goal.invariant-loop-i
invariant-loop-i l = same_writes (writes_view (drop l.i l.some)) (writes_view (drop l.i l.others)) ≡ same_writes (writes_view l.some) (writes_view l.others)
