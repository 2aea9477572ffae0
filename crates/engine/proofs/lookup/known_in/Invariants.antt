use Rattle.std.proofs.Common.{◌≡◌, drop}
use Rattle.engine.specs.Prelude.{found_from, entries_view, writes_view}
use Rattle.engine.proofs.lookup.known_in.Given as goal

abbrev pub invariant-loop-i : goal.invariant-loop-i
invariant-loop-i l = found_from l.token (writes_view l.writes) (entries_view (drop l.i l.ledger)) l.i ≡ found_from l.token (writes_view l.writes) (entries_view l.ledger) 0
