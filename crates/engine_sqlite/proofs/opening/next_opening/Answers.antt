use Rattle.std.proofs.Common.{◌≡◌, ◌+ℤ◌, pos, to_z, of_z, w64, rules}
use Rattle.engine_sqlite.proofs.opening.next_opening.Goals as goal

pub returns-in-Some-clause-numbers : goal.returns-in-Some-clause-numbers
returns-in-Some-clause-numbers g c clean =
    let next : to_z w64 (of_z w64 c.in-Some.opening) ≡ c.in_ok-last.last +ℤ pos 1 = search rules in
    record { answer = c.in_ok-row.row; last = c.in_ok-last.last; shown = c.in_ok-row.ensures.shown clean; last_is = c.in_ok-last.ensures; next = next }
