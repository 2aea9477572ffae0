use Rattle.std.proofs.Common.{◌≡◌, drop, find}
use Rattle.wire.specs.Prelude.{versions, is_covered, covered_by}
use Rattle.wire.proofs.offers.covered.Given as goal

-- no version gone through is covered
abbrev pub invariant-loop-version : goal.invariant-loop-version
invariant-loop-version l =
    covered_by l.first l.range l.minor l.major ≡ find (is_covered l.first l.range l.minor l.major) (drop l.version-index versions)
