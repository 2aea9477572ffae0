use Rattle.std.proofs.Common.{◌≡◌, ◌≤◌}
use Rattle.bench_library.specs.Unspelled.{SpellNothing}
use Rattle.bench_library.proofs.codec.bench_decode.Given as goal

abbrev pub invariant-loop : goal.invariant-loop
invariant-loop l = (l.done ≤ l.counter) × (SpellNothing l.bytes → l.done ≡ 0)
