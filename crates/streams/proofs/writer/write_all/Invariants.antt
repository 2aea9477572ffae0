use Rattle.std.proofs.Common.{◌≡◌, ℕ, List, ◌++◌, length, true}
use Rattle.std.specs.Io.KnownBytes.{Appends}
use Rattle.streams.proofs.writer.write_all.Given as goal

abbrev pub invariant-loop-rest : goal.invariant-loop-rest
invariant-loop-rest g l = (done : List ℕ) × (done ++ l.rest ≡ l.fn.bytes) × Appends (g.S.Sink.taken l.fn.sink) (g.S.Sink.taken l.sink) done × (g.S.Sink.put l.sink ≡ g.S.Sink.put l.fn.sink ++ done) × (g.S.Sink.has_failed l.fn.sink ≡ true → g.S.Sink.has_failed l.sink ≡ true) × (g.S.Sink.has_failed l.sink ≡ true → g.S.Sink.has_failed l.fn.sink ≡ true)

abbrev pub decreases-loop-rest : goal.decreases-loop-rest
decreases-loop-rest g l = length l.rest
