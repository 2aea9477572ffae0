use Rattle.std.proofs.Common.{◌≡◌, ◌++◌, ℕ, List}
use Rattle.engine.specs.Prelude.{writes_view}
use Rattle.engine_sqlite.specs.Spelled.{SpellsWrites}
use Rattle.engine_sqlite.proofs.codec.writes_of.Given as goal

-- the bytes before the rest spell the writes so far
abbrev pub invariant-loop : goal.invariant-loop
invariant-loop l = (front : List ℕ) × SpellsWrites (writes_view l.writes.items) front × (l.bytes ≡ front ++ l.rest)
