use Rattle.std.proofs.Common.{take}
use Rattle.engine.specs.Prelude.{writes_view}
use Rattle.engine_sqlite.specs.Spelled.{SpellsWrites}
use Rattle.engine_sqlite.proofs.codec.bytes_of.Given as goal

-- the writes before it are spelled
abbrev pub invariant-loop-write : goal.invariant-loop-write
invariant-loop-write l = SpellsWrites (writes_view (take l.write-index l.writes)) l.out.items
