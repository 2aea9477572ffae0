use Rattle.std.proofs.Common.{◌≡◌, map, take}
use Rattle.wire.specs.declared.Version.{Version}
use Rattle.structures_cells.specs.Prelude.{shapes}
use Rattle.structures.specs.Prelude.{fitted}
use Rattle.server_session.proofs.remaining.are_all_plain.Given as goal

abbrev pub invariant-loop-cell : goal.invariant-loop-cell
invariant-loop-cell l = (v : Version) → map (fitted v) (shapes (take l.cell-index l.cells)) ≡ shapes (take l.cell-index l.cells)
