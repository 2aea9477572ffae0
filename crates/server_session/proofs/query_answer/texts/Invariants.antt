use Rattle.std.proofs.Common.{◌≡◌, map, take}
use Rattle.packstream.specs.Prelude.{text}
use Rattle.structures_cells.specs.Prelude.{shapes}
use Rattle.engine.specs.Views.{names_view}
use Rattle.server_session.proofs.query_answer.texts.Given as goal

abbrev pub invariant-loop-place : goal.invariant-loop-place
invariant-loop-place l = shapes l.cells.items ≡ map text (take l.place (names_view l.names))
