use Rattle.std.proofs.Common.{◌≡◌, drop, true}
use Rattle.packstream.specs.Prelude.{trees, trees_of}
use Rattle.structures_cells.specs.Prelude.{is_walk}
use Rattle.structures_cells.proofs.path.walks.Given as goal

abbrev pub invariant-loop-step : goal.invariant-loop-step
invariant-loop-step l = is_walk l.nodes l.relationships l.even (trees_of (trees (drop l.step-index l.steps))) ≡ is_walk l.nodes l.relationships true (trees_of (trees l.steps))
