use Rattle.std.proofs.Common.{◌≡◌, drop, map, true}
use Rattle.packstream.specs.Prelude.{int, trees_of}
use Rattle.structures_cells.specs.Prelude.{is_walk}
use Rattle.structures_cells.proofs.path.indices_walk.Given as goal

abbrev pub invariant-loop-index : goal.invariant-loop-index
invariant-loop-index l = is_walk l.nodes l.relationships l.even (trees_of (map int (drop l.index-index l.indices))) ≡ is_walk l.nodes l.relationships true (trees_of (map int l.indices))
