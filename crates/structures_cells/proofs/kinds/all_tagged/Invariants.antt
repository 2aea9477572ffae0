use Rattle.std.proofs.Common.{◌≡◌, drop}
use Rattle.packstream.specs.Prelude.{trees, trees_of}
use Rattle.structures_cells.specs.Prelude.{each, has_tag}
use Rattle.structures_cells.proofs.kinds.all_tagged.Given as goal

abbrev pub invariant-loop-member : goal.invariant-loop-member
invariant-loop-member l = each (has_tag l.tag) (trees_of (trees (drop l.member-index l.members))) ≡ each (has_tag l.tag) (trees_of (trees l.members))
