use Rattle.std.proofs.Common.{◌≡◌, drop}
use Rattle.packstream.specs.Prelude.{trees, trees_of}
use Rattle.structures_cells.specs.Prelude.{each, is_text}
use Rattle.structures_cells.proofs.kinds.all_texts.Given as goal

abbrev pub invariant-loop-member : goal.invariant-loop-member
invariant-loop-member l = each is_text (trees_of (trees (drop l.member-index l.members))) ≡ each is_text (trees_of (trees l.members))
