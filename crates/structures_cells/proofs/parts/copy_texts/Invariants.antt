use Rattle.std.proofs.Common.{◌≡◌, take, map}
use Rattle.structures_cells.specs.Prelude.{text_of}
use Rattle.structures_cells.proofs.parts.copy_texts.Given as goal

abbrev pub invariant-loop-text : goal.invariant-loop-text
invariant-loop-text l = map text_of l.copies.items ≡ map text_of (take l.text-index l.text-items)
