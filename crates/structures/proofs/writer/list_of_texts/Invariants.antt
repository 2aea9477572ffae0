use Rattle.std.proofs.Common.{◌≡◌, take, map}
use Rattle.structures.proofs.Prelude.{trees, text_of}
use Rattle.structures.proofs.writer.list_of_texts.Given as goal

abbrev pub invariant-loop-text : goal.invariant-loop-text
invariant-loop-text l = trees l.members.items ≡ map text_of (take l.text-index l.text-items)
