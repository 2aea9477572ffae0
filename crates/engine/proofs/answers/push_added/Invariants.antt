use Rattle.std.proofs.Common.{◌≡◌, ◌++◌, map}
use Rattle.packstream.specs.Prelude.{text}
use Rattle.structures_cells.specs.Prelude.{shapes}
use Rattle.engine.proofs.answers.push_added.Given as goal

abbrev pub invariant-loop-key : goal.invariant-loop-key
invariant-loop-key l = shapes l.cells.items ++ map text (map (λ k. k.now) l.key-iterator) ≡ shapes l.fn.cells.items ++ map text (map (λ k. k.now) l.keys.keys)
