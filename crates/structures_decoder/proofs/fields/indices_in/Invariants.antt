use Rattle.structures_decoder.proofs.Words.{map, ◌-◌, int}
use Rattle.structures_decoder.proofs.Laid.{ReadSoFar}
use Rattle.structures_decoder.proofs.fields.indices_in.Given as goal

abbrev pub invariant-loop : goal.invariant-loop
invariant-loop g l = ReadSoFar l.fn.scope.version (l.room - 1) l.count l.counter (map int l.indices.items) (g.S.Source.left l.rest) (g.S.Source.left l.initial.rest)
