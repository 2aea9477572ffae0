use Rattle.structures_decoder.proofs.Words.{map, ◌-◌, text_of}
use Rattle.structures_decoder.proofs.Laid.{ReadSoFar}
use Rattle.structures_decoder.proofs.fields.labels_in.Given as goal

abbrev pub invariant-loop : goal.invariant-loop
invariant-loop g l = ReadSoFar l.scope.version (l.room - 1) l.count l.counter (map text_of l.texts.items) (g.S.Source.left l.rest) (g.S.Source.left l.initial.rest)
