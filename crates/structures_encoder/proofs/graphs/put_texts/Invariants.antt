use Rattle.structures_encoder.proofs.Words.{◌≡◌, text_of, Scope, SpellsEach}
use Rattle.structures_encoder.proofs.Adding.{Left}
use Rattle.structures_encoder.proofs.graphs.put_texts.Given as goal

abbrev pub invariant-loop-text : goal.invariant-loop-text
invariant-loop-text l = (l.out.before ≡ l.fn.out.before) × ((s : Scope) → Left (SpellsEach s text_of) l.texts l.text-index l.initial.out l.out)
