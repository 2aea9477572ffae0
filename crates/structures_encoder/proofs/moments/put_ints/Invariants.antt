use Rattle.structures_encoder.proofs.Words.{◌≡◌, int, Scope, SpellsEach}
use Rattle.structures_encoder.proofs.Adding.{Left}
use Rattle.structures_encoder.proofs.moments.put_ints.Given as goal

abbrev pub invariant-loop-number : goal.invariant-loop-number
invariant-loop-number l = (l.out.before ≡ l.fn.out.before) × ((s : Scope) → Left (SpellsEach s int) l.numbers l.number-index l.initial.out l.out)
