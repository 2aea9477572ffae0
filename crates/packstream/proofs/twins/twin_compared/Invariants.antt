use Rattle.packstream.proofs.Checking.{AllNew}
use Rattle.packstream.proofs.twins.twin_compared.Given as goal

abbrev pub invariant-loop-i : goal.invariant-loop-i
invariant-loop-i g l = AllNew l.pairs l.i
