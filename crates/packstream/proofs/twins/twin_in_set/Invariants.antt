use Rattle.packstream.proofs.Words.{take, names, Knows}
use Rattle.packstream.proofs.Checking.{AllNew}
use Rattle.packstream.proofs.twins.twin_in_set.Given as goal

abbrev pub invariant-loop-i : goal.invariant-loop-i
invariant-loop-i g l = AllNew l.pairs l.i × Knows l.seen (names (take l.i l.pairs))
