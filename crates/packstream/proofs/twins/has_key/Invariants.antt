use Rattle.packstream.proofs.Words.{◌≡◌, drop, is_among, names}
use Rattle.packstream.proofs.twins.has_key.Given as goal

abbrev pub invariant-loop-pair : goal.invariant-loop-pair
invariant-loop-pair g l = is_among l.key (names (drop l.pair-index l.pairs)) ≡ is_among l.key (names l.pairs)
