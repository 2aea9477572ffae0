use Rattle.packstream.proofs.Words.{◌≡◌, take, fold, hash_more}
use Rattle.packstream.proofs.seen.hash_of.Given as goal

abbrev pub invariant-loop-byte : goal.invariant-loop-byte
invariant-loop-byte l = l.hash ≡ fold hash_more 0 (take l.byte-index l.byte-items)
