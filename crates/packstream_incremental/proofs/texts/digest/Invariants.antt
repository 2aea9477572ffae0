use Rattle.std.proofs.Common.{◌≡◌, drop}
use Rattle.packstream_incremental.specs.Prelude.{digest_from}
use Rattle.packstream_incremental.proofs.texts.digest.Given as goal

abbrev pub invariant-loop-byte : goal.invariant-loop-byte
invariant-loop-byte l = digest_from l.digest (drop l.byte-index l.text) ≡ digest_from 0 l.text
