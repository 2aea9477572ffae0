use Rattle.std.proofs.Common.{◌≡◌, drop}
use Rattle.packstream_incremental.specs.Prelude.{number_from}
use Rattle.packstream_incremental.proofs.head.join.Given as goal

abbrev pub invariant-loop-byte : goal.invariant-loop-byte
invariant-loop-byte l = number_from l.all (drop l.byte-index l.bytes) ≡ number_from l.number l.bytes
