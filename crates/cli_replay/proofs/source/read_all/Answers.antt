use Rattle.std.proofs.Common.{◌++◌, take}
use Rattle.std.proofs.KnownBytes.{Consumes-trans}
use Rattle.cli_replay.proofs.source.read_all.Goals as goal

pub returns-then-is_err-clause-bytes : goal.returns-then-is_err-clause-bytes
returns-then-is_err-clause-bytes g c =
    let piece = take c.in-Ok.len c.read.new.buffer in
    (c.loop-len.bytes.items ++ piece, Consumes-trans (g.S.Source.left c.args.source.now) (g.S.Source.left c.loop-len.source) (g.S.Source.left c.read.new.self) c.loop-len.bytes.items piece c.loop-len.invariant c.in-Ok.ensures.bytes.0, tt)
