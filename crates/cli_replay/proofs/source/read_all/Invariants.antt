use Rattle.std.specs.Io.KnownBytes.{Consumes}
use Rattle.cli_replay.proofs.source.read_all.Given as goal

-- what was read so far
abbrev pub invariant-loop-len : goal.invariant-loop-len
invariant-loop-len g l = Consumes (g.S.Source.left l.fn.source) (g.S.Source.left l.source) l.bytes.items

abbrev pub decreases-loop-len : goal.decreases-loop-len
decreases-loop-len g l = g.S.Source.reads l.source
