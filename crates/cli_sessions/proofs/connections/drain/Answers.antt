use Rattle.std.proofs.Common.{◌++◌, ◌≤◌, length, length-append, take, rules, arith}
use Rattle.std.proofs.KnownBytes.{Consumes-trans}
use Rattle.streams.proofs.Moving.{Grows-trans}
use Rattle.cli_sessions.proofs.connections.drain.Goals as goal

pub loop-preserved : goal.loop-preserved
loop-preserved g c =
    let i = c.loop.invariant in
    let piece = take c.in-Ok.count c.read.new.buffer in
    let few : length piece ≤ 1024 = search rules in
    record {
      dropped = i.dropped ++ piece;
      gave = Grows-trans c.args.streams.now.at.given (g.I.Source.given c.loop.streams-inside.source) (g.I.Source.given c.read.new.self) i.dropped piece i.gave
          c.in-Ok.ensures.moves;
      read = Consumes-trans c.args.streams.now.at.left (g.I.Source.left c.loop.streams-inside.source) (g.I.Source.left c.read.new.self) i.dropped piece i.read
          c.in-Ok.ensures.bytes.0;
      few = simp length-append (omega (arith, i.few, few));
      reads = omega (arith, i.reads, c.in-Ok.ensures.lowers (search rules));
      put = i.put;
      written = i.written;
      write_failed = i.write_failed;
    }
