use Rattle.std.proofs.Common.{◌≡◌, ℕ, List, length, ◌≤◌, ◌*◌, ◌+◌}
use Rattle.std.specs.Io.KnownBytes.{Consumes}
use Rattle.streams.specs.Prelude.{Grows}
use Rattle.cli_sessions.proofs.connections.drain.Given as goal

-- each read drops 1,024 bytes at most, and leaves one read less
abbrev pub invariant-loop : goal.invariant-loop
invariant-loop g l = record {
  dropped : List ℕ;
  gave : Grows l.fn.streams.at.given (g.I.Source.given l.streams-inside.source) dropped;
  read : Consumes l.fn.streams.at.left (g.I.Source.left l.streams-inside.source) dropped;
  few : length dropped ≤ 1024 * l.counter;
  reads : g.I.Source.reads l.streams-inside.source + l.counter ≤ l.fn.streams.at.reads;
  put : g.O.Sink.put l.streams-inside.sink ≡ l.fn.streams.at.put;
  written : g.O.Sink.taken l.streams-inside.sink ≡ l.fn.streams.at.written;
  write_failed : g.O.Sink.has_failed l.streams-inside.sink ≡ l.fn.streams.at.write_failed;
}
