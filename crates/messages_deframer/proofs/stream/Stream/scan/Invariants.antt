use Rattle.std.proofs.Common.{◌≡◌, length, ◌-◌, ◌≤◌, None, false}
use Rattle.wire.specs.Prelude.{Unfinished}
use Rattle.messages_deframer.specs.Standing.{IsAt}
use Rattle.messages_deframer.specs.Scanning.{Comes}
use Rattle.messages_deframer.proofs.stream.Stream.scan.Given as goal

abbrev pub invariant-loop-used : goal.invariant-loop-used
invariant-loop-used l = record {
  comes : (u : Unfinished) → IsAt l.fn.self u → Comes u l.piece l.used l.self.chunks l.self.reader.here;
  within : l.used ≤ length l.piece;
  going : l.self.chunks.too_big ≡ false;
  held : l.self.reader.held ≡ l.fn.self.reader.held;
  over : l.self.is_over ≡ l.fn.self.is_over;
  good : l.self.reader.here.bad ≡ None → l.fn.self.reader.here.bad ≡ None;
}

abbrev pub decreases-loop-used : goal.decreases-loop-used
decreases-loop-used l = length l.piece - l.used
