use Rattle.std.proofs.Common.{◌≡◌, ◌-◌, ◌≤◌, false, length, take, drop}
use Rattle.wire.specs.Prelude.{answer_from, further, unfinished_at, Holds}
use Rattle.wire.proofs.items.scan_piece.Given as goal

abbrev pub invariant-loop-used : goal.invariant-loop-used
invariant-loop-used l = record {
  within : l.used ≤ length l.piece;
  holds : Holds l.body.items l.chunks;
  going : l.chunks.too_big ≡ false;
  kept : take (length l.fn.body.items) l.body.items ≡ l.fn.body.items;
  ahead : answer_from (unfinished_at l.fn.chunks l.fn.body.items) l.piece ≡ further l.used (answer_from (unfinished_at l.chunks l.body.items) (drop l.used l.piece));
}

abbrev pub decreases-loop-used : goal.decreases-loop-used
decreases-loop-used l = length l.initial.piece - l.used
