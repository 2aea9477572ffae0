use Rattle.std.proofs.Common.{◌≡◌, ℕ, map}
use Rattle.server_event_loop.specs.ConnectionPrelude.{seat_held}
use Rattle.server_event_loop.specs.Prelude.{closing_owed}
use Rattle.server_event_loop.proofs.host.Host.hear.Given as goal

abbrev pub invariant-loop-made : goal.invariant-loop-made
invariant-loop-made g l = record {
  seats : map seat_held l.self.seats.items ≡ map seat_held l.fn.self.seats.items;
  closings : map closing_owed l.self.closings.items ≡ map closing_owed l.fn.self.closings.items;
  wire : (k : ℕ) → g.P.Peers.wire l.peers k ≡ g.P.Peers.wire l.fn.peers k;
}
