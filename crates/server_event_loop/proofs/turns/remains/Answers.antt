use Rattle.std.proofs.Common.{refl}
use Rattle.server_event_loop.proofs.Lingered.{lingers_none}
use Rattle.server_event_loop.proofs.turns.remains.Goals as goal

pub returns-then-not-is_busy-clause-lingers : goal.returns-then-not-is_busy-clause-lingers
returns-then-not-is_busy-clause-lingers g c = lingers_none c.args.closing.now c.args.closing.now (g.P.Peers.wire c.args.peers.now) refl refl refl
