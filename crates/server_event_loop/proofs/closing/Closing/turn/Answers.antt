use Rattle.std.proofs.Common.{refl}
use Rattle.server_event_loop.proofs.Lingered.{lingers_none}
use Rattle.server_event_loop.proofs.closing.Closing.turn.Goals as goal

pub returns-in-Closed-clause-lingers : goal.returns-in-Closed-clause-lingers
returns-in-Closed-clause-lingers g c = lingers_none c.args.self.now _ (g.P.Peers.wire c.args.peers.now) refl refl refl
