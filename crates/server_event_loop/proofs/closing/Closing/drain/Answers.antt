use Rattle.std.proofs.Common.{refl}
use Rattle.server_event_loop.proofs.Lingered.{lingers_none}
use Rattle.server_event_loop.proofs.closing.Closing.drain.Goals as goal

pub returns-then-self-ge-MAX_DRAINED : goal.returns-then-self-ge-MAX_DRAINED
returns-then-self-ge-MAX_DRAINED g c = lingers_none c.args.self.now _ (g.P.Peers.wire c.args.peers.now) refl refl refl
