use Rattle.std.proofs.Common.{refl}
use Rattle.server_event_loop.proofs.Lingered.{lingers_said}
use Rattle.server_event_loop.proofs.closing.Closing.say.Goals as goal

pub returns-in-Err-clause-lingers : goal.returns-in-Err-clause-lingers
returns-in-Err-clause-lingers g c = lingers_said c.args.self.now _ (g.P.Peers.wire c.args.peers.now) (g.P.Peers.wire c.write.new.self) 0 _ c.as_slice.ensures refl refl refl refl c.in-Err.ensures.tells c.write.ensures.others

pub returns-then-count-gt0-clause-lingers : goal.returns-then-count-gt0-clause-lingers
returns-then-count-gt0-clause-lingers g c = lingers_said c.args.self.now _ (g.P.Peers.wire c.args.peers.now) (g.P.Peers.wire c.write.new.self) c.in-Ok.count _ c.as_slice.ensures c.advance.ensures refl refl refl c.in-Ok.ensures.tells c.write.ensures.others

pub returns-else-count-gt0-clause-lingers : goal.returns-else-count-gt0-clause-lingers
returns-else-count-gt0-clause-lingers g c = lingers_said c.args.self.now _ (g.P.Peers.wire c.args.peers.now) (g.P.Peers.wire c.write.new.self) c.in-Ok.count _ c.as_slice.ensures c.advance.ensures refl refl refl c.in-Ok.ensures.tells c.write.ensures.others
