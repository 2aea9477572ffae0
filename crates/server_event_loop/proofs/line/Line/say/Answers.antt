use Rattle.std.proofs.Common.{ℕ, List, ◌≤◌, refl, subst, length}
use Rattle.server_event_loop.specs.ConnectionPrelude.{held_of}
use Rattle.server_event_loop.proofs.Carried.{carries_said}
use Rattle.server_event_loop.proofs.line.Line.say.Goals as goal

pub returns-in-Err : goal.returns-in-Err
returns-in-Err g c = carries_said (held_of c.args.self.now) _ (g.P.Peers.wire c.args.peers.now) (g.P.Peers.wire c.write.new.self) 0 refl c.write.ensures.others _ c.as_slice.ensures refl refl c.in-Err.ensures.tells

pub advance-requires : goal.advance-requires
advance-requires g c = subst (λ (l : List ℕ). c.in-Ok.count ≤ length l) c.as_slice.ensures c.in-Ok.ensures.tells.within

pub returns : goal.returns
returns g c = carries_said (held_of c.args.self.now) _ (g.P.Peers.wire c.args.peers.now) (g.P.Peers.wire c.write.new.self) c.in-Ok.count refl c.write.ensures.others _ c.as_slice.ensures refl c.advance.ensures c.in-Ok.ensures.tells
