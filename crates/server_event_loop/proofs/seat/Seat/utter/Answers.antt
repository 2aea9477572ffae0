use Rattle.server_event_loop.specs.ConnectionPrelude.{seat_held}
use Rattle.server_event_loop.proofs.Carried.{carries_none}
use Rattle.server_event_loop.proofs.seat.Seat.utter.Goals as goal

pub returns-then-not-self-clause-carries : goal.returns-then-not-self-clause-carries
returns-then-not-self-clause-carries g c = carries_none (seat_held c.args.self.now) (g.P.Peers.wire c.args.peers.now)
