use Rattle.std.proofs.Common.{map}
use Rattle.server.specs.Prelude.{rest_of}
use Rattle.server_event_loop.specs.ConnectionPrelude.{seat_held, owed_of}
use Rattle.server_event_loop.specs.Prelude.{closing_owed}
use Rattle.server_event_loop.proofs.Served.{not_opened, leads_refused, leads_memory, leads_let_in, guest_lives, leads_seatless}
use Rattle.server_event_loop.proofs.host.Host.let_in.Goals as goal

pub returns-in_default : goal.returns-in_default
returns-in_default g c = leads_refused g.E.Engine.answer g.G.Gate.welcomes (map seat_held c.args.self.now.seats.items) (map closing_owed c.args.self.now.closings.items) (not_opened _ _ _ c.in_default.ensures) c.refuse.ensures.same

pub returns-in_default-new : goal.returns-in_default-new
returns-in_default-new g c = leads_memory g.E.Engine.answer g.G.Gate.welcomes c.in-Ok.conn c.lost.result c.unwrap_or-cause.result (map seat_held c.args.self.now.seats.items) (map closing_owed c.args.self.now.closings.items) c.requires.seated c.in-Ok.ensures c.refuse-in_default-new.ensures.same c.lost.ensures c.unwrap_or-cause.ensures c.note.ensures

pub returns-then-seat : goal.returns-then-seat
returns-then-seat g c = leads_let_in g.E.Engine.answer g.G.Gate.welcomes c.in-Ok.conn c.in-Ok-new.seat c.args.self.now.seats.items c.push_back_reserved.new.self.items (map closing_owed c.args.self.now.closings.items) c.in-Ok.ensures c.in-Ok-new.ensures.held c.seat.ensures.same c.push_back_reserved.ensures.items

pub give_up-given_up-requires : goal.give_up-given_up-requires
give_up-given_up-requires g c = guest_lives g.E.Engine.answer g.G.Gate.welcomes (rest_of g.E.Engine.entries c.args.server.now) (rest_of g.E.Engine.entries c.open.new.self) c.in-Ok.conn (seat_held c.in-Ok-new.seat) c.in-Ok.ensures c.in-Ok-new.ensures.held

pub returns : goal.returns
returns g c = leads_seatless g.E.Engine.answer g.G.Gate.welcomes c.in-Ok.conn c.give_up-given_up.result.0 (seat_held c.in-Ok-new.seat) (owed_of c.give_up-given_up.result.1) (map seat_held c.args.self.now.seats.items) (map closing_owed c.args.self.now.closings.items) c.in-Ok.ensures c.in-Ok-new.ensures.held c.seat.ensures.same (c.give_up-given_up.ensures.parts (g.P.Peers.wire c.seat.new.self)) c.note-2.ensures
