use Rattle.std.proofs.Common.{inr, map}
use Rattle.server_event_loop.specs.ConnectionPrelude.{seat_held}
use Rattle.server_event_loop.specs.Prelude.{closing_owed}
use Rattle.server_event_loop.proofs.Served.{lives_on, leads_stays, leads_ends}
use Rattle.server_event_loop.proofs.host.Host.serve_seat.Goals as goal

pub returns-then-goes_on-clause-leads : goal.returns-then-goes_on-clause-leads
returns-then-goes_on-clause-leads g c = leads_stays g.E.Engine.answer g.G.Gate.welcomes (seat_held c.args.seat) c.goes_on.new.seat c.args.self.now.seats.items c.push_back_reserved.new.self.items (map closing_owed c.args.self.now.closings.items) c.requires.seated c.goes_on.ensures.moves c.push_back_reserved.ensures.items

pub returns-then-goes_on-clause-in_time : goal.returns-then-goes_on-clause-in_time
returns-then-goes_on-clause-in_time g c = inr (c.goes_on.new.seat, c.goes_on.ensures.in_time c.if-goes_on.true, c.push_back_reserved.ensures.items)

pub end-requires-clause-lives : goal.end-requires-clause-lives
end-requires-clause-lives g c = lives_on g.E.Engine.answer g.G.Gate.welcomes (seat_held c.args.seat) (seat_held c.goes_on.new.seat) (map seat_held c.args.self.now.seats.items) (map closing_owed c.args.self.now.closings.items) c.requires.seated c.goes_on.ensures.moves

pub returns-clause-leads : goal.returns-clause-leads
returns-clause-leads g c = leads_ends g.E.Engine.answer g.G.Gate.welcomes (seat_held c.args.seat) (seat_held c.goes_on.new.seat) c.args.self.now.seats.items c.end.new.self.seats.items (map closing_owed c.args.self.now.closings.items) (map closing_owed c.end.new.self.closings.items) c.requires.seated c.goes_on.ensures.moves c.end.ensures.ends c.end.ensures.seats
