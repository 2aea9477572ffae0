use Rattle.std.proofs.Common.{◌≡◌, sym, subst, List, map, arith, true}
use Rattle.std.specs.List.{AllByRecursion}
use Rattle.server_event_loop.specs.declared.seat.Seat.{Seat}
use Rattle.server_event_loop.specs.ConnectionPrelude.{seat_held}
use Rattle.server_event_loop.specs.Prelude.{Leads, standing, round_calls, InTime, remains}
use Rattle.server_event_loop.proofs.Led.{leads_then, leads_within}
use Rattle.server_event_loop.proofs.Served.{turns_begin, faded_turn, leads_faded, in_turn_left}
use Rattle.server_event_loop.proofs.host.Host.round.Goals as goal

pub loop-made-init : goal.loop-made-init
loop-made-init g c = record {
  leads = leads_then g.E.Engine.answer g.G.Gate.welcomes c.admit.ensures c.serve_seats.ensures.leads;
  in_time = c.serve_seats.ensures.in_time;
  in_turn = turns_begin (λ d. remains c.args.limits.now c.args.now d ≡ true) _ c.serve_seats.new.self.closings.items (omega (arith, c.len-count.ensures, c.serve_seats.new.self.closings.ok.0));
}

pub loop-made-preserved : goal.loop-made-preserved
loop-made-preserved g c = record {
  leads = subst (λ (items : List Seat). Leads g.E.Engine.answer g.G.Gate.welcomes (round_calls c.args.limits.now) (standing g.E.Engine.entries g.P.Peers.wire g.J.Journal.told c.args.self.now.seats.items c.args.self.now.closings.items c.args.server.now c.args.peers.now c.args.journal.now) (standing g.E.Engine.entries g.P.Peers.wire g.J.Journal.told items c.serve_closing.new.self.closings.items c.serve_seats.new.server c.serve_closing.new.peers c.serve_seats.new.journal)) (sym c.serve_closing.ensures.seats)
      (leads_within g.E.Engine.answer g.G.Gate.welcomes (leads_then g.E.Engine.answer g.G.Gate.welcomes c.loop-made.invariant.leads (leads_faded g.E.Engine.answer g.G.Gate.welcomes c.args.limits.now c.args.now (map seat_held c.loop-made.self.seats.items) c.loop-made.self.closings.items c.serve_closing.new.self.closings.items c.serve_closing.ensures.fades)) (omega arith));
  in_time = subst (λ (items : List Seat). AllByRecursion (InTime c.args.limits.now c.args.now) items) (sym c.serve_closing.ensures.seats) c.loop-made.invariant.in_time;
  in_turn = faded_turn c.args.limits.now c.args.now _ c.loop-made.self.closings.items c.serve_closing.new.self.closings.items (in_turn_left (λ d. remains c.args.limits.now c.args.now d ≡ true) c.len-count.result c.loop-made.made c.loop-made.self.closings.items (omega (arith, c.loop-made-test.true)) c.loop-made.invariant.in_turn) c.serve_closing.ensures.fades;
}
