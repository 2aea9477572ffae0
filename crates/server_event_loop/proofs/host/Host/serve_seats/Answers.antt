use Rattle.std.proofs.Common.{◌*◌, sym, subst, List, arith}
use Rattle.server_event_loop.specs.declared.seat.Seat.{Seat}
use Rattle.server_event_loop.specs.Prelude.{Leads, standing, turn_calls, InTime}
use Rattle.server_event_loop.proofs.Led.{leads_none, leads_then, leads_within}
use Rattle.server_event_loop.proofs.Served.{turns_begin, one_turn, times_more, times_within, in_turn_left}
use Rattle.server_event_loop.proofs.host.Host.serve_seats.Goals as goal

pub loop-made-init : goal.loop-made-init
loop-made-init g c = record {
  leads = leads_within g.E.Engine.answer g.G.Gate.welcomes (leads_none g.E.Engine.answer g.G.Gate.welcomes _) (omega arith);
  in_turn = turns_begin (InTime c.args.limits.now c.args.now) _ c.args.self.now.seats.items (omega (arith, c.len-count.ensures, c.args.self.now.seats.ok.0));
}

pub returns-in_default-clause-leads : goal.returns-in_default-clause-leads
returns-in_default-clause-leads g c =
    subst (λ (items : List Seat). Leads g.E.Engine.answer g.G.Gate.welcomes (16 * turn_calls c.args.limits.now) (standing g.E.Engine.entries g.P.Peers.wire g.J.Journal.told c.args.self.now.seats.items c.args.self.now.closings.items c.args.server.now c.args.peers.now c.args.journal.now) (standing g.E.Engine.entries g.P.Peers.wire g.J.Journal.told items c.loop-made.self.closings.items c.loop-made.server c.loop-made.peers c.loop-made.journal)) c.in_default.ensures.items
    (leads_within g.E.Engine.answer g.G.Gate.welcomes c.loop-made.invariant.leads (times_within c.loop-made.made 16 (turn_calls c.args.limits.now) (omega (arith, c.loop-made.auto.made-end, c.len-count.ensures, c.args.self.now.few))))

pub loop-made-preserved : goal.loop-made-preserved
loop-made-preserved g c = record {
  leads = leads_within g.E.Engine.answer g.G.Gate.welcomes (leads_then g.E.Engine.answer g.G.Gate.welcomes c.loop-made.invariant.leads
      (subst (λ (items : List Seat). Leads g.E.Engine.answer g.G.Gate.welcomes (turn_calls c.args.limits.now) (standing g.E.Engine.entries g.P.Peers.wire g.J.Journal.told items c.loop-made.self.closings.items c.loop-made.server c.loop-made.peers c.loop-made.journal) (standing g.E.Engine.entries g.P.Peers.wire g.J.Journal.told c.serve_seat.new.self.seats.items c.serve_seat.new.self.closings.items c.serve_seat.new.server c.serve_seat.new.peers c.serve_seat.new.journal)) (sym c.in-Some.ensures.items) c.serve_seat.ensures.leads)) (times_more c.loop-made.made (turn_calls c.args.limits.now));
  in_turn = one_turn (InTime c.args.limits.now c.args.now) _ c.loop-made.self.seats.items c.in-Some.seat c.pop_front.new.self.items c.serve_seat.new.self.seats.items (in_turn_left (InTime c.args.limits.now c.args.now) c.len-count.result c.loop-made.made c.loop-made.self.seats.items (omega (arith, c.loop-made-test.true)) c.loop-made.invariant.in_turn) c.in-Some.ensures.items c.serve_seat.ensures.in_time;
}

pub returns-clause-leads : goal.returns-clause-leads
returns-clause-leads g c = leads_within g.E.Engine.answer g.G.Gate.welcomes c.loop-made.invariant.leads (times_within c.loop-made.made 16 (turn_calls c.args.limits.now) (omega (arith, c.loop-made.auto.made-end, c.len-count.ensures, c.args.self.now.few)))
