use Rattle.std.proofs.Common.{◌-◌, ◌*◌}
use Rattle.server_event_loop.specs.Prelude.{Leads, standing, turn_calls, InTime}
use Rattle.server_event_loop.proofs.Served.{InTurn}
use Rattle.server_event_loop.proofs.host.Host.serve_seats.Given as goal

abbrev pub invariant-loop-made : goal.invariant-loop-made
invariant-loop-made g l = record {
  leads : Leads g.E.Engine.answer g.G.Gate.welcomes (l.made * turn_calls l.fn.limits) (standing g.E.Engine.entries g.P.Peers.wire g.J.Journal.told l.fn.self.seats.items l.fn.self.closings.items l.fn.server l.fn.peers l.fn.journal)
      (standing g.E.Engine.entries g.P.Peers.wire g.J.Journal.told l.self.seats.items l.self.closings.items l.server l.peers l.journal);
  in_turn : InTurn (InTime l.fn.limits l.fn.now) (l.count - l.made) l.self.seats.items;
}
