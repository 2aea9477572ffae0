use Rattle.std.proofs.Common.{◌≡◌, ◌-◌, true}
use Rattle.std.specs.List.{AllByRecursion}
use Rattle.server_event_loop.specs.Prelude.{Leads, standing, round_calls, InTime, remains}
use Rattle.server_event_loop.proofs.Served.{InTurn}
use Rattle.server_event_loop.proofs.host.Host.round.Given as goal

abbrev pub invariant-loop-made : goal.invariant-loop-made
invariant-loop-made g l = record {
  leads : Leads g.E.Engine.answer g.G.Gate.welcomes (round_calls l.fn.limits) (standing g.E.Engine.entries g.P.Peers.wire g.J.Journal.told l.fn.self.seats.items l.fn.self.closings.items l.fn.server l.fn.peers l.fn.journal)
      (standing g.E.Engine.entries g.P.Peers.wire g.J.Journal.told l.self.seats.items l.self.closings.items l.server l.peers l.journal);
  in_time : AllByRecursion (InTime l.fn.limits l.fn.now) l.self.seats.items;
  in_turn : InTurn (λ c. remains l.fn.limits l.fn.now c ≡ true) (l.count - l.made) l.self.closings.items;
}
