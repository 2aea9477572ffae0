use Rattle.std.proofs.Common.{◌*◌}
use Rattle.server_event_loop.specs.Prelude.{Leads, standing}
use Rattle.server_event_loop.proofs.host.Host.admit.Given as goal

abbrev pub invariant-loop-made : goal.invariant-loop-made
invariant-loop-made g l = Leads g.E.Engine.answer g.G.Gate.welcomes (l.made * 3) (standing g.E.Engine.entries g.P.Peers.wire g.J.Journal.told l.fn.self.seats.items l.fn.self.closings.items l.fn.server l.fn.peers l.fn.journal)
    (standing g.E.Engine.entries g.P.Peers.wire g.J.Journal.told l.self.seats.items l.self.closings.items l.server l.peers l.journal)
