use Rattle.server.specs.Prelude.{rest_of}
use Rattle.server_event_loop.specs.Prelude.{standing}
use Rattle.server_event_loop.proofs.Ran.{HasCome}
use Rattle.server_event_loop.proofs.serving.serve.Given as goal

abbrev pub invariant-loop-made : goal.invariant-loop-made
invariant-loop-made g l = HasCome g.E.Engine.answer g.G.Gate.welcomes (rest_of g.E.Engine.entries l.fn.server) (g.P.Peers.wire l.fn.peers) (g.J.Journal.told l.fn.journal)
    (standing g.E.Engine.entries g.P.Peers.wire g.J.Journal.told l.host.seats.items l.host.closings.items l.server l.peers l.journal)
