use Rattle.std.proofs.Common.{arith, map}
use Rattle.server_event_loop.specs.ConnectionPrelude.{seat_held}
use Rattle.server_event_loop.specs.Prelude.{closing_owed}
use Rattle.server_event_loop.proofs.Led.{leads_none, leads_then, leads_within, leads_heard}
use Rattle.server_event_loop.proofs.host.Host.admit.Goals as goal

pub loop-made-init : goal.loop-made-init
loop-made-init g c = leads_none g.E.Engine.answer g.G.Gate.welcomes _

pub returns-then-not-may_greet : goal.returns-then-not-may_greet
returns-then-not-may_greet g c = leads_within g.E.Engine.answer g.G.Gate.welcomes c.loop-made.invariant (omega arith)

pub returns-in-Nobody : goal.returns-in-Nobody
returns-in-Nobody g c = leads_within g.E.Engine.answer g.G.Gate.welcomes (leads_then g.E.Engine.answer g.G.Gate.welcomes c.loop-made.invariant (leads_heard g.E.Engine.answer g.G.Gate.welcomes (map seat_held c.loop-made.self.seats.items) (map closing_owed c.loop-made.self.closings.items) c.greet.ensures.same)) (omega arith)

pub returns-in-Later : goal.returns-in-Later
returns-in-Later g c = leads_within g.E.Engine.answer g.G.Gate.welcomes (leads_then g.E.Engine.answer g.G.Gate.welcomes c.loop-made.invariant (leads_heard g.E.Engine.answer g.G.Gate.welcomes (map seat_held c.loop-made.self.seats.items) (map closing_owed c.loop-made.self.closings.items) c.greet.ensures.same)) (omega arith)

pub loop-made-preserved : goal.loop-made-preserved
loop-made-preserved g c = leads_within g.E.Engine.answer g.G.Gate.welcomes (leads_then g.E.Engine.answer g.G.Gate.welcomes c.loop-made.invariant (leads_then g.E.Engine.answer g.G.Gate.welcomes (leads_heard g.E.Engine.answer g.G.Gate.welcomes (map seat_held c.loop-made.self.seats.items) (map closing_owed c.loop-made.self.closings.items) c.greet.ensures.same) c.let_in.ensures)) (omega arith)

pub returns : goal.returns
returns g c = leads_within g.E.Engine.answer g.G.Gate.welcomes c.loop-made.invariant (omega arith)
