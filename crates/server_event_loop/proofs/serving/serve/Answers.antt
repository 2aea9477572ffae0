use Rattle.std.proofs.Common.{map, ◌∙◌, refl}
use Rattle.server.specs.Prelude.{rest_of}
use Rattle.server_event_loop.specs.ConnectionPrelude.{seat_held}
use Rattle.server_event_loop.specs.Prelude.{closing_owed}
use Rattle.server_event_loop.proofs.Ran.{has_begun, has_begun_so, has_led, has_waited, has_run}
use Rattle.server_event_loop.proofs.serving.serve.Goals as goal

pub returns-in_default : goal.returns-in_default
returns-in_default g c = has_run g.E.Engine.answer g.G.Gate.welcomes (has_begun g.E.Engine.answer g.G.Gate.welcomes (rest_of g.E.Engine.entries c.args.server.now) (g.P.Peers.wire c.args.peers.now) (g.J.Journal.told c.args.journal.now) c.requires)

pub loop-made-init : goal.loop-made-init
loop-made-init g c = has_begun_so g.E.Engine.answer g.G.Gate.welcomes (rest_of g.E.Engine.entries c.args.server.now) (g.P.Peers.wire c.args.peers.now) (g.J.Journal.told c.args.journal.now) c.in-Ok.host.seats.items c.in-Ok.host.closings.items c.requires c.in-Ok.ensures.seats c.in-Ok.ensures.closings

pub returns-then-not-wait : goal.returns-then-not-wait
returns-then-not-wait g c = has_run g.E.Engine.answer g.G.Gate.welcomes (has_waited g.E.Engine.answer g.G.Gate.welcomes (map seat_held c.loop-made.host.seats.items) (map seat_held c.loop-made.host.seats.items) (map closing_owed c.loop-made.host.closings.items) (map closing_owed c.loop-made.host.closings.items) c.loop-made.invariant refl refl c.wait.ensures)

pub round-requires : goal.round-requires
round-requires g c = (has_waited g.E.Engine.answer g.G.Gate.welcomes (map seat_held c.loop-made.host.seats.items) (map seat_held c.hear.new.self.seats.items) (map closing_owed c.loop-made.host.closings.items) (map closing_owed c.hear.new.self.closings.items) c.loop-made.invariant c.hear.ensures.seats c.hear.ensures.closings (λ k. c.now-now.ensures.same k ∙ c.hear.ensures.wire k ∙ c.wait.ensures k)).seated

pub loop-made-preserved : goal.loop-made-preserved
loop-made-preserved g c = has_led g.E.Engine.answer g.G.Gate.welcomes (has_waited g.E.Engine.answer g.G.Gate.welcomes (map seat_held c.loop-made.host.seats.items) (map seat_held c.hear.new.self.seats.items) (map closing_owed c.loop-made.host.closings.items) (map closing_owed c.hear.new.self.closings.items) c.loop-made.invariant c.hear.ensures.seats c.hear.ensures.closings (λ k. c.now-now.ensures.same k ∙ c.hear.ensures.wire k ∙ c.wait.ensures k)) c.round.ensures.leads

pub returns : goal.returns
returns g c = has_run g.E.Engine.answer g.G.Gate.welcomes c.loop-made.invariant
