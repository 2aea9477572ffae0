use Rattle.std.proofs.Common.{refl, Ok, true}
use Rattle.world.specs.declared.kinds.Seen.TheVariants as seen
use Rattle.world.specs.Prelude.{seen_in}
use Rattle.world.proofs.Turning.{link_at}
use Rattle.world.proofs.Given.{submit_turns, loses_turns, event_is}
use Rattle.world.proofs.Turned.{cut_done}
use Rattle.world.proofs.turns.turn.Goals as goal

pub returns-in-Submit : goal.returns-in-Submit
returns-in-Submit g c =
    event_is g.E.Engine.entries g.E.Engine.answer g.G.Gate.welcomes c.args.event _ c.args.link.now c.args.server.now c.submit.result c.submit.new.link c.args.server.now c.in-Submit.is
    (λ r w b. submit_turns b (seen_in c.submit.result) c.submit.new.link (c.submit.ensures (link_at b) (record { client = b.client; link_is = refl; ends = b.ends })))

pub returns-in-ClientLost : goal.returns-in-ClientLost
returns-in-ClientLost g c =
    event_is g.E.Engine.entries g.E.Engine.answer g.G.Gate.welcomes c.args.event _ c.args.link.now c.args.server.now c.lose_client.result c.lose_client.new.link c.args.server.now c.in-ClientLost.is
    (λ r w b. loses_turns b (seen_in c.lose_client.result) c.lose_client.new.link (c.lose_client.ensures (link_at b) (record { client = b.client; link_is = refl; ends = b.ends })))

pub returns-in-Cut : goal.returns-in-Cut
returns-in-Cut g c =
    event_is g.E.Engine.entries g.E.Engine.answer g.G.Gate.welcomes c.args.event _ c.args.link.now c.args.server.now (Ok seen.Nothing) (record c.args.link.now { is_cut = true }) c.args.server.now c.in-Cut.is (λ r w b. cut_done b)
