use Rattle.world.specs.Prelude.{setting_of, event_of}
use Rattle.world.proofs.Told.{settled_follows}
use Rattle.world.proofs.events.follow.Goals as goal

pub returns : goal.returns
returns g c = λ gate brought w reached fits.
    settled_follows g.E.Engine.entries (setting_of g.E.Engine.answer g.G.Gate.welcomes gate) gate brought w (event_of c.args.event.now) (event_of c.in_ok-event.event) reached c.in_ok-event.ensures.cases
    c.step.result c.step.new.self c.settled.result c.settled.ensures (c.step.ensures gate brought w reached fits)
