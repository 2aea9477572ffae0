use Rattle.world.specs.Prelude.{setting_of, event_of}
use Rattle.cli_replay.proofs.Stepping.{step_leads}
use Rattle.cli_replay.proofs.steps.take_step.Goals as goal

pub returns : goal.returns
returns g c = λ gate brought w reached fits.
    step_leads g.E.Engine.entries (setting_of g.E.Engine.answer g.G.Gate.welcomes gate) gate brought w (event_of c.args.event) reached c.step.result c.step.new.self c.settled.result c.settled.ensures
    (c.step.ensures gate brought w reached fits)
