use Rattle.std.proofs.Common.{List, subst, sym, ap, ◌∙◌, ◌++◌, ◌∷◌, [], map, take}
use Rattle.std.proofs.lemmas.List.{map_more}
use Rattle.world.specs.Prelude.{event_of, Event, setting_of, Goes}
use Rattle.world.proofs.Told.{goes_more}
use Rattle.world.proofs.events.follow_all.Goals as goal

pub loop-event-preserved : goal.loop-event-preserved
loop-event-preserved g c = λ gate brought w start.
    let S = setting_of g.E.Engine.answer g.G.Gate.welcomes gate in let xs = c.args.events.now in
    let i = c.loop-event.event-index in let h = c.loop-event.invariant gate brought w start in
    let P : List Event → Type 0 = λ es. Goes g.E.Engine.entries S gate brought w es c.follow.new.world in
    subst P (ap (λ x. map event_of (take i xs) ++ event_of x ∷ []) c.event-item.is ∙ sym (map_more event_of xs i c.event-item.result c.loop-event-test.true))
    (goes_more g.E.Engine.entries S gate brought w (map event_of (take i xs)) (event_of c.event-item.result) c.loop-event.world c.follow.new.world h (c.in_ok-follow.ensures gate brought h.after h.reached h.fits))
