use Rattle.std.proofs.Common.{List, [], map, take}
use Rattle.engine.specs.Prelude.{EntryView}
use Rattle.world.specs.Prelude.{World, event_of, setting_of, Goes}
use Rattle.world.proofs.events.follow_all.Given as goal

abbrev pub invariant-loop-event : goal.invariant-loop-event
invariant-loop-event g l =
    (gate : g.row.G.Denot) (brought : List EntryView) (w : World) → Goes g.E.Engine.entries (setting_of g.E.Engine.answer g.G.Gate.welcomes gate) gate brought w [] l.initial.world
    → Goes g.E.Engine.entries (setting_of g.E.Engine.answer g.G.Gate.welcomes gate) gate brought w (map event_of (take l.event-index l.events)) l.world
