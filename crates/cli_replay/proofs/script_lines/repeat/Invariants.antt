use Rattle.std.proofs.Common.{List}
use Rattle.engine.specs.Prelude.{EntryView}
use Rattle.world.specs.Prelude.{World, Reached, event_of, FitsWorld, setting_of}
use Rattle.cli_replay.specs.Prelude.{Leads, Moves}
use Rattle.cli_replay.proofs.script_lines.repeat.Given as goal

abbrev pub invariant-loop-time : goal.invariant-loop-time
invariant-loop-time g l =
    (gate : g.row.G.Denot) (brought : List EntryView) (w : World) → Reached (setting_of g.E.Engine.answer g.G.Gate.welcomes gate) brought w → FitsWorld g.E.Engine.entries l.fn.world gate w
    → Leads g.E.Engine.entries (setting_of g.E.Engine.answer g.G.Gate.welcomes gate) gate brought (Moves (setting_of g.E.Engine.answer g.G.Gate.welcomes gate) (event_of l.event) w) l.world
