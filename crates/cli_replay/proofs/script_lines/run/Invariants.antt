use Rattle.std.proofs.Common.{List, string_bytes}
use Rattle.engine.specs.Prelude.{EntryView}
use Rattle.cli_scripts.specs.Prelude.{said_lines}
use Rattle.world.specs.Prelude.{World, Reached, FitsWorld, setting_of}
use Rattle.cli_replay.specs.Prelude.{Leads, Runs}
use Rattle.cli_replay.proofs.script_lines.run.Given as goal

abbrev pub invariant-loop-line : goal.invariant-loop-line
invariant-loop-line g l =
    (gate : g.row.G.Denot) (brought : List EntryView) (w : World) → Reached (setting_of g.E.Engine.answer g.G.Gate.welcomes gate) brought w → FitsWorld g.E.Engine.entries l.fn.world gate w
    → Leads g.E.Engine.entries (setting_of g.E.Engine.answer g.G.Gate.welcomes gate) gate brought (Runs (setting_of g.E.Engine.answer g.G.Gate.welcomes gate) w (said_lines l.yielded) (string_bytes l.text)) l.world
