use Rattle.std.proofs.Common.{◌≡◌, ◌++◌, List, take, string_bytes}
use Rattle.engine.specs.Prelude.{EntryView}
use Rattle.world.specs.Prelude.{World, Reached, FitsWorld, setting_of}
use Rattle.cli_replay.specs.Prelude.{connections_text}
use Rattle.cli_replay.proofs.reports.push_connections.Given as goal

abbrev pub invariant-loop-conn : goal.invariant-loop-conn
invariant-loop-conn g l =
    (gate : g.row.G.Denot) (brought : List EntryView) (w : World) → Reached (setting_of g.E.Engine.answer g.G.Gate.welcomes gate) brought w → FitsWorld g.E.Engine.entries l.world gate w
    → string_bytes l.text ≡ string_bytes l.fn.text ++ connections_text 0 (take l.conn w.conns)
