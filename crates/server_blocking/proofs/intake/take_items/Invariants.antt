use Rattle.std.proofs.Common.{◌≡◌, ℕ, List, length, None, IsSome}
use Rattle.server.specs.Prelude.{Rest, find, setting, Fits}
use Rattle.server_blocking.specs.Prelude.{HoldsAfter, told_by, GrowsOn, SinkView, sink_view}
use Rattle.server_blocking.proofs.Talks.{Partly}
use Rattle.server_blocking.proofs.intake.take_items.Given as goal

abbrev pub invariant-loop-rest : goal.invariant-loop-rest
invariant-loop-rest g l = record {
  grows : GrowsOn l.fn.conn (Fits g.E.Engine.entries l.fn.server) (Fits g.E.Engine.entries l.server);
  takes : (r : Rest g.row.G.Denot) (before : SinkView) (up : List ℕ) → IsSome (find l.fn.conn r.sessions) → (told_by r l.fn.conn (setting g.E.Engine.answer g.G.Gate.welcomes r) up).kept.ended ≡ None
      → HoldsAfter r l.fn.conn (setting g.E.Engine.answer g.G.Gate.welcomes r) (Fits g.E.Engine.entries l.fn.server) before (sink_view g.O.Sink.put g.O.Sink.taken l.fn.sink) up
      → Partly r l.fn.conn (setting g.E.Engine.answer g.G.Gate.welcomes r) before up l.fn.piece (Fits g.E.Engine.entries l.server) (sink_view g.O.Sink.put g.O.Sink.taken l.sink) l.rest;
}

abbrev pub decreases-loop-rest : goal.decreases-loop-rest
decreases-loop-rest g l = length l.rest
