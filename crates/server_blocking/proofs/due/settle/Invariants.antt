use Rattle.std.proofs.Common.{◌≡◌, [], IsSome}
use Rattle.wire.specs.Prelude.{Opened}
use Rattle.server.specs.Prelude.{Rest, find, setting, Fits}
use Rattle.server_blocking.specs.Prelude.{SinkView, sink_view, Talk, GoesOn, Holds, IsPlaced, GrowsOn}
use Rattle.server_blocking.proofs.due.settle.Given as goal

abbrev pub invariant-loop : goal.invariant-loop
invariant-loop g l = record {
  grows : GrowsOn l.fn.conn (Fits g.E.Engine.entries l.fn.server) (Fits g.E.Engine.entries l.server);
  goes : (r : Rest g.row.G.Denot) (u : Opened) (t : Talk) (before : SinkView) → IsSome (find l.fn.conn r.sessions) → t.kept.unsent ≡ [] → IsPlaced t.kept.waiting → Holds r l.fn.conn u t (Fits g.E.Engine.entries l.fn.server) before (sink_view g.O.Sink.put g.O.Sink.taken l.fn.sink)
      → GoesOn r l.fn.conn u t (setting g.E.Engine.answer g.G.Gate.welcomes r) (Fits g.E.Engine.entries l.server) before (sink_view g.O.Sink.put g.O.Sink.taken l.sink);
}
