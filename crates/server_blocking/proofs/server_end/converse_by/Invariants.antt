use Rattle.std.proofs.Common.{◌≡◌, Some}
use Rattle.server.specs.Prelude.{Rest, find, fresh, setting, Fits}
use Rattle.server_blocking.specs.Prelude.{IsLive, LivesOn, source_view, sink_view}
use Rattle.server_blocking.proofs.Conversings.{Reads}
use Rattle.server_blocking.proofs.server_end.converse_by.Given as goal

abbrev pub invariant-loop-count : goal.invariant-loop-count
invariant-loop-count g l = record {
  live : IsLive g.E.Engine.entries l.fn.conn l.server;
  grows : LivesOn l.fn.conn (Fits g.E.Engine.entries l.fn.server) (Fits g.E.Engine.entries l.server);
  reads : (r : Rest g.row.G.Denot) → Fits g.E.Engine.entries l.fn.server r → find l.fn.conn r.sessions ≡ Some (fresh l.fn.conn)
      → Reads r l.fn.conn (setting g.E.Engine.answer g.G.Gate.welcomes r) (source_view g.I.PeerSource.given g.I.PeerSource.left l.fn.source) (sink_view g.O.Sink.put g.O.Sink.taken l.fn.sink) (Fits g.E.Engine.entries l.server) (sink_view g.O.Sink.put g.O.Sink.taken l.sink) (source_view g.I.PeerSource.given g.I.PeerSource.left l.source);
}

abbrev pub decreases-loop-count : goal.decreases-loop-count
decreases-loop-count g l = g.I.PeerSource.reads l.source
