use Rattle.std.proofs.Common.{length, ◌≤◌, take, refl, sym, subst, arith, IsSome}
use Rattle.server.specs.Prelude.{Fits}
use Rattle.streams.specs.declared.fault.StreamFault.TheVariants.{ReadFailed}
use Rattle.server_blocking.proofs.Conversings.{never_read, reads_begun, reads_broken, reads_more, reads_none, reads_over, reads_turn, reads_whole}
use Rattle.server_blocking.specs.Prelude.{source_view, sink_view}
use Rattle.server_blocking.proofs.Called.{lives_same, lives_then}
use Rattle.server_blocking.proofs.Views.{gives_kept}
use Rattle.server_blocking.proofs.server_end.converse_by.Goals as goal

pub loop-count-init : goal.loop-count-init
loop-count-init g c = record {
  live = c.requires.live;
  grows = lives_same c.args.conn (Fits g.E.Engine.entries c.args.server.now);
  reads = λ r f e. reads_begun r c.args.conn _ (source_view g.I.PeerSource.given g.I.PeerSource.left c.args.source.now) (sink_view g.O.Sink.put g.O.Sink.taken c.args.sink.now) (Fits g.E.Engine.entries c.args.server.now) f e;
}

pub read_after-requires : goal.read_after-requires
read_after-requires g c =
    let few : length c.loop-count.buffer ≤ 4096 = omega (arith, c.loop-count.auto.buffer, c.requires.few) in
    record { turn = c.requires.turns c.loop-count.source (g.O.Sink.taken c.loop-count.sink) (length c.loop-count.buffer) few (λ r f e. reads_turn (c.loop-count.invariant.reads r f e)) }

pub returns-in_default-clause-converses : goal.returns-in_default-clause-converses
returns-in_default-clause-converses g c = λ r f e. reads_none (c.loop-count.invariant.reads r f e) (source_view g.I.PeerSource.given g.I.PeerSource.left c.read_after.new.self) (gives_kept (source_view g.I.PeerSource.given g.I.PeerSource.left c.loop-count.source) (source_view g.I.PeerSource.given g.I.PeerSource.left c.read_after.new.self) c.in_default.ensures.moves c.in_default.ensures.bytes) ReadFailed

pub returns-then-count-eq0-clause-converses : goal.returns-then-count-eq0-clause-converses
returns-then-count-eq0-clause-converses g c = λ r f e.
    let b = c.in-Ok.ensures.bytes in
    reads_whole (c.loop-count.invariant.reads r f e) (source_view g.I.PeerSource.given g.I.PeerSource.left c.read_after.new.self) (record { grows = rw c.if-count-eq0.true at c.in-Ok.ensures.moves; known = rw c.if-count-eq0.true at b.0 }) (b.1 c.if-count-eq0.true (omega (arith, c.loop-count.auto.buffer, c.read_after.auto.buffer, c.requires.room)))

pub loop-count-preserved : goal.loop-count-preserved
loop-count-preserved g c = record {
  live = c.take_piece.ensures.live;
  grows = lives_then c.args.conn (Fits g.E.Engine.entries c.args.server.now) (Fits g.E.Engine.entries c.loop-count.server) (Fits g.E.Engine.entries c.take_piece.new.server) c.loop-count.invariant.grows c.take_piece.ensures.grows;
  reads = λ r f e.
      let p = c.loop-count.invariant.reads r f e in
      reads_more p (source_view g.I.PeerSource.given g.I.PeerSource.left c.read_after.new.self) (take c.in-Ok.count c.read_after.new.buffer) (record { grows = c.in-Ok.ensures.moves; known = c.in-Ok.ensures.bytes.0 }) (Fits g.E.Engine.entries c.take_piece.new.server) (sink_view g.O.Sink.put g.O.Sink.taken c.take_piece.new.sink)
      (rw c.in-Ok-Open.field-0-is at (c.in-Ok-Open.ensures.takes r (sink_view g.O.Sink.put g.O.Sink.taken c.args.sink.now) p.up (subst IsSome (sym e) refl) p.live p.stands));
}

pub returns-in-Ok-Over-clause-converses : goal.returns-in-Ok-Over-clause-converses
returns-in-Ok-Over-clause-converses g c = λ r f e.
    let p = c.loop-count.invariant.reads r f e in
    reads_over p (source_view g.I.PeerSource.given g.I.PeerSource.left c.read_after.new.self) (take c.in-Ok.count c.read_after.new.buffer) (record { grows = c.in-Ok.ensures.moves; known = c.in-Ok.ensures.bytes.0 }) (Fits g.E.Engine.entries c.take_piece.new.server) (sink_view g.O.Sink.put g.O.Sink.taken c.take_piece.new.sink)
    (rw c.in-Ok-Over.field-0-is at (c.in-Ok-Over.ensures.takes r (sink_view g.O.Sink.put g.O.Sink.taken c.args.sink.now) p.up (subst IsSome (sym e) refl) p.live p.stands))

pub returns-in-Err-clause-converses : goal.returns-in-Err-clause-converses
returns-in-Err-clause-converses g c = λ r f e.
    let p = c.loop-count.invariant.reads r f e in
    let never = never_read c.in-Err.fault (g.O.Sink.has_failed c.take_piece.new.sink) c.in-Err.ensures.failed in
    reads_broken p (source_view g.I.PeerSource.given g.I.PeerSource.left c.read_after.new.self) (take c.in-Ok.count c.read_after.new.buffer) (record { grows = c.in-Ok.ensures.moves; known = c.in-Ok.ensures.bytes.0 }) (Fits g.E.Engine.entries c.take_piece.new.server) (sink_view g.O.Sink.put g.O.Sink.taken c.take_piece.new.sink)
    c.in-Err.fault never (c.in-Err.ensures.takes r (sink_view g.O.Sink.put g.O.Sink.taken c.args.sink.now) p.up (subst IsSome (sym e) refl) p.live p.stands)

pub returns-in-Ok-Over-clause-grows : goal.returns-in-Ok-Over-clause-grows
returns-in-Ok-Over-clause-grows g c = lives_then c.args.conn (Fits g.E.Engine.entries c.args.server.now) (Fits g.E.Engine.entries c.loop-count.server) (Fits g.E.Engine.entries c.take_piece.new.server) c.loop-count.invariant.grows c.take_piece.ensures.grows

pub returns-in-Err-clause-grows : goal.returns-in-Err-clause-grows
returns-in-Err-clause-grows g c = lives_then c.args.conn (Fits g.E.Engine.entries c.args.server.now) (Fits g.E.Engine.entries c.loop-count.server) (Fits g.E.Engine.entries c.take_piece.new.server) c.loop-count.invariant.grows c.take_piece.ensures.grows
