use Rattle.std.proofs.Common.{arith}
use Rattle.server.specs.Prelude.{setting, Fits}
use Rattle.streams.specs.declared.fault.StreamFault.TheVariants.{Memory}
use Rattle.server_blocking.proofs.Conversings.{reads_begun, reads_none}
use Rattle.server_blocking.proofs.Called.{lives_same}
use Rattle.server_blocking.proofs.Views.{gives_nil}
use Rattle.server_blocking.specs.Prelude.{source_view, sink_view}
use Rattle.server_blocking.proofs.server_end.converse.Goals as goal

pub returns-in_default-clause-converses : goal.returns-in_default-clause-converses
returns-in_default-clause-converses g c = λ r f e.
    let from = source_view g.I.PeerSource.given g.I.PeerSource.left c.args.source.now in
    reads_none (reads_begun r c.args.conn (setting g.E.Engine.answer g.G.Gate.welcomes r) from (sink_view g.O.Sink.put g.O.Sink.taken c.args.sink.now) (Fits g.E.Engine.entries c.args.server.now) f e) from (gives_nil from) Memory

pub returns-in_default-clause-grows : goal.returns-in_default-clause-grows
returns-in_default-clause-grows g c = lives_same c.args.conn (Fits g.E.Engine.entries c.args.server.now)

pub converse_by-requires : goal.converse_by-requires
converse_by-requires g c = record { live = c.requires.live; room = omega (arith, c.as_mut_slice.ensures.len, c.in-Ok.ensures.len); few = omega (arith, c.as_mut_slice.ensures.len, c.in-Ok.ensures.len); turns = c.requires.turns }
