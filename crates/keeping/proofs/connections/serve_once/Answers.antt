use Rattle.std.proofs.Common.{true, false}
use Rattle.server.specs.Views.{rest_of}
use Rattle.engine_sqlite.specs.Kept.{ledger_of}
use Rattle.keeping.proofs.Served.{served_first, shows}
use Rattle.keeping.proofs.connections.serve_once.Goals as goal

pub returns-then-is_stopped-clause-ends : goal.returns-then-is_stopped-clause-ends
returns-then-is_stopped-clause-ends g c =
    let rest = rest_of (ledger_of g.E.Engine.entries) in (
      shows g.E.Engine.entries g.S.Store (rest c.serve_stream.new.server).ledger c.engine.result.now true c.engine.ensures c.if-is_stopped.ensures.value c.if-is_stopped.ensures.left,
      served_first (rest c.args.server.now) (rest c.serve_stream.new.server) (g.O.Sink.taken c.args.out.now) (g.O.Sink.taken c.serve_stream.new.out) c.in-Ok.told.cause c.in-Ok.ensures.served c.in-Ok.ensures.line,
    )

pub returns-else-is_stopped-clause-goes_on : goal.returns-else-is_stopped-clause-goes_on
returns-else-is_stopped-clause-goes_on g c = λ _.
    let rest = rest_of (ledger_of g.E.Engine.entries) in (
      shows g.E.Engine.entries g.S.Store (rest c.serve_stream.new.server).ledger c.engine.result.now false c.engine.ensures c.if-is_stopped.ensures.value c.if-is_stopped.ensures.left,
      served_first (rest c.args.server.now) (rest c.serve_stream.new.server) (g.O.Sink.taken c.args.out.now) (g.O.Sink.taken c.serve_stream.new.out) c.in-Ok.told.cause c.in-Ok.ensures.served c.in-Ok.ensures.line,
    )
