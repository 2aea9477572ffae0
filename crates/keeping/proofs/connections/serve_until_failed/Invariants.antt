use Rattle.server.specs.Views.{rest_of}
use Rattle.engine_sqlite.specs.Kept.{ledger_of}
use Rattle.keeping.specs.Serving.{GoesOn, Shows}
use Rattle.keeping.proofs.connections.serve_until_failed.Given as goal

-- the engine hasn't stopped, and each connection so far was served, and its line was printed
abbrev pub invariant-loop-stream : goal.invariant-loop-stream
invariant-loop-stream g l =
    let now = rest_of (ledger_of g.E.Engine.entries) l.server in
    GoesOn (rest_of (ledger_of g.E.Engine.entries) l.fn.server) now (Shows g.E.Engine.entries g.S.Store now.ledger) (g.O.Sink.taken l.fn.out) (g.O.Sink.taken l.out)
