use Rattle.std.proofs.Common.{refl, ap, true, false}
use Rattle.server.specs.Serving.{Rest}
use Rattle.server.specs.Views.{rest_of}
use Rattle.engine_sqlite.specs.Kept.{ledger_of}
use Rattle.keeping.specs.Serving.{Shows}
use Rattle.keeping.proofs.Served.{ends_after, served_more, served_none, shows, vacant}
use Rattle.keeping.proofs.connections.serve_until_failed.Goals as goal

pub returns-then-is_stopped : goal.returns-then-is_stopped
returns-then-is_stopped g c =
    let rest = rest_of (ledger_of g.E.Engine.entries) in (
      shows g.E.Engine.entries g.S.Store (rest c.args.server.now).ledger c.engine.result.now true c.engine.ensures c.if-is_stopped.ensures.value c.if-is_stopped.ensures.left,
      served_none (rest c.args.server.now) (g.O.Sink.taken c.args.out.now) (vacant (ledger_of g.E.Engine.entries) c.args.server.now c.requires),
    )

pub loop-stream-init : goal.loop-stream-init
loop-stream-init g c =
    let rest = rest_of (ledger_of g.E.Engine.entries) in (
      shows g.E.Engine.entries g.S.Store (rest c.args.server.now).ledger c.engine.result.now false c.engine.ensures c.if-is_stopped.ensures.value c.if-is_stopped.ensures.left,
      served_none (rest c.args.server.now) (g.O.Sink.taken c.args.out.now) (vacant (ledger_of g.E.Engine.entries) c.args.server.now c.requires),
    )

pub serve_once-requires : goal.serve_once-requires
serve_once-requires g c =
    (rest_of (ledger_of g.E.Engine.entries) c.loop-stream.server, refl, ap (λ (r : Rest g.row.G.Denot). r.sessions) c.loop-stream.invariant.1.grows.stands)

pub returns-in-Some-serve_once : goal.returns-in-Some-serve_once
returns-in-Some-serve_once g c =
    let rest = rest_of (ledger_of g.E.Engine.entries) in
    let out = g.O.Sink.taken in
    let now = rest c.serve_once.new.server in
    ends_after (rest c.args.server.now) (rest c.loop-stream.server) now (out c.args.out.now) (out c.loop-stream.out) (out c.serve_once.new.out) c.in-Some-serve_once.reason
    (Shows g.E.Engine.entries g.S.Store now.ledger) (g.O.Sink.has_failed c.serve_once.new.out) c.loop-stream.invariant.1 c.in-Some-serve_once.ensures.ends

pub loop-stream-preserved : goal.loop-stream-preserved
loop-stream-preserved g c =
    let rest = rest_of (ledger_of g.E.Engine.entries) in
    let out = g.O.Sink.taken in
    let one = c.in-None-serve_once.ensures.goes_on refl in
    (one.0, served_more (rest c.args.server.now) (rest c.loop-stream.server) (rest c.serve_once.new.server) (out c.args.out.now) (out c.loop-stream.out) (out c.serve_once.new.out) c.loop-stream.invariant.1 one.1)
