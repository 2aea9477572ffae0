use Rattle.std.proofs.Common.{refl, ap, subst, ◌+◌, ℕ}
use Rattle.std.specs.Io.KnownBytes.{Appends}
use Rattle.engine.specs.Prelude.{ledger_of}
use Rattle.server.specs.Prelude.{Fits}
use Rattle.cli_output.specs.Prelude.{conn_line}
use Rattle.cli_sessions.specs.ServePrelude.{HasServed}
use Rattle.bolt.proofs.Served.{served_none, served_one}
use Rattle.bolt.proofs.sockets.serve_count.Goals as goal

pub loop-init : goal.loop-init
loop-init g c = let s = c.in_ok-server.ensures.new in record { serving = record { rest = _; fits = s.fits; idle = refl; number = refl }; told = served_none (g.O.Sink.taken c.args.out.now) (g.O.Sink.taken c.put_listening.new.out) c.args.port c.in_ok-put_listening.ensures.told }

pub serve_next-requires : goal.serve_next-requires
serve_next-requires g c = let s = c.loop.invariant.serving in (s.rest, s.fits, s.idle)

pub loop-preserved : goal.loop-preserved
loop-preserved g c =
    let s = c.loop.invariant.serving in
    let h : HasServed s.rest (Fits ledger_of c.serve_next.new.server) = c.in_ok-serve_next.ensures.ok s.rest s.fits s.idle in
    let line = subst (λ (n : ℕ). Appends (g.O.Sink.taken c.loop.out) (g.O.Sink.taken c.serve_next.new.out) (conn_line n c.in_ok-serve_next.field-0.cause)) s.number (c.in_ok-serve_next.ensures.told s.rest s.fits) in
    record { serving = record { rest = _; fits = h.1; idle = refl; number = ap (λ (n : ℕ). n + 1) s.number }; told = served_one (g.O.Sink.taken c.args.out.now) (g.O.Sink.taken c.loop.out) (g.O.Sink.taken c.serve_next.new.out) c.args.port c.loop.counter c.in_ok-serve_next.field-0.cause c.loop.invariant.told line }
