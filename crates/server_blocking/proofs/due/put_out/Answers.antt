use Rattle.std.proofs.Common.{refl, sym, inl, inr}
use Rattle.server.specs.Prelude.{rest_of}
use Rattle.server_blocking.specs.Prelude.{said_by, sink_view}
use Rattle.server_blocking.proofs.Called.{grows_called, lent_out, none_lent}
use Rattle.server_blocking.proofs.Views.{puts_nil}
use Rattle.server_blocking.proofs.due.put_out.Goals as goal

pub returns-in_default-clause-puts : goal.returns-in_default-clause-puts
returns-in_default-clause-puts g c = inl (refl, puts_nil (sink_view g.O.Sink.put g.O.Sink.taken c.args.sink.now))

pub returns-in_default-clause-unknown : goal.returns-in_default-clause-unknown
returns-in_default-clause-unknown g c = λ e. none_lent c.args.conn (rest_of g.E.Engine.entries c.args.server.now) (sym c.in_default.ensures)

pub returns-in-Ok-clause-grows : goal.returns-in-Ok-clause-grows
returns-in-Ok-clause-grows g c = grows_called c.args.conn said_by (λ s. refl) _ _ c.in-Some.bytes.now (lent_out c.args.conn _ _ _ c.in-Some.bytes.now (sym c.in-Some.ensures) refl c.sent.ensures)

pub returns-in-Ok-clause-puts : goal.returns-in-Ok-clause-puts
returns-in-Ok-clause-puts g c = (c.in-Some.bytes.now, lent_out c.args.conn _ _ _ c.in-Some.bytes.now (sym c.in-Some.ensures) refl c.sent.ensures, record { grows = c.in-Ok.ensures.moves; known = c.in-Ok.ensures.ok })

pub returns-in-Err-clause-grows : goal.returns-in-Err-clause-grows
returns-in-Err-clause-grows g c = grows_called c.args.conn said_by (λ s. refl) _ _ c.in-Some.bytes.now (lent_out c.args.conn _ _ _ c.in-Some.bytes.now (sym c.in-Some.ensures) refl c.sent.ensures)

pub returns-in-Err-clause-puts : goal.returns-in-Err-clause-puts
returns-in-Err-clause-puts g c = inr (c.in-Some.bytes.now, lent_out c.args.conn _ _ _ c.in-Some.bytes.now (sym c.in-Some.ensures) refl c.sent.ensures, record { grows = c.in-Err.ensures.moves_front; known = c.in-Err.ensures.front })
