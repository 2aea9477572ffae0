use Rattle.std.proofs.Common.{ap, sym, ◌∙◌}
use Rattle.server.specs.Prelude.{Live, with_session, with_sessions, rest_of}
use Rattle.server.proofs.Calls.{live_at, replaced_at}
use Rattle.server.proofs.server.Server.write_rows.Goals as goal

pub returns : goal.returns
returns g c =
    let s = c.args.self.now in
    let place = rw c.deref.ensures.value at c.in-Some.ensures in
    let here = replaced_at c.args.conn c.in-Some.at s.sessions.items c.index_mut-session.result.now place c.index_mut-session.ensures.value c.write_rows.new.self (ap (λ (l : Live). l.conn) c.write_rows.ensures.live) in
    let left = ap (λ (l : Live). with_session l (rest_of g.E.Engine.entries s)) (sym c.write_rows.ensures.live) ∙ ap (λ ls. with_sessions ls (rest_of g.E.Engine.entries s)) here in
    rw (live_at c.args.conn c.in-Some.at s.sessions.items c.index_mut-session.result.now place c.index_mut-session.ensures.value) (_, c.write_rows.ensures.rows, sym left)
