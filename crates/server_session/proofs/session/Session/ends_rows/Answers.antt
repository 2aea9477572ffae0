use Rattle.std.proofs.Common.{◌<◌, ◌≤◌, length, arith}
use Rattle.server_session.specs.Prelude.{kept_of}
use Rattle.server_session.proofs.Listed.{rows_counted}
use Rattle.server_session.proofs.Replies.{acts_same, ends_some, ends_all}
use Rattle.server_session.proofs.session.Session.ends_rows.Goals as goal

pub returns-then-dropped-self : goal.returns-then-dropped-self
returns-then-dropped-self g c =
    let s = c.args.self.now in
    let k = kept_of s in
    let less : c.args.dropped < length k.result.rows = omega (arith, c.if-dropped-self.true, rows_counted s.result.rows) in
    λ token. ends_some c.args.state (g.E.Engine.entries c.args.engine.now) c.args.dropped k.result.rows k.result k.tx less

pub returns : goal.returns
returns g c =
    let s = c.args.self.now in
    let k = kept_of s in
    let all : length k.result.rows ≤ c.args.dropped = omega (arith, c.if-dropped-self.false, rows_counted s.result.rows) in
    acts_same k.result k.tx c.last.result _ _ (ends_all c.args.state (g.E.Engine.entries c.args.engine.now) c.args.dropped k.result.rows k.result k.tx all) c.last.ensures
