use Rattle.std.proofs.Common.{sym, ◌∙◌}
use Rattle.server_event_loop.specs.Prelude.{turned, closed}
use Rattle.server_event_loop.proofs.host.Host.serve_closing.Goals as goal

pub returns-then-remains-clause-fades : goal.returns-then-remains-clause-fades
returns-then-remains-clause-fades g c = turned c.in-Some.closing c.remains.new.closing c.pop_front.new.self.items c.in-Some.ensures.items c.push_back_reserved.ensures.items c.remains.ensures.lingers (sym c.remains.ensures.remains ∙ c.if-remains.true)

pub returns-clause-fades : goal.returns-clause-fades
returns-clause-fades g c = closed c.in-Some.closing c.remains.new.closing (g.P.Peers.wire c.remains.new.peers) c.in-Some.ensures.items c.remains.ensures.lingers c.close.ensures.same (sym c.remains.ensures.remains ∙ c.if-remains.false)
