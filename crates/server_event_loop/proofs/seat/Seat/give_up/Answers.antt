use Rattle.std.proofs.Common.{sym, subst, ℕ, List}
use Rattle.server.specs.Prelude.{rest_of}
use Rattle.server_event_loop.specs.ConnectionPrelude.{seat_held, Parts}
use Rattle.server_event_loop.proofs.seat.Seat.give_up.Goals as goal

pub returns-clause-parts : goal.returns-clause-parts
returns-clause-parts g c = λ w. subst (λ (o : List ℕ). Parts g.E.Engine.answer g.G.Gate.welcomes c.give_up-parting.result.0 (rest_of g.E.Engine.entries c.args.server.now) (rest_of g.E.Engine.entries c.give_up-parting.new.server) (seat_held c.args.self) o w) (sym c.new-closing.ensures.owed) (c.give_up-parting.ensures w)
