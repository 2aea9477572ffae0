use Rattle.std.proofs.Common.{sym, subst, ℕ, IsSome}
use Rattle.server.specs.Prelude.{rest_of, find}
use Rattle.server_event_loop.proofs.Moved.{moves_then}
use Rattle.server_event_loop.proofs.Living.{moves_live}
use Rattle.server_event_loop.proofs.seat.Seat.turn.Goals as goal

pub returns-clause-moves : goal.returns-clause-moves
returns-clause-moves g c = moves_then g.E.Engine.answer g.G.Gate.welcomes c.talk-talked.ensures.moves c.write-drawn.ensures.moves

pub returns-clause-lives : goal.returns-clause-lives
returns-clause-lives g c = λ lives.
    let m = moves_then g.E.Engine.answer g.G.Gate.welcomes c.talk-talked.ensures.moves c.write-drawn.ensures.moves in
    subst (λ (k : ℕ). IsSome (find k (rest_of g.E.Engine.entries c.write-drawn.new.server).sessions)) (sym m.same) (moves_live g.E.Engine.answer g.G.Gate.welcomes m lives)
