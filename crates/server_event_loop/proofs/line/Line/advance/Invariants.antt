use Rattle.std.proofs.Common.{ℕ, ◌*◌, []}
use Rattle.server.specs.Prelude.{rest_of}
use Rattle.server_event_loop.specs.ConnectionPrelude.{Wire, held_of, Moves}
use Rattle.server_event_loop.proofs.line.Line.advance.Given as goal

abbrev pub invariant-loop-made : goal.invariant-loop-made
invariant-loop-made g l = (w : ℕ → Wire) → Moves g.E.Engine.answer g.G.Gate.welcomes (l.made * 2) 0 [] (rest_of g.E.Engine.entries l.fn.server) (rest_of g.E.Engine.entries l.server) (held_of l.fn.self) (held_of l.self) w w
