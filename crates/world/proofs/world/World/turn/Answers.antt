use Rattle.std.proofs.Common.{arith, refl}
use Rattle.world.specs.Prelude.{FitsWorld, event_of}
use Rattle.world.proofs.Turning.{nowhere, placed}
use Rattle.world.proofs.world.World.turn.Goals as goal

pub returns-then-conn-len : goal.returns-then-conn-len
unfolding FitsWorld
returns-then-conn-len g c = λ gate brought w reached f.
    nowhere g.E.Engine.answer g.G.Gate.welcomes f reached (event_of c.args.event) c.requires (omega (arith, c.if-conn-len.true, c.len.ensures, c.args.self.now.links.ok.0, c.place-conn.ensures))

pub returns : goal.returns
unfolding FitsWorld
returns g c = λ gate brought w reached f.
    placed g.E.Engine.answer g.G.Gate.welcomes f reached (event_of c.args.event) c.place-conn.result c.place-conn.ensures (omega (arith, c.if-conn-len.false, c.len.ensures, c.args.self.now.links.ok.0))
    c.index_mut-link.result.now c.index_mut-link.ensures.value c.turn.result c.turn.new.link c.turn.new.server c.turn.ensures _ refl refl
