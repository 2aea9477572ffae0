use Rattle.std.proofs.Common.{◌≡◌, ◌++◌, refl, sym, ap, List, ℕ}
use Rattle.server_event_loop.specs.ConnectionPrelude.{held_of}
use Rattle.server_event_loop.proofs.Moved.{moves_kept, moves_drawn}
use Rattle.server_event_loop.proofs.Carried.{none_goes}
use Rattle.server_event_loop.proofs.line.Line.draw.Goals as goal

pub returns-then-is_going : goal.returns-then-is_going
returns-then-is_going g c = λ w. moves_kept g.E.Engine.answer g.G.Gate.welcomes 1 _ _ _ w refl

pub returns-in_default : goal.returns-in_default
returns-in_default g c = λ w. moves_kept g.E.Engine.answer g.G.Gate.welcomes 1 _ _ _ w c.in_default.ensures.refused

pub returns : goal.returns
returns g c =
    let x = held_of c.args.self.now in
    let going : c.in-Ok.bytes ≡ x.going ++ c.in-Ok.bytes = ap (λ (l : List ℕ). l ++ c.in-Ok.bytes) (sym (none_goes x.going c.is_going.result c.is_going.ensures c.if-is_going.false)) in
    λ w. moves_drawn g.E.Engine.answer g.G.Gate.welcomes 18446744073709551615 _ _ x _ c.in-Ok.bytes w c.in-Ok.ensures.done refl refl going
