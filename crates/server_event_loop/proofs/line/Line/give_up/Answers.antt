use Rattle.std.proofs.Common.{◌<◌, arith, length}
use Rattle.server_event_loop.specs.ConnectionPrelude.{held_of}
use Rattle.server_event_loop.proofs.Parted.{parts_whole, parts_cut}
use Rattle.server_event_loop.proofs.line.Line.give_up.Goals as goal

pub returns-in-Ok : goal.returns-in-Ok
returns-in-Ok g c =
    let few : length c.in-Ok.bytes < 18446744073709551615 = omega (arith, c.len-count.ensures) in
    λ w. parts_whole g.E.Engine.answer g.G.Gate.welcomes 18446744073709551615 _ _ _ (held_of c.args.self) c.in-Ok.bytes _ _ w c.requires few c.in-Ok.ensures.done c.lost.ensures c.unwrap_or-cause.ensures

pub returns : goal.returns
returns g c = λ w. parts_cut g.E.Engine.answer g.G.Gate.welcomes 18446744073709551615 _ _ _ (held_of c.args.self) _ _ _ _ w c.new.ensures c.requires c.in-Err.ensures.unknown c.in-Err.ensures.refusal c.in-Err.ensures.memory c.in-Err.ensures.refused c.lost.ensures c.unwrap_or-cause.ensures
