use Rattle.std.proofs.Common.{◌-◌, ap, ◌∙◌, arith, length, take, drop}
use Rattle.std.proofs.lemmas.List.{length-drop, take_rest}
use Rattle.bolt_c.specs.declared.held.Held.{Held}
use Rattle.bolt_c.specs.Feeding.{stand_of, fed}
use Rattle.bolt_c.proofs.Feeding.{stand_is, part_on}
use Rattle.bolt_c.proofs.held.Held.feed.Goals as goal

pub loop-used-preserved : goal.loop-used-preserved
loop-used-preserved c =
    let h = c.in-Ok.ensures.fed in
    let now : Held = record { tracking = c.feed.new.self } in
    let before = stand_of c.loop-used.self in
    let piece = c.args.piece.now in
    let used = c.loop-used.used in
    let left = take (length piece - used) (drop used piece) in
    let same = take_rest piece used in
    part_on c.loop-used.invariant left same (stand_of now) c.in-Ok.more h.0 (stand_is (stand_of now) (fed before left) h.1.0 h.1.1)
    (omega (arith, c.in-Ok.ensures.within, c.loop-used.invariant.within, ap length same ∙ length-drop used piece))
