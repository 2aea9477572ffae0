use Rattle.std.proofs.Common.{refl, ◌∙◌, ◌++◌, ap, arith}
use Rattle.server.specs.Prelude.{take_out_at}
use Rattle.server.proofs.Known.{done}
use Rattle.world.proofs.Turning.{link_at, lacks}
use Rattle.world.proofs.Turned.{lost_before, goes, lost_done}
use Rattle.world.proofs.session_loss.lose_server.Goals as goal

pub returns-in-Some : goal.returns-in-Some
returns-in-Some g c = λ r w b. lost_before b c.in-Some.field-0 c.in-Some.is

pub returns-then-is_err : goal.returns-then-is_err
returns-then-is_err g c = λ r w b.
    lacks b refl _ (goes b) (λ h. h) refl (record c.args.link.now { down = c.join.new.self }) c.args.server.now (ap (λ d. record (link_at b) { down = d }) c.join.ensures.same) b.ends b.server

pub returns-in_default-take_out : goal.returns-in_default-take_out
returns-in_default-take_out g c = λ r w b.
    lacks b refl _ (goes b) (λ h. h) refl (record c.args.link.now { down = c.join.new.self }) c.take_out.new.self (ap (λ d. record (link_at b) { down = d }) c.join.ensures.same) b.ends
    (c.in_default-take_out.ensures.refused ∙ b.server)

pub returns : goal.returns
returns g c = λ r w b.
    lost_done b c.put.new.self c.give_up-link.result c.take_out.new.self c.give_up-link.new.server c.in-Ok.said 18446744073709551615
    c.in_default.is (omega (arith, c.put.ensures.few)) (done (take_out_at c.args.conn 18446744073709551615) _ _ _ c.in-Ok.ensures.done r.server b.server) (λ x f. c.give_up-link.ensures x f) (c.put.ensures.held ∙ ap (λ z. z ++ c.in-Ok.said) c.join.ensures.same)
