use Rattle.std.proofs.Common.{subst, ℕ, ◌∙◌, ap, length, Ok, ◌-◌, ◌++◌}
use Rattle.server.specs.Serving as serving
use Rattle.world.proofs.Answered as answered
use Rattle.server.specs.Views as server
use Rattle.server.proofs.Known.{done}
use Rattle.world.specs.Prelude.{Link, flow_of}
use Rattle.world.proofs.Turning.{link_at, seen_by}
use Rattle.world.proofs.Given.{drains_lacks, drains_gone, drains_done}
use Rattle.world.proofs.inflow.drain.Goals as goal

pub returns-then-is_err : goal.returns-then-is_err
returns-then-is_err g c = λ r w b.
    drains_lacks b c.requires.foreign c.requires.joined (record c.args.link.now { down = c.join.new.self }) c.args.server.now (ap (λ d. record (link_at b) { down = d }) c.join.ensures.same) b.ends b.server

pub returns-in_default-take_out : goal.returns-in_default-take_out
returns-in_default-take_out g c = λ r w b.
    drains_lacks b c.requires.foreign c.requires.joined (record c.args.link.now { down = c.join.new.self }) c.take_out.new.self (ap (λ d. record (link_at b) { down = d }) c.join.ensures.same) b.ends
    (c.in_default-take_out.ensures.refused ∙ b.server)

pub returns-in-Some : goal.returns-in-Some
returns-in-Some g c = λ r w b.
    let l2 = record c.args.link.now { down = c.drained.new.down } in
    seen_by b c.drained.result _ l2 c.args.server.now c.drained.ensures.seen
    (drains_gone b c.requires.foreign c.requires.joined c.in-Some.field-0 c.in-Some.is l2 (length (flow_of c.join.new.self)) (ap length c.join.ensures.same)
    (ap (λ d. let z : Link = record (link_at b) { down = d } in z) c.drained.ensures.none) b.ends)

pub returns : goal.returns
returns g c = λ r w b.
    let l2 = record c.args.link.now { down = c.drained-2.new.down } in let same = c.join.ensures.same in
    let n = c.saturating_sub-missing.ensures ∙ ap (λ z. c.args.max - z) (c.len.ensures ∙ ap length same) in
    let A : ℕ → Type 0 = λ z. answered.Answers (Ok c.in-Ok.more) (serving.take_out_at c.args.conn z r.server) r.server (server.Fits g.E.Engine.entries c.take_out.new.self) in
    seen_by b c.drained-2.result _ l2 c.take_out.new.self c.drained-2.ensures.seen
    (drains_done b c.requires.foreign c.requires.joined c.in_default.is l2 c.take_out.new.self c.in-Ok.more (length (flow_of c.put.new.self)) (subst A n (done (serving.take_out_at c.args.conn c.saturating_sub-missing.result) _ _ _ c.in-Ok.ensures.done r.server b.server))
    (ap length (c.put.ensures.held ∙ ap (λ z. z ++ c.in-Ok.more) same)) (ap (λ d. let z : Link = record (link_at b) { down = d } in z) c.drained-2.ensures.none) b.ends)
