use Rattle.std.proofs.Common.{refl, ap, ◌∙◌, ◌++◌, map}
use Rattle.server.specs.Prelude.{work_at}
use Rattle.server.proofs.Known.{done}
use Rattle.world.specs.Prelude.{wrote_by, wrote_of}
use Rattle.world.proofs.Turning.{link_at, lacks, none_of}
use Rattle.world.proofs.Turned.{work_over, works, work_done}
use Rattle.world.proofs.turns.work.Goals as goal

pub returns-in-Some : goal.returns-in-Some
returns-in-Some g c = λ r w b. work_over b c.in-Some.cause c.in-Some.is

pub returns-then-is_err : goal.returns-then-is_err
returns-then-is_err g c = λ r w b.
    lacks b refl _ (works b) (λ h. h) refl (record c.args.link.now { wrote = c.reserve.new.self }) c.args.server.now (ap (λ ws. record (link_at b) { wrote = map wrote_of ws }) c.reserve.ensures.items) b.ends b.server

pub returns-in_default-work : goal.returns-in_default-work
returns-in_default-work g c = λ r w b.
    lacks b refl _ (works b) (λ h. h) refl (record c.args.link.now { wrote = c.reserve.new.self }) c.work.new.self (ap (λ ws. record (link_at b) { wrote = map wrote_of ws }) c.reserve.ensures.items) b.ends
    (c.in_default-work.ensures.refused ∙ b.server)

pub returns : goal.returns
returns g c = λ r w b.
    work_done b (record c.args.link.now { wrote = c.note_work.new.wrote }) c.work.new.self c.in-Ok.worked (none_of c.args.link.now.gone c.in_default.not-Some) c.in-Ok.ensures.counted
    (ap (λ ws. record (link_at b) { wrote = ws }) (c.note_work.ensures ∙ ap (λ ws. map wrote_of ws ++ wrote_by c.in-Ok.worked) c.reserve.ensures.items)) b.ends (done (work_at g.E.Engine.answer g.G.Gate.welcomes c.args.conn) _ _ _ c.in-Ok.ensures.done r.server b.server)
