use Rattle.std.proofs.Common.{◌∙◌, ◌-◌, ◌++◌, ap, length}
use Rattle.server.specs.Prelude.{take_out_at}
use Rattle.server.proofs.Known.{done}
use Rattle.world.specs.Prelude.{flow_of}
use Rattle.world.proofs.Given.{drawn}
use Rattle.world.proofs.Turning.{none_of}
use Rattle.world.proofs.outflow.draw_down.Goals as goal

pub returns-clause-draws : goal.returns-clause-draws
returns-clause-draws g c = λ r f.
    let same = c.in_ok-join.ensures.same in
    drawn c.args.conn (c.args.max - length (flow_of c.args.down.now)) c.saturating_sub-missing.result r (flow_of c.args.down.now) (flow_of c.join-2.new.self) c.in-Ok.more _
    c.args.gone (none_of c.args.gone c.in_default.not-Some)
    (c.saturating_sub-missing.ensures ∙ ap (λ n. c.args.max - n) (c.len.ensures ∙ ap length same))
    (done (take_out_at c.args.conn c.saturating_sub-missing.result) _ _ _ c.in-Ok.ensures.done r f)
    (c.join-2.ensures.same ∙ c.put.ensures.held ∙ ap (λ z. z ++ c.in-Ok.more) same) c.join-2.result
