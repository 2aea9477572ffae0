use Rattle.std.proofs.Common.{sym, ◌∙◌, ap}
use Rattle.wire.specs.Prelude.{Unfinished}
use Rattle.messages_deframer.proofs.Fronts.{wants}
use Rattle.messages_deframer.proofs.inbox.Inbox.take_parts.Goals as goal

pub returns-in_default-clause-err : goal.returns-in_default-clause-err
returns-in_default-clause-err g c =
    let i = c.self.inside in
    let u = i.begun.item in
    let at = c.self.invariant.at in
    let going = sym at.over ∙ ap (λ (v : Unfinished). v.too_big) c.self.view_is ∙ c.requires in
    (c.self.view_is, wants i.stream u c.args.self.now c.args.piece.now c.self.view_is at going (c.good_may_go_on.ensures u.body at.reads c.in_default.ensures.good) (c.in_default.ensures.room u at))
