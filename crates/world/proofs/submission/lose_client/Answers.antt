use Rattle.std.proofs.Common.{sym, ◌∙◌}
use Rattle.world.proofs.Holding.{loses_again, loses_now}
use Rattle.world.proofs.submission.lose_client.Goals as goal

pub returns-then-is_some : goal.returns-then-is_some
returns-then-is_some c = λ m h.
    let o = c.in-Ours in
    loses_again o.wish o.client o.lost c.args.link.now o.is m h (sym c.is_some.ensures ∙ c.if-is_some.true)

pub returns : goal.returns
returns c = λ m h.
    let o = c.in-Ours in
    loses_now o.wish o.client o.lost c.args.link.now o.is m h (sym c.is_some.ensures ∙ c.if-is_some.false) c.leave.new.client c.leave.result (λ y f. c.leave.ensures y f)
