use Rattle.std.proofs.Common.{sym, subst, Result}
use Rattle.world.specs.declared.kinds.Refused.{Refused}
use Rattle.world.specs.declared.link.End.TheVariants as end
use Rattle.world.specs.Prelude.{Seen, Holds, Submits}
use Rattle.messages.specs.Prelude.{request_view}
use Rattle.world.proofs.Holding.{holds_client, holds_then, holds_still, with_end, refused_submits}
use Rattle.world.proofs.submission.submit.Goals as goal

pub returns-in-Ok : goal.returns-in-Ok
returns-in-Ok c = λ m h.
    let o = c.in-Ours in let r = holds_client o.wish o.client o.lost c.args.link.now o.is m h in
    let a = c.in-Ok.ensures.ok in
    record { client = r.0; here = r.1; accepted = a.0; now = holds_then o.wish o.client o.lost c.args.link.now m r.0 _ c.submit.new.self r.3 a.1 }

pub returns-in-Err : goal.returns-in-Err
returns-in-Err c = λ m h.
    let o = c.in-Ours in let r = holds_client o.wish o.client o.lost c.args.link.now o.is m h in
    let now = holds_still o.wish o.client o.lost c.args.link.now m r.0 c.submit.new.self r.3 c.in-Err.ensures.err in
    let P : Result Seen Refused → Type 0 = λ z. Submits m (request_view c.args.request) z (Holds (with_end c.args.link.now (end.Ours o.wish c.submit.new.self o.lost))) in
    subst P (sym c.refused.ensures) (refused_submits m (request_view c.args.request) _ r.0 r.1 now c.in-Err.fault c.in-Err.ensures.fault)
