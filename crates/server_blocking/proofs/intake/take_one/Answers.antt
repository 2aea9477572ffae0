use Rattle.std.proofs.Common.{refl, sym, ap, ◌∙◌}
use Rattle.server.specs.Prelude.{setting}
use Rattle.server.specs.declared.kinds.Took.{Took}
use Rattle.server_blocking.specs.Prelude.{rest_after}
use Rattle.server_blocking.proofs.Talks.{fed, fed_holds, next_placed, none_taken, one_broken, one_rested, one_taken}
use Rattle.server_blocking.proofs.intake.take_one.Goals as goal

pub returns-in-Err-clause-takes : goal.returns-in-Err-clause-takes
returns-in-Err-clause-takes g c = λ r before up i e h.
    none_taken r c.args.conn (setting g.E.Engine.answer g.G.Gate.welcomes r) up c.args.piece.now e i _ _ h c.in-Err.fault c.in-Err.ensures.feeds

pub returns-in-Err-settle-clause-takes : goal.returns-in-Err-settle-clause-takes
returns-in-Err-settle-clause-takes g c = λ r before up i e h.
    let S = setting g.E.Engine.answer g.G.Gate.welcomes r in
    let f = fed_holds r c.args.conn S up c.args.piece.now e i _ _ h c.in-Ok.took c.in-Ok.ensures.bound.0 c.in-Ok.ensures.feeds in
    one_broken r c.args.conn S up c.args.piece.now e (c.in-Err-settle.ensures.settles r _ (fed r c.args.conn S up c.args.piece.now e) before i refl (next_placed r c.args.conn S up c.args.piece.now e) f.1)

pub returns-in-Ok-settle-clause-takes : goal.returns-in-Ok-settle-clause-takes
returns-in-Ok-settle-clause-takes g c = λ r before up i e h.
    let S = setting g.E.Engine.answer g.G.Gate.welcomes r in
    let f = fed_holds r c.args.conn S up c.args.piece.now e i _ _ h c.in-Ok.took c.in-Ok.ensures.bound.0 c.in-Ok.ensures.feeds in
    one_taken r c.args.conn S up c.args.piece.now e c.in-Ok.took.used c.in-Ok-settle.liveness (ap (λ (x : Took). x.used) f.0)
    (c.in-Ok-settle.ensures.settles r _ (fed r c.args.conn S up c.args.piece.now e) before i refl (next_placed r c.args.conn S up c.args.piece.now e) f.1)

pub returns-in-Some-clause-takes : goal.returns-in-Some-clause-takes
returns-in-Some-clause-takes g c = λ r before up i e h.
    let S = setting g.E.Engine.answer g.G.Gate.welcomes r in
    let f = fed_holds r c.args.conn S up c.args.piece.now e i _ _ h c.in-Ok.took c.in-Ok.ensures.bound.0 c.in-Ok.ensures.feeds in
    one_rested r c.args.conn S up c.args.piece.now e c.in-Ok.took.used c.in-Some.liveness (ap (λ (x : Took). x.used) f.0) (sym (ap (λ (x : Took). rest_after x.what) f.0) ∙ sym c.liveness_after.ensures ∙ c.in-Some.is) f.1
