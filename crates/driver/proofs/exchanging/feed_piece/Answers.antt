use Rattle.std.proofs.Common.{inl, inr, sym, ◌∙◌, subst, ap, Err, rules}
use Rattle.std.proofs.lemmas.List.{nil_from_length}
use Rattle.driver.specs.declared.breaks.Break.{Break}
use Rattle.driver.specs.Prelude.{stand_of, heard_stand, Feeds}
use Rattle.driver.proofs.Reading.{stand_is, part_none, part_on, part_refused, part_done, not_ended}
use Rattle.driver.proofs.exchanging.feed_piece.Goals as goal

pub loop-rest-init : goal.loop-rest-init
loop-rest-init c = part_none (stand_of c.args.tracking.now) c.args.piece.now

pub returns-then-has_ended-clause-feeds : goal.returns-then-has_ended-clause-feeds
returns-then-has_ended-clause-feeds c = part_done c.loop-rest.invariant (inr (sym c.has_ended.ensures ∙ c.if-has_ended.true))

pub returns-clause-feeds : goal.returns-clause-feeds
returns-clause-feeds c = part_done c.loop-rest.invariant (inl (nil_from_length c.loop-rest.rest.now (search rules)))

pub returns-in-Err-clause-feeds : goal.returns-in-Err-clause-feeds
returns-in-Err-clause-feeds c =
    subst (λ (e : Break). Feeds (stand_of c.args.tracking.now) (stand_of c.feed.new.self) c.args.piece.now (Err e)) (sym c.break_of.ensures.by)
    (part_refused c.loop-rest.invariant (stand_of c.feed.new.self) c.in-Err.fault (search rules) (sym c.has_ended.ensures ∙ c.if-has_ended.false) c.in-Err.ensures.fed c.in-Err.ensures.memory (λ e. (c.in-Err.ensures.open e).1) c.in-Err.ensures.room)

pub returns-in-Err-clause-open : goal.returns-in-Err-clause-open
returns-in-Err-clause-open c =
    λ e. not_ended (stand_of c.loop-rest.tracking) c.loop-rest.rest.now c.in-Err.fault _ c.in-Err.ensures.fed (sym c.has_ended.ensures ∙ c.if-has_ended.false) (ap Err (sym c.break_of.ensures.by) ∙ e)

pub loop-rest-preserved : goal.loop-rest-preserved
loop-rest-preserved c =
    let h = c.in-Ok.ensures.fed in
    part_on c.loop-rest.invariant (stand_of c.feed.new.self) c.in-Ok.used c.split_at.result.1.now h.0
    (stand_is (stand_of c.feed.new.self) (heard_stand (stand_of c.loop-rest.tracking) c.loop-rest.rest.now) h.1.0 h.1.1) c.split_at.ensures.back
