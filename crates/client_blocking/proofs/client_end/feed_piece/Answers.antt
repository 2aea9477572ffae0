use Rattle.std.proofs.Common.{inl, sym, ap, subst, rules, Bool, Ok, Err, List, map}
use Rattle.std.proofs.lemmas.List.{nil_from_length}
use Rattle.client.specs.Prelude.{Note, note, Fits, Rest}
use Rattle.client_blocking.specs.Prelude.{FeedsPiece, after_all}
use Rattle.client_blocking.proofs.Tales.{Feeds, part_kept, part_goes_on, part_refused, part_broken}
use Rattle.client_blocking.proofs.Known.{holds, same}
use Rattle.client_blocking.proofs.client_end.feed_piece.Goals as goal

pub returns-then-is_err-clause-feeds : goal.returns-then-is_err-clause-feeds
returns-then-is_err-clause-feeds c = λ r f.
    let p = part_kept (c.loop-rest.invariant r f) (ap (map note) c.reserve.ensures.items) in
    part_broken p p.now

pub returns-clause-feeds : goal.returns-clause-feeds
returns-clause-feeds c = λ r f.
    let p = c.loop-rest.invariant r f in
    record { fed = p.fed; unheard = c.loop-rest.rest.now; parts = p.parts; told = p.told; now = p.now; ends = λ _. inl (nil_from_length c.loop-rest.rest.now (search rules)) }

pub returns-in-Err-clause-feeds : goal.returns-in-Err-clause-feeds
returns-in-Err-clause-feeds c = λ r f.
    let p = part_kept (c.loop-rest.invariant r f) (ap (map note) c.reserve.ensures.items) in
    let s = after_all r p.fed in
    let h = holds (λ (x : Rest). Feeds x c.loop-rest.rest.now (Fits c.feed.new.self) (Err c.in-Err.fault)) _ c.in-Err.ensures.told s p.now in
    let before : List Note = map note c.args.heard.now.items in
    subst (λ (b : Bool). FeedsPiece r c.args.piece.now before (map note c.reserve.new.self.items) b (Fits c.feed.new.self)) (sym c.end_of.ensures.ended) (part_refused p c.in-Err.fault h (λ m. same _ _ (c.in-Err.ensures.memory m).0 s p.now))

pub loop-rest-preserved : goal.loop-rest-preserved
loop-rest-preserved c = λ r f.
    let p = part_kept (c.loop-rest.invariant r f) (ap (map note) c.reserve.ensures.items) in
    let s = after_all r p.fed in
    let h = holds (λ (x : Rest). Feeds x c.loop-rest.rest.now (Fits c.feed.new.self) (Ok (c.in-Ok.used, c.in-Ok.told))) _ c.in-Ok.ensures.told s p.now in
    part_goes_on p (c.in-Ok.used, c.in-Ok.told) c.split_at.result.1.now (map note c.keep.new.heard.items) h c.split_at.ensures.back c.keep.ensures
