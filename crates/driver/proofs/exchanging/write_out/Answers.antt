use Rattle.std.proofs.Common.{◌≡◌, subst, rules, List, ℕ}
use Rattle.streams.specs.Moving.{Grows}
use Rattle.streams.specs.Prelude.{MovesFront}
use Rattle.driver.specs.Prelude.{stand_of, emptied_stand}
use Rattle.driver.proofs.Reading.{stand_is}
use Rattle.driver.proofs.exchanging.write_out.Goals as goal

pub returns-then-is_err-clause-out : goal.returns-then-is_err-clause-out
returns-then-is_err-clause-out g c =
    let s = stand_of c.args.tracking.now in
    let w : MovesFront (g.O.Sink.put c.args.sink.now) (g.O.Sink.put c.write_all-written.new.sink) c.unsent.result.now = search rules in
    let r : (stand_of c.sent.new.self).rest ≡ (emptied_stand s).rest = search rules in
    (subst (λ (z : List ℕ). MovesFront (g.O.Sink.put c.args.sink.now) (g.O.Sink.put c.write_all-written.new.sink) z) c.unsent.ensures w, stand_is (stand_of c.sent.new.self) (emptied_stand s) r c.sent.ensures.account)

pub returns-clause-out : goal.returns-clause-out
returns-clause-out g c =
    let s = stand_of c.args.tracking.now in
    let w : Grows (g.O.Sink.put c.args.sink.now) (g.O.Sink.put c.write_all-written.new.sink) c.unsent.result.now = search rules in
    let r : (stand_of c.sent.new.self).rest ≡ (emptied_stand s).rest = search rules in
    (subst (λ (z : List ℕ). Grows (g.O.Sink.put c.args.sink.now) (g.O.Sink.put c.write_all-written.new.sink) z) c.unsent.ensures w, stand_is (stand_of c.sent.new.self) (emptied_stand s) r c.sent.ensures.account)
