use Rattle.std.proofs.Common.{◌≡◌, ◌<◌, ◌-◌, ◌∙◌, ⊎_elim, refl, length, take, drop, arith, length-take, length-drop}
use Rattle.wire.specs.declared.parts.Part.TheVariants as part
use Rattle.messages_deframer.proofs.Parts.{some_used, keeps_going}
use Rattle.messages_deframer.proofs.Coming.{comes_none, comes_on, comes_to, comes_all, comes_data, neither}
use Rattle.messages_deframer.proofs.Told.{err_holds}
use Rattle.messages_deframer.proofs.stream.Stream.scan.Goals as goal

pub loop-used-init : goal.loop-used-init
loop-used-init c = record { comes = λ u is. comes_none c.args.self.now u c.args.piece.now is c.requires.over; within = omega arith; going = c.requires.going; held = refl; over = refl; good = λ e. e }

pub loop-used-preserved : goal.loop-used-preserved
loop-used-preserved c =
    let piece = c.args.piece.now in
    let used = c.loop-used.used in
    let left = take (length piece - used) (drop used piece) in
    let some : 0 < length left = omega (arith, length-take (length piece - used) (drop used piece), length-drop used piece, c.loop-used-test.true) in
    record {
      comes = λ u is. comes_on u piece used c.loop-used.self.chunks c.next.new.self.chunks c.loop-used.self.reader.here c.next.new.self.reader.here c.in_ok-cut.cut (is.over ∙ c.requires.over) (c.loop-used.invariant.comes u is) c.loop-used-test.true c.in_ok-cut.ensures.cut.0 c.in_ok-cut.ensures.cut.1 c.in_ok-cut.ensures.reads c.in-Head.is;
      within = omega (arith, length-take (length piece - used) (drop used piece), length-drop used piece, c.in_ok-cut.ensures.within);
      going = keeps_going c.loop-used.self.chunks c.next.new.self.chunks left c.in_ok-cut.cut some c.loop-used.invariant.going c.in_ok-cut.ensures.cut.0 c.in_ok-cut.ensures.cut.1 (λ e. ⊎_elim (λ (h : c.in_ok-cut.cut.what ≡ part.Head). absurd cc) (λ (h : c.in_ok-cut.cut.what ≡ part.Data). absurd cc) c.in-Head.is);
      held = c.in_ok-cut.ensures.held ∙ c.loop-used.invariant.held;
      over = c.in_ok-cut.ensures.over ∙ c.loop-used.invariant.over;
      good = λ e. c.loop-used.invariant.good (c.in_ok-cut.ensures.good e);
    }

pub loop-used-smaller : goal.loop-used-smaller
loop-used-smaller c =
    let piece = c.args.piece.now in
    let used = c.loop-used.used in
    let left = take (length piece - used) (drop used piece) in
    let some : 0 < length left = omega (arith, length-take (length piece - used) (drop used piece), length-drop used piece, c.loop-used-test.true) in
    let more : 0 < c.in_ok-cut.cut.used = some_used c.loop-used.self.chunks c.next.new.self.chunks left c.in_ok-cut.cut some c.loop-used.invariant.going c.in_ok-cut.ensures.cut.0 c.in_ok-cut.ensures.cut.1 in
    omega arith

pub returns-in_default : goal.returns-in_default
returns-in_default c =
    let piece = c.args.piece.now in
    let used = c.loop-used.used in
    let left = take (length piece - used) (drop used piece) in
    let some : 0 < length left = omega (arith, length-take (length piece - used) (drop used piece), length-drop used piece, c.loop-used-test.true) in
    let more : 0 < c.in_ok-cut.cut.used = some_used c.loop-used.self.chunks c.next.new.self.chunks left c.in_ok-cut.cut some c.loop-used.invariant.going c.in_ok-cut.ensures.cut.0 c.in_ok-cut.ensures.cut.1 in
    record {
      ok = λ u is. comes_to u piece used c.loop-used.self.chunks c.next.new.self.chunks c.loop-used.self.reader.here c.next.new.self.reader.here c.in_ok-cut.cut (is.over ∙ c.requires.over) (c.loop-used.invariant.comes u is) c.loop-used-test.true c.in_ok-cut.ensures.cut.0 c.in_ok-cut.ensures.cut.1 c.in_ok-cut.ensures.reads c.next.new.self refl refl (neither c.in_ok-cut.cut.what c.in_default.not-Head c.in_default.not-Data);
      within = omega (arith, length-take (length piece - used) (drop used piece), length-drop used piece, c.in_ok-cut.ensures.within);
      some = λ h. omega arith;
      going = keeps_going c.loop-used.self.chunks c.next.new.self.chunks left c.in_ok-cut.cut some c.loop-used.invariant.going c.in_ok-cut.ensures.cut.0 c.in_ok-cut.ensures.cut.1;
      held = c.in_ok-cut.ensures.held ∙ c.loop-used.invariant.held;
      over = c.in_ok-cut.ensures.over ∙ c.loop-used.invariant.over;
      good = λ e. c.loop-used.invariant.good (c.in_ok-cut.ensures.good e);
      memory = tt;
      room = λ u is. tt;
    }

pub returns-in_err-cut-clause-memory : goal.returns-in_err-cut-clause-memory
returns-in_err-cut-clause-memory c = err_holds c.from_residual.result _ (c.loop-used.invariant.good c.in_err-cut.ensures.memory)

pub returns-in_err-cut-clause-room : goal.returns-in_err-cut-clause-room
returns-in_err-cut-clause-room c = λ u is.
    err_holds c.from_residual.result _ (comes_data u c.args.piece.now c.loop-used.used c.loop-used.self.chunks c.loop-used.self.reader.here (c.loop-used.invariant.comes u is) c.loop-used-test.true c.in_err-cut.ensures.data)

pub returns-clause-ok : goal.returns-clause-ok
returns-clause-ok c = λ u is. comes_all u c.args.piece.now c.loop-used.used c.loop-used.self (is.over ∙ c.requires.over) (c.loop-used.invariant.comes u is) c.loop-used-test.false
