use Rattle.std.proofs.Common.{◌≡◌, ap, refl, subst, sym, ◌∙◌}
use Rattle.packstream.proofs.Ranges.{bytes_from_each}
use Rattle.wire.specs.Prelude.{Unfinished, takes, chunks}
use Rattle.messages_deframer.specs.declared.stream.Stream.{Stream}
use Rattle.messages_deframer.specs.Standing.{IsAt}
use Rattle.messages_deframer.specs.Taking.{used_up}
use Rattle.messages_deframer.proofs.Fronts.{alone_taken, alone_wants, alone_going, wants}
use Rattle.messages_deframer.proofs.Told.{err_holds}
use Rattle.messages_deframer.proofs.inbox.Inbox.take_data.Goals as goal

pub returns-in_err-advance-clause-err : goal.returns-in_err-advance-clause-err
returns-in_err-advance-clause-err c =
    let i = c.self.inside in
    let u = i.begun.item in
    let at = c.self.invariant.at in
    err_holds c.from_residual.result _ (
      c.self.view_is,
      wants i.stream u c.args.self.now c.args.piece.now c.self.view_is at c.in-Some.ensures.0 (c.good_may_go_on.ensures u.body at.reads c.in_err-advance.ensures.memory) (alone_wants i.stream c.args.piece.now c.in-Some.behind c.in-Some.ensures u at),
    )

pub invariant_of-self-2 : goal.invariant_of-self-2
invariant_of-self-2 c =
    let i = c.self.inside in
    let s = i.stream in
    let piece = c.args.piece.now in
    let new : Stream = record { chunks = c.in-Some.behind; reader = c.advance.new.self; is_over = s.is_over } in
    let all = alone_taken i.begun.item piece s new c.self.invariant.at c.in-Some.ensures refl (λ b reads. c.reads_more.ensures s.reader.here c.advance.new.self.here b piece reads (bytes_from_each piece c.type_inv.piece) c.in_ok-advance.ensures.here) in
    record {
      at = subst (IsAt new) (sym c.take.ensures) all.1;
      still = c.in_ok-advance.ensures.held;
      going = λ e. alone_going s.chunks c.in-Some.behind piece (c.self.invariant.going e) c.in-Some.ensures.1;
    }

pub returns-clause-data : goal.returns-clause-data
returns-clause-data c = λ e.
    let i = c.self.inside in
    let s = i.stream in
    let piece = c.args.piece.now in
    let new : Stream = record { chunks = c.in-Some.behind; reader = c.advance.new.self; is_over = s.is_over } in
    let all = alone_taken i.begun.item piece s new c.self.invariant.at c.in-Some.ensures refl (λ b reads. c.reads_more.ensures s.reader.here c.advance.new.self.here b piece reads (bytes_from_each piece c.type_inv.piece) c.in_ok-advance.ensures.here) in
    subst (λ (v : Unfinished). takes chunks v piece ≡ used_up piece c.take.new.self.item) c.self.view_is (all.0 ∙ ap (used_up piece) (sym c.take.ensures))
