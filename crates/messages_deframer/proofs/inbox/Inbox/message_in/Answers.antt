use Rattle.std.proofs.Common.{◌≡◌, ◌∙◌, ◌≤◌, ◌+◌, ap, length, subst, sym}
use Rattle.wire.specs.Prelude.{Unfinished, takes, chunks}
use Rattle.messages_deframer.specs.Taking.{whole_message, WantsRoom}
use Rattle.messages_deframer.proofs.Fronts.{at_start, first_takes, first_wants, first_within, none_come, whole_is}
use Rattle.messages_deframer.proofs.inbox.Inbox.message_in.Goals as goal

pub returns-clause-lends : goal.returns-clause-lends
returns-clause-lends c = λ m.
    let i = c.self.inside in
    let found = c.message_in.ensures m in (
      λ e. let f = found.0 e in (sym c.self.view_is ∙ none_come m c.args.piece.now f.1 i.stream i.begun.item c.self.invariant.at c.if-self.false f.0, f.1),
      λ k. found.1 (at_start i.stream i.begun.item c.self.invariant.at (c.self.view_is ∙ k.0), k.1),
    )

pub returns-then-self-clause-lends : goal.returns-then-self-clause-lends
returns-then-self-clause-lends c = λ m.
    let over = c.self.invariant.at.over ∙ c.if-self.true in
    (λ e. absurd cc, λ k. let big = sym over ∙ ap (λ (x : Unfinished). x.too_big) (c.self.view_is ∙ k.0) in absurd cc)

pub returns-clause-takes : goal.returns-clause-takes
returns-clause-takes c =
    let i = c.self.inside in
    let piece = c.args.piece.now in
    whole_is (λ d. d.now) c.message_in.result _ (λ m. takes chunks c.args.self.now piece ≡ whole_message m c.args.self.now) c.message_in.ensures
    (λ m f. subst (λ (u : Unfinished). takes chunks u piece ≡ whole_message m u) c.self.view_is (first_takes m piece f.1 i.stream i.begun.item c.self.invariant.at c.if-self.false f.0))

pub returns-clause-room : goal.returns-clause-room
returns-clause-room c =
    let i = c.self.inside in
    whole_is (λ d. d.now) c.message_in.result _ (λ m. WantsRoom c.args.self.now c.args.piece.now) c.message_in.ensures
    (λ m f. first_wants m c.args.piece.now f.1 i.stream i.begun.item c.self.invariant.at c.if-self.false f.0 c.args.self.now c.self.view_is)

pub returns-clause-within : goal.returns-clause-within
returns-clause-within c =
    whole_is (λ d. d.now) c.message_in.result _ (λ m. length m + 4 ≤ length c.args.piece.now) c.message_in.ensures (λ m f. first_within m c.args.piece.now f.1)
