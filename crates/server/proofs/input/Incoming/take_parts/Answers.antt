use Rattle.std.proofs.Common.{refl, ap, sym, subst, ◌∙◌, length, Ok, Bool, None, ℕ}
use Rattle.wire.specs.Prelude.{Unfinished, Took, Item, takes, chunks}
use Rattle.messages_deframer.specs.Taking.{WantsRoom}
use Rattle.messages_deframer.specs.Opening.{come}
use Rattle.messages_deframer.proofs.Told.{err_holds}
use Rattle.server_session.specs.declared.kinds.What.{What}
use Rattle.server_session.specs.Prelude.{kept_of}
use Rattle.server.specs.Prelude.{offered}
use Rattle.server.proofs.Feeds.{chunks_taken, chunks_want}
use Rattle.server.proofs.input.Incoming.take_parts.Goals as goal

pub returns-in_err-take_data-clause-err : goal.returns-in_err-take_data-clause-err
returns-in_err-take_data-clause-err c =
    let i = c.args.self.now in
    let e = c.in_err-take_data.ensures.err in
    err_holds c.from_residual.result _ (ap (come 20 (offered i.offer)) e.0, refl, chunks_want i.offer i.inbox c.args.piece.now c.requires.whole e.1)

pub returns-then-branch-clause-ok : goal.returns-then-branch-clause-ok
returns-then-branch-clause-ok c =
    let i = c.args.self.now in
    let k = kept_of c.args.session.now in
    chunks_taken i.offer i.inbox c.take_data.new.self k k c.args.piece.now (length c.args.piece.now) What.Part None c.requires.whole (c.in_ok-take_data.ensures.data (ap (λ (b : Bool). Ok b) c.if-branch.true)) (refl, refl)

pub returns-in_err-used-clause-err : goal.returns-in_err-used-clause-err
returns-in_err-used-clause-err c =
    let i = c.args.self.now in
    let same = c.in_ok-take_data.ensures.other (ap (λ (b : Bool). Ok b) c.if-branch.false) in
    let e = c.in_err-used.ensures.err in
    err_holds c.from_residual-in_err-used.result _ (ap (come 20 (offered i.offer)) (e.0 ∙ same), refl, chunks_want i.offer i.inbox c.args.piece.now c.requires.whole (subst (λ (u : Unfinished). WantsRoom u c.args.piece.now) same e.1))

pub returns-in_err-what-clause-err : goal.returns-in_err-what-clause-err
returns-in_err-what-clause-err c = absurd (c.in_err-what.ensures (takes chunks c.take_data.new.self c.args.piece.now).item (rw c.version-version.ensures at c.in_ok-used.ensures.ok.item))

pub returns-clause-ok : goal.returns-clause-ok
returns-clause-ok c =
    let i = c.args.self.now in
    let same = c.in_ok-take_data.ensures.other (ap (λ (b : Bool). Ok b) c.if-branch.false) in
    let took = c.in_ok-used.ensures.ok in
    let t = takes chunks c.take_data.new.self c.args.piece.now in
    let by : ℕ → Unfinished → Took Unfinished Item = λ n r. record { used = n; item = t.item; rest = r } in
    chunks_taken i.offer i.inbox c.take.new.self (kept_of c.args.session.now) (kept_of c.receive.new.session) c.args.piece.now c.in_ok-used.used c.in_ok-what.what t.item c.requires.whole
    (ap (λ u. takes chunks u c.args.piece.now) (sym same) ∙ ap (λ n. by n t.rest) (sym took.used_is) ∙ ap (by c.in_ok-used.used) (sym took.rest_is))
    (c.in_ok-what.ensures t.item (rw c.version-version.ensures at took.item))
