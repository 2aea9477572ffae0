use Rattle.std.proofs.Common.{◌∙◌, refl, sym, subst, [], true}
use Rattle.packstream_incremental.specs.Prelude.{Points, Reads}
use Rattle.messages_deframer.specs.declared.stream.Stream.{Stream}
use Rattle.messages_deframer.proofs.Told.{err_holds}
use Rattle.messages_deframer.proofs.Taken.{taken_part, taken_noop, taken_message, taken_refused}
use Rattle.messages_deframer.proofs.stream.Stream.take.Goals as goal

pub returns-in-Head-clause-ok : goal.returns-in-Head-clause-ok
returns-in-Head-clause-ok g c = λ u is. taken_part (g.M.Readable.reads c.args.version) u c.args.piece.now c.in_ok-used.field-0 c.scan.new.self (c.in_ok-used.ensures.over ∙ c.requires.over) (c.in_ok-used.ensures.ok u is) c.in-Head.is

pub returns-in-Noop-clause-ok : goal.returns-in-Noop-clause-ok
returns-in-Noop-clause-ok g c = λ u is. taken_noop (g.M.Readable.reads c.args.version) u c.args.piece.now c.in_ok-used.field-0 c.scan.new.self (c.in_ok-used.ensures.over ∙ c.requires.over) (c.in_ok-used.ensures.ok u is) c.in-Noop.is

pub returns-in_ok-message-in-End-clause-ok : goal.returns-in_ok-message-in-End-clause-ok
returns-in_ok-message-in-End-clause-ok g c = λ u is.
    let t : Stream = record { chunks = c.scan.new.self.chunks; reader = c.new.result; is_over = c.scan.new.self.is_over } in
    taken_message (g.M.Readable.reads c.args.version) u c.args.piece.now c.in_ok-used.field-0 c.scan.new.self (c.in_ok-used.ensures.over ∙ c.requires.over) (c.in_ok-used.ensures.ok u is) c.in_ok-message-in-End.message t c.in-End.is c.in_ok-message-in-End.ensures.ok (c.in_ok-used.ensures.over ∙ c.requires.over) refl
    (subst (λ (p : Points). Reads p.here []) (sym c.new.ensures) (tt, refl))

pub returns-in-TooBig-clause-ok : goal.returns-in-TooBig-clause-ok
returns-in-TooBig-clause-ok g c = λ u is.
    let t : Stream = record { chunks = c.scan.new.self.chunks; reader = c.scan.new.self.reader; is_over = true } in
    taken_refused (g.M.Readable.reads c.args.version) u c.args.piece.now c.in_ok-used.field-0 c.scan.new.self (c.in_ok-used.ensures.over ∙ c.requires.over) (c.in_ok-used.ensures.ok u is) t c.in-TooBig.is refl refl

pub returns-in_err-message-in-End-clause-good : goal.returns-in_err-message-in-End-clause-good
returns-in_err-message-in-End-clause-good g c = err_holds c.from_residual-in_err-message-in-End.result _ (c.in_ok-used.ensures.good c.in_err-message-in-End.ensures.memory)

pub returns-in_err-message-in-End-clause-room : goal.returns-in_err-message-in-End-clause-room
returns-in_err-message-in-End-clause-room g c = λ u is. err_holds c.from_residual-in_err-message-in-End.result _ ((c.in_ok-used.ensures.ok u is).wants c.in-End.is)
