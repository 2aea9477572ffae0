use Rattle.std.proofs.Common.{arith, refl}
use Rattle.messages_deframer.proofs.Told.{err_holds}
use Rattle.server_session.specs.Prelude.{kept_of}
use Rattle.server.proofs.Feeds.{offer_goes, offer_ends, offer_wants}
use Rattle.server.proofs.input.Incoming.take_offer.Goals as goal

pub returns-then-offer-lt-HANDSHAKE-clause-ok : goal.returns-then-offer-lt-HANDSHAKE-clause-ok
returns-then-offer-lt-HANDSHAKE-clause-ok c =
    let i = c.args.self.now in
    let w = c.with-used in
    offer_goes i.offer w.result.offer i.inbox (kept_of c.args.session.now) c.args.piece.now w.result.used c.requires w.ensures.used w.ensures.bytes c.if-offer-lt-HANDSHAKE.true

pub returns-clause-ok : goal.returns-clause-ok
returns-clause-ok c =
    let i = c.args.self.now in
    let w = c.with-used in
    offer_ends i.offer w.result.offer i.inbox (kept_of c.args.session.now) c.args.piece.now w.result.used c.requires w.ensures.used w.ensures.bytes (i.unread c.requires) c.in_ok-what.what (kept_of c.shake.new.self) c.in_ok-what.ensures.ok c.if-offer-lt-HANDSHAKE.false

pub returns-in_err-what-clause-err : goal.returns-in_err-what-clause-err
returns-in_err-what-clause-err c =
    let i = c.args.self.now in
    let w = c.with-used in
    err_holds c.from_residual.result _ (refl, c.in_err-what.ensures.err, offer_wants i.offer w.result.offer i.inbox (kept_of c.args.session.now) c.args.piece.now w.result.used c.requires w.ensures.used w.ensures.bytes (omega (arith, w.ensures.len, c.if-offer-lt-HANDSHAKE.false)))
