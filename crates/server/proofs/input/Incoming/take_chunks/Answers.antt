use Rattle.std.proofs.Common.{Some, refl, ◌+◌, length}
use Rattle.wire.specs.Prelude.{Message}
use Rattle.messages_deframer.proofs.Told.{err_holds}
use Rattle.server_session.specs.Prelude.{kept_of}
use Rattle.server.proofs.Feeds.{chunks_taken, chunks_want}
use Rattle.server.proofs.input.Incoming.take_chunks.Goals as goal

pub returns-in_err-what-clause-err : goal.returns-in_err-what-clause-err
returns-in_err-what-clause-err c =
    let i = c.args.self.now in
    err_holds c.from_residual.result _ (refl, c.in_err-what.ensures.err, chunks_want i.offer i.inbox c.args.piece.now c.requires.whole c.in-Some.ensures.room)

pub returns-in-Some-clause-ok : goal.returns-in-Some-clause-ok
returns-in-Some-clause-ok c =
    let i = c.args.self.now in
    let m = c.in-Some.message.now in
    chunks_taken i.offer i.inbox i.inbox (kept_of c.args.session.now) (kept_of c.receive_message.new.session) c.args.piece.now (length m + 4) c.in_ok-what.what (Some (Message m)) c.requires.whole c.in-Some.ensures.takes c.in_ok-what.ensures.ok
