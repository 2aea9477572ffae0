use Rattle.messages.specs.Prelude.{request_of}
use Rattle.server_session.specs.Prelude.{kept_of, version_of}
use Rattle.server_session.proofs.Arrived.{received_by}
use Rattle.server.proofs.receipt.receive_message.Goals as goal

pub returns-clause-ok : goal.returns-clause-ok
returns-clause-ok c =
    let k = kept_of c.args.session.now in
    received_by c.read_request.result (request_of (version_of k) c.args.message.now) c.receive.result k (kept_of c.receive.new.self) (rw c.version-version.ensures at c.read_request.ensures.same) c.receive.ensures.wants c.receive.ensures.taken
