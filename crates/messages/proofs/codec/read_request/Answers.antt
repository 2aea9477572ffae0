use Rattle.messages.proofs.Words.{requests, request_view, request_contents, request_held, request_of, bytes_from_each}
use Rattle.messages.proofs.Read.{read}
use Rattle.messages.proofs.Sent.{asked_back}
use Rattle.messages.proofs.codec.read_request.Goals as goal

pub returns : goal.returns
unfolding request_of
returns c = let p = read request_view request_contents request_held asked_back c.args.version requests c.request_in.result c.args.bytes.now (bytes_from_each c.args.bytes.now c.type_inv.bytes) c.request_in.ensures in record { request = p.0; fault = p.1; same = p.2 }
