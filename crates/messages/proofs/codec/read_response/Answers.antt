use Rattle.messages.proofs.Words.{responses, response_view, response_contents, response_held, response_of, bytes_from_each}
use Rattle.messages.proofs.Read.{read}
use Rattle.messages.proofs.Sent.{answered_back}
use Rattle.messages.proofs.codec.read_response.Goals as goal

pub returns : goal.returns
unfolding response_of
returns c = let p = read response_view response_contents response_held answered_back c.args.version responses c.response_in.result c.args.bytes.now (bytes_from_each c.args.bytes.now c.type_inv.bytes) c.response_in.ensures in record { response = p.0; fault = p.1; same = p.2 }
