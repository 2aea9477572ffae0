use Rattle.messages.proofs.Words.{rules, requests, request_view, request_contents, request_held, request_of}
use Rattle.messages.proofs.Read.{read_spelled}
use Rattle.messages.proofs.Sent.{asked_back}
use Rattle.messages.proofs.codec.request_of.Goals as goal

pub returns : goal.returns
unfolding request_of
returns c =
    let p = read_spelled request_view request_contents request_held asked_back c.args.version requests c.request_of_value.result _ c.args.packed.now c.value.ensures.same c.value.ensures.good c.request_of_value.ensures in
    record { told = search rules; request = p.0; fault = p.1; same = p.2 }
