use Rattle.messages.proofs.Words.{rules, responses, response_view, response_contents, response_held, response_of}
use Rattle.messages.proofs.Read.{read_spelled}
use Rattle.messages.proofs.Sent.{answered_back}
use Rattle.messages.proofs.codec.response_of.Goals as goal

pub returns : goal.returns
unfolding response_of
returns c =
    let p = read_spelled response_view response_contents response_held answered_back c.args.version responses c.response_of_value.result _ c.args.packed.now c.value.ensures.same c.value.ensures.good c.response_of_value.ensures in
    record { told = search rules; response = p.0; fault = p.1; same = p.2 }
