use Rattle.std.proofs.Common.{Ok}
use Rattle.messages.specs.Prelude.{response_view, Heard as AnyHeard}
use Rattle.client.specs.Prelude.{rest_of, knowledge_of, hears_response}
use Rattle.client.proofs.Pieces.{is_bad, message_told, message_refused}
use Rattle.client.proofs.client.Client.feed_end.Goals as goal

pub returns-in-Ok-hear_response-clause-feeds : goal.returns-in-Ok-hear_response-clause-feeds
returns-in-Ok-hear_response-clause-feeds c = message_told (rest_of c.args.self.now) _ _ _ c.in-Some.is c.in-Some-message_in.ensures.takes (Ok (response_view c.in-Ok.summary)) c.in-Ok.ensures.same _ _ c.in-Ok-hear_response.ensures

pub returns-in-Err-hear_response-clause-feeds : goal.returns-in-Err-hear_response-clause-feeds
returns-in-Err-hear_response-clause-feeds c = message_refused (rest_of c.args.self.now) _ _ _ c.in-Some.is c.in-Some-message_in.ensures.takes (Ok (response_view c.in-Ok.summary)) c.in-Ok.ensures.same _ _ c.in-Err-hear_response.ensures

pub returns-in-Err-hear_response-clause-room : goal.returns-in-Err-hear_response-clause-room
returns-in-Err-hear_response-clause-room c = λ e.
    let view = response_view c.in-Ok.summary in
    let bad = is_bad (AnyHeard.Told view) (hears_response (knowledge_of c.args.self.now.pipeline) view) _ _ c.in-Err-hear_response.ensures in
    absurd cc
