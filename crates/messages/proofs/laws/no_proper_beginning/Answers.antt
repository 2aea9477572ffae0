use Rattle.messages.proofs.Words.{requests, responses, request_contents, response_contents}
use Rattle.messages.proofs.Sent.{one_value}
use Rattle.messages.proofs.Sayings.{not_both}
use Rattle.messages.proofs.laws.no_proper_beginning.Goals as goal

pub returns : goal.returns
returns c = record {
  requests = λ v w m n b more p q. (one_value v w requests requests (request_contents m) (request_contents n) b more p q).0;
  responses = λ v w m n b more p q. (one_value v w responses responses (response_contents m) (response_contents n) b more p q).0;
  request_first = λ v w m n b more p q. let t = one_value v w requests responses (request_contents m) (response_contents n) b more p q in not_both v w t.1 (request_contents m) (response_contents n) t.2 t.3;
  response_first = λ v w m n b more p q. let t = one_value v w responses requests (response_contents m) (request_contents n) b more p q in not_both w v t.1 (request_contents n) (response_contents m) t.3 t.2;
}
