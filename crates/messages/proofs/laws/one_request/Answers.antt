use Rattle.messages.proofs.Words.{arith, refl, requests, request_contents, contents_in, request_held, request_of}
use Rattle.messages.proofs.Sent.{none_said, said_none, kept_fault, request_is}
use Rattle.messages.proofs.Sayings.{means_told, asked}
use Rattle.messages.proofs.laws.one_request.Goals as goal

pub returns : goal.returns
unfolding request_of
returns c = record {
  one = λ v b m n p q. let h = request_is v m b p in let k = request_is v n b q in cc;
  request = λ v b m p. request_is v m b p;
  fault = λ v b e bytes p. grind (arith, none_said v requests e b bytes p);
  told = λ v b e bytes p. said_none v requests e b bytes (kept_fault request_held _ e p);
  back = λ v b m bytes p. means_told request_contents request_held v requests (λ t s h e. (asked v t s h e).0) b bytes m (contents_in v requests b) refl p;
}
