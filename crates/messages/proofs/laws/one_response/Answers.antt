use Rattle.messages.proofs.Words.{arith, refl, responses, response_contents, contents_in, response_held, response_of}
use Rattle.messages.proofs.Sent.{none_said, said_none, kept_fault, response_is}
use Rattle.messages.proofs.Sayings.{means_told, told_says}
use Rattle.messages.proofs.laws.one_response.Goals as goal

pub returns : goal.returns
unfolding response_of
returns c = record {
  one = λ v b m n p q. let h = response_is v m b p in let k = response_is v n b q in cc;
  response = λ v b m p. response_is v m b p;
  fault = λ v b e bytes p. grind (arith, none_said v responses e b bytes p);
  told = λ v b e bytes p. said_none v responses e b bytes (kept_fault response_held _ e p);
  back = λ v b m bytes p. means_told response_contents response_held v responses (told_says v) b bytes m (contents_in v responses b) refl p;
}
