use Rattle.messages.proofs.Words.{requests, responses, request_contents, response_contents}
use Rattle.messages.proofs.Layouts.{told_by_rows, spelled_by_rows, requests_laid, responses_laid}
use Rattle.messages.proofs.laws.saying.messages_are_rows.Goals as goal

pub returns : goal.returns
returns c = record {
  requests = λ v t s. told_by_rows v requests t s requests_laid;
  responses = λ v t s. told_by_rows v responses t s responses_laid;
  request = λ v m b. spelled_by_rows v requests (request_contents m) b requests_laid;
  response = λ v m b. spelled_by_rows v responses (response_contents m) b responses_laid;
}
