use Rattle.messages.proofs.Rounds.{request_reads_back, response_reads_back}
use Rattle.messages.proofs.laws.texts_read_back.Goals as goal

pub returns : goal.returns
returns c = record { requests = request_reads_back; responses = response_reads_back }
