use Rattle.client.proofs.stream.Stream.take.Goals as goal

pub returns-then-self-lt-LENGTH-clause-ok : goal.returns-then-self-lt-LENGTH-clause-ok
returns-then-self-lt-LENGTH-clause-ok c = c.take_answer.ensures.ok c.args.version
