use Rattle.messages.proofs.Words.{on_ok_weaker, request_spelling}
use Rattle.messages.proofs.Added.{appended}
use Rattle.messages.proofs.Rounds.{asks_again}
use Rattle.messages.proofs.codec.write_request.Goals as goal

pub returns-clause-read_back : goal.returns-clause-read_back
returns-clause-read_back c = on_ok_weaker c.put.result (λ g b. asks_again c.args.version c.args.request.now _ b c.in_ok-value.ensures g.0) c.put.ensures.spells

pub returns-then-spell_request-clause-text : goal.returns-then-spell_request-clause-text
unfolding request_spelling
returns-then-spell_request-clause-text c = appended _ _ _ (c.spell_request.ensures.adds c.if-spell_request.true) (c.spell_request.ensures.short c.if-spell_request.true)

pub returns-then-spell_request-clause-read_back : goal.returns-then-spell_request-clause-read_back
returns-then-spell_request-clause-read_back c =
    let a = c.spell_request.ensures.adds c.if-spell_request.true in
    λ b. asks_again c.args.version c.args.request.now a.value b a.is a.good
