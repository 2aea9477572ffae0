use Rattle.messages.proofs.Words.{on_ok_weaker, response_spelling}
use Rattle.messages.proofs.Added.{appended}
use Rattle.messages.proofs.Rounds.{tells_again}
use Rattle.messages.proofs.codec.write_response.Goals as goal

pub returns-clause-read_back : goal.returns-clause-read_back
returns-clause-read_back c = on_ok_weaker c.put.result (λ g b. tells_again c.args.version c.args.response.now _ b c.in_ok-value.ensures g.0) c.put.ensures.spells

pub returns-then-spell_response-clause-text : goal.returns-then-spell_response-clause-text
unfolding response_spelling
returns-then-spell_response-clause-text c = appended _ _ _ (c.spell_response.ensures.adds c.if-spell_response.true) (c.spell_response.ensures.short c.if-spell_response.true)

pub returns-then-spell_response-clause-read_back : goal.returns-then-spell_response-clause-read_back
returns-then-spell_response-clause-read_back c =
    let a = c.spell_response.ensures.adds c.if-spell_response.true in
    λ b. tells_again c.args.version c.args.response.now a.value b a.is a.good
