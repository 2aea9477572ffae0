use Rattle.std.proofs.Common.{◌∙◌}
use Rattle.engine.proofs.Telling.{token_there, token_nowhere}
use Rattle.engine.proofs.places.has_token_at.Goals as goal

pub returns-in-None : goal.returns-in-None
returns-in-None c = token_nowhere c.args.ledger.now c.args.place c.args.token.now c.in-None.ensures.lookup.3

pub returns-in-Some : goal.returns-in-Some
returns-in-Some c =
    let there = c.in-Some.ensures.lookup in
    c.has_token.ensures ∙ token_there c.args.ledger.now c.args.place c.args.token.now c.in-Some.entry.now there.3.0 there.1
