use Rattle.std.proofs.Common.{◌≡◌, ◌∙◌, ◌+◌, ◌++◌, ◌∷◌, [], ap, subst, take, length, rules, true, false}
use Rattle.engine.specs.Prelude.{entry_view, entries_view, is_token, token_view, writes_view}
use Rattle.engine_sqlite.proofs.Front.{free_of_last, front_of_last, last_split}
use Rattle.engine_sqlite.proofs.lasting.LastingEngine.known.Goals as goal

pub returns-then-has_token : goal.returns-then-has_token
returns-then-has_token g c =
    let n = c.self.inside.kept in
    let last = c.index-ledger-self.result in
    let all = g.E.Engine.entries c.self.inside.inner in
    let lends : entries_view c.ledger.result.now ≡ all = c.ledger.ensures.lends in
    let len : length all ≡ n + 1 = search rules in
    let parts : all ≡ take n all ++ entry_view last ∷ [] = subst (λ es. es ≡ take n es ++ entry_view last ∷ []) lends (last_split c.ledger.result.now n last (ap length lends ∙ len) c.index-ledger-self.is) in
    let is : is_token c.args.token.now (token_view last.token) ≡ true = search rules in
    let done = free_of_last all n (entry_view last) c.args.token.now (writes_view c.args.writes.now) parts c.ledger.ensures.once is in
    search (rules, done)

pub returns : goal.returns
returns g c =
    let n = c.self.inside.kept in
    let last = c.index-ledger-self.result in
    let all = g.E.Engine.entries c.self.inside.inner in
    let lends : entries_view c.ledger.result.now ≡ all = c.ledger.ensures.lends in
    let len : length all ≡ n + 1 = search rules in
    let parts : all ≡ take n all ++ entry_view last ∷ [] = subst (λ es. es ≡ take n es ++ entry_view last ∷ []) lends (last_split c.ledger.result.now n last (ap length lends ∙ len) c.index-ledger-self.is) in
    let is : is_token c.args.token.now (token_view last.token) ≡ false = search rules in
    let done = front_of_last all n (entry_view last) c.args.token.now (writes_view c.args.writes.now) parts is in
    search (rules, done)
