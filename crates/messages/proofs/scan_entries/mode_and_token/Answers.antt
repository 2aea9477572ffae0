use Rattle.messages.proofs.Words.{◌≡◌, ℕ, List, Some, true, subst, sym, rules, is_token}
use Rattle.messages.specs.Scanned.{SpellsTransaction}
use Rattle.messages.proofs.Scanned.{token_scanned}
use Rattle.messages.proofs.scan_entries.mode_and_token.Goals as goal

pub returns : goal.returns
returns g c =
    let f : is_token c.in_ok-token.token.now ≡ true = search rules in
    subst (λ (s : List ℕ). SpellsTransaction c.in_ok-mode.mode (Some s) (g.S.Source.left c.args.source)) (sym c.in_ok-copy.ensures.ok) (λ v. token_scanned v c.in_ok-mode.mode c.in_ok-token.token.now (g.S.Source.left c.args.source) (g.S.Source.left c.in_ok-mode.rest) (g.S.Source.left c.in_ok-rest.rest) (g.S.Source.left c.in_ok-token.after) c.has_bytes.ensures c.in_ok-mode.ensures c.in_ok-rest.ensures
    c.in_ok-token.ensures.spelled c.in_ok-end.ensures f c.in_ok-token.ensures.good)
