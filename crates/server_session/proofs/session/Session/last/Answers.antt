use Rattle.std.proofs.Common.{ℕ, ◌∙◌, sym, ap, List, length, Some}
use Rattle.messages.specs.Prelude.{ResponseView, response_of_summary, Closing}
use Rattle.engine.specs.Prelude.{found_in, commit_by, WriteView, token_view, writes_view}
use Rattle.engine.specs.declared.ledger.Commit.{Commit}
use Rattle.server_session.specs.Prelude.{Change, change_alone, close_last, kept_of}
use Rattle.server_session.proofs.Commits.{commits_told}
use Rattle.server_session.proofs.Writes.{one_write}
use Rattle.server_session.proofs.session.Session.last.Goals as goal

pub returns-in_ok-commit-in-Streaming : goal.returns-in_ok-commit-in-Streaming
returns-in_ok-commit-in-Streaming g c =
    let s = c.args.self.now in
    let k = kept_of s in
    let ledger = g.E.Engine.entries c.args.engine.now in
    let said : ℕ → ResponseView = λ n. response_of_summary (Closing (Some n) k.result.mode) in
    let change : Change = change_alone k.result in
    let commit = c.in_ok-commit-in-Streaming.commit in
    let found : List WriteView → Commit = λ ws. commit_by (length ledger) (found_in (token_view s.result.token) ws ledger) in
    let is = c.in_ok-commit-in-Streaming.ensures ∙ ap (λ ws. found (writes_view ws)) c.deref.ensures.value ∙ ap found (sym (one_write s.result.writes.items s.result.one)) in
    λ token. c.closed.ensures k.result k.tx token ∙ commits_told ledger change said commit is ∙ ap (λ t. close_last t ledger k.result k.tx) (sym c.in-Streaming.is)
