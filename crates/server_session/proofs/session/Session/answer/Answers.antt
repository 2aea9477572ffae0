use Rattle.std.proofs.Common.{◌∙◌, ap, sym, ℕ, List, length, None}
use Rattle.packstream.specs.Prelude.{Tree}
use Rattle.messages.specs.Prelude.{response_of_summary, Committed}
use Rattle.engine.specs.Prelude.{found_in, commit_by, writes_view}
use Rattle.server_session.specs.Prelude.{change_inside, close, count_at, kept_of}
use Rattle.server_session.proofs.Commits.{commits_told}
use Rattle.server_session.proofs.Listed.{rows_counted}
use Rattle.server_session.proofs.Replies.{acts_same, acts_told, left_is}
use Rattle.server_session.proofs.session.Session.answer.Goals as goal

pub returns-in-Hello : goal.returns-in-Hello
returns-in-Hello g c =
    let k = kept_of c.args.self.now in
    rw (c.in-Hello.is, ← c.version.ensures) (c.greet.ensures k.result k.tx None g.E.Engine.answer)

pub returns-in-Logon : goal.returns-in-Logon
returns-in-Logon g c =
    let k = kept_of c.args.self.now in
    rw c.in-Logon.is (c.admit.ensures k.result k.tx None g.E.Engine.answer)

pub returns-in_ok-commit-in-Commit : goal.returns-in_ok-commit-in-Commit
returns-in_ok-commit-in-Commit g c =
    let k = kept_of c.args.self.now in
    let ledger = g.E.Engine.entries c.args.engine.now in
    let change = change_inside k.tx in
    let is = c.in_ok-commit-in-Commit.ensures ∙ ap (λ ws. commit_by (length ledger) (found_in change.token (writes_view ws) ledger)) c.deref.ensures.value in
    rw (c.in-Commit.is, ← commits_told ledger change (λ n. response_of_summary (Committed n)) c.in_ok-commit-in-Commit.commit is) (c.committed.ensures k.result k.tx None)

pub returns-in-Discard : goal.returns-in-Discard
returns-in-Discard g c =
    let s = c.args.self.now in
    let k = kept_of s in
    let is = left_is c.in-Discard.count k.result.rows c.count_of.result (c.count_of.ensures ∙ ap (λ (n : ℕ). count_at c.in-Discard.count n) (sym (rows_counted s.result.rows))) in
    rw c.in-Discard.is (acts_told k.result k.tx None c.ends_rows-in-Discard.result _ (acts_same k.result k.tx c.ends_rows-in-Discard.result _ _ (ap (λ (rows : List (List Tree)). close c.args.state (g.E.Engine.entries c.args.engine.now) rows k.result k.tx) is) c.ends_rows-in-Discard.ensures))
