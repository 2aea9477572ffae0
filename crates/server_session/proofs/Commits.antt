-- How a commit is answered, by what its engine would answer to it.
use Rattle.std.proofs.Common.{◌≡◌, ◌∙◌, ap, refl, ℕ, ◌+◌, List, length, Some, None}
use Rattle.messages.specs.Prelude.{ResponseView}
use Rattle.engine.specs.declared.ledger.Commit.{Commit}
use Rattle.engine.specs.declared.ledger.Commit.TheVariants.{Added}
use Rattle.engine.specs.Prelude.{Found, Free, found_in, commit_by, known_by, EntryView}
use Rattle.server_session.specs.Prelude.{Change, commits_as, commits_over, commits_by}

by_found : (len : ℕ) (change : Change) (said : ℕ → ResponseView) (f : Found) → commits_by change said (commit_by len f) ≡ commits_as len change said f
by_found len change said Free = refl
by_found len change said _ = refl

pub commits_told : (ledger : List EntryView) (change : Change) (said : ℕ → ResponseView) (c : Commit) → c ≡ commit_by (length ledger) (found_in change.token change.writes ledger) → commits_by change said c ≡ commits_over ledger change said
commits_told ledger change said c e = ap (commits_by change said) e ∙ by_found (length ledger) change said (found_in change.token change.writes ledger)

-- what is known is what a commit answers
pub known_told : (len : ℕ) (f : Found) (c : Commit) → Some c ≡ known_by f → c ≡ commit_by len f
known_told len Free c e = cc
known_told len _ c e = cc

-- where nothing is known, an entry is added
pub added_told : (len n : ℕ) (f : Found) → None ≡ known_by f → n ≡ len + 1 → Added n ≡ commit_by len f
added_told len n Free e h = ap (λ m. Added m) h
added_told len n _ e h = cc
