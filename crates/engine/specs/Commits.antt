-- What commits leave in a ledger, and what holds of their tokens.
use Rattle.std.specs.Prelude.{◌≡◌, ℕ, suc, Bool, true, false, Some, List, [], ◌∷◌, ◌++◌, length, slice_get}
use Rattle.engine.specs.Tokens.{under_token, TokensOnce, found_in, commit_by, added_by}
use Rattle.engine.specs.Views.{WriteView, EntryView}
use Rattle.engine.specs.declared.ledger.Commit.{Commit}
use Rattle.engine.specs.declared.ledger.Commit.TheVariants.{Added, Repeat, Clash}

-- the ledger after a commit that would add this entry
abbrev pub after_commit : List EntryView → EntryView → List EntryView
after_commit es e = es ++ added_by e (found_in e.token e.writes es)

-- what that commit is answered
abbrev pub answer_to : List EntryView → EntryView → Commit
answer_to es e = commit_by (length es) (found_in e.token e.writes es)

-- the ledger after commits, in turn
abbrev pub after_commits : List EntryView → List EntryView → List EntryView
after_commits es [] = es
after_commits es (c ∷ cs) = after_commits (after_commit es c) cs

-- the answers after which an entry with the commit's token and writes is in the ledger
abbrev pub is_in : Commit → Bool
is_in (Added n) = true
is_in (Repeat n) = true
is_in Clash = false

-- Of a commit with a token, over a ledger in which no two entries have one token.
pub record IsByToken (es : List EntryView) (c : EntryView) (t : List ℕ) : Type 0 where
  -- the tokens stay apart
  pub once : TokensOnce (after_commit es c)
  -- an entry that was added is the only one under the token
  pub added : (n : ℕ) → answer_to es c ≡ Added n → under_token t (after_commit es c) ≡ c.writes ∷ []
  -- a repeat tells the place, from 1, of the only entry under the token, which has equal writes; nothing changes
  pub repeated : (n : ℕ) → answer_to es c ≡ Repeat n
      → (under_token t es ≡ c.writes ∷ []) × (after_commit es c ≡ es)
      × ((k : ℕ) × (e : EntryView) × (n ≡ suc k) × (slice_get es k ≡ Some e) × (e.token ≡ Some t) × (e.writes ≡ c.writes))
  -- a clash tells that the only entry under the token has other writes; nothing changes
  pub clash : answer_to es c ≡ Clash
      → (after_commit es c ≡ es)
      × ((w : List WriteView) × (under_token t es ≡ w ∷ []) × ((w ≡ c.writes) → ⊥))

-- what a commit's answer tells
abbrev pub AnswersByToken : Type 0
AnswersByToken = (es : List EntryView) (c : EntryView) (t : List ℕ) → TokensOnce es
    → c.token ≡ Some t → IsByToken es c t

-- Over commits in any order, from any ledger in which no two entries have one token: none come to have one; and if a commit with a token was answered Added or Repeat,
-- exactly one entry has the token in the end, with equal writes, whatever was committed before it and after it.
abbrev pub CommitsOnce : Type 0
CommitsOnce = (brought : List EntryView) → TokensOnce brought
    → (before : List EntryView) (c : EntryView) (later : List EntryView) (t : List ℕ)
    → c.token ≡ Some t
    → TokensOnce (after_commits brought (before ++ c ∷ later))
    × (is_in (answer_to (after_commits brought before) c) ≡ true
    → under_token t (after_commits brought (before ++ c ∷ later)) ≡ c.writes ∷ [])
