-- Tokens: what a ledger has of one, and what a commit does by it.
use Rattle.std.specs.Prelude.{◌≤◌, ◌<◌, ℕ, suc, ◌+◌, Bool, true, false, ◌&&◌, if◌then◌else◌, Option, Some, None, List, [], ◌∷◌, length}
use Rattle.std.specs.Str.{bytes_eq}
use Rattle.structures_cells.specs.Same.{same_tree}
use Rattle.engine.specs.Views.{WriteView, Token, EntryView}
use Rattle.engine.specs.declared.ledger.Commit.{Commit}
use Rattle.engine.specs.declared.ledger.Commit.TheVariants.{Added, Repeat, Clash}
use Rattle.engine.specs.Limits.{ledger_bound}

-- whether this is the token
abbrev pub is_token : List ℕ → Token → Bool
is_token t None = false
is_token t (Some s) = bytes_eq s t

-- whether two lists of writes are one: the same keys and cells, in this order
abbrev pub same_writes : List WriteView → List WriteView → Bool
same_writes [] [] = true
same_writes (x ∷ xs) (y ∷ ys) = bytes_eq x.0 y.0 && (same_tree x.1 y.1 && same_writes xs ys)
same_writes _ _ = false

-- the writes of the entries with a token, in the ledger's order
abbrev pub under_token : List ℕ → List EntryView → List (List WriteView)
under_token t [] = []
under_token t (e ∷ es) =
    if is_token t e.token then e.writes ∷ under_token t es else under_token t es

-- No two entries have one token.
abbrev pub TokensOnce : List EntryView → Type 0
TokensOnce es = (t : List ℕ) → length (under_token t es) ≤ 1

-- what a ledger has for writes that are to be committed: nothing under their token; equal writes, at this place from 1; other writes
pub data Found : Type 0 where
  Free : Found
  There : ℕ → Found
  Other : Found

-- by the writes of the first entry with the token, behind so many entries
abbrev pub found_from : List ℕ → List WriteView → List EntryView → ℕ → Found
found_from t writes [] n = Free
found_from t writes (e ∷ es) n =
    if is_token t e.token then (if same_writes e.writes writes then There (suc n) else Other)
    else found_from t writes es (suc n)

-- the same of a whole ledger; for writes without a token there is never anything
abbrev pub found_in : Token → List WriteView → List EntryView → Found
found_in None writes es = Free
found_in (Some t) writes es = found_from t writes es 0

-- what a commit answers, over a ledger of so many entries
abbrev pub commit_by : ℕ → Found → Commit
commit_by len Free = Added (len + 1)
commit_by len (There n) = Repeat n
commit_by len Other = Clash

-- the same if no entry is added
abbrev pub known_by : Found → Option Commit
known_by Free = None
known_by (There n) = Some (Repeat n)
known_by Other = Some Clash

-- the entry that a commit adds, if it adds one
abbrev pub added_by : EntryView → Found → List EntryView
added_by e Free = e ∷ []
added_by e (There n) = []
added_by e Other = []

-- a commit that adds an entry leaves fewer than 2^63
abbrev pub IsCounted : Commit → Type 0
IsCounted (Added n) = n < ledger_bound
IsCounted c = Unit {0}
