-- The places of tokens in a ledger.
use Rattle.std.specs.Prelude.{◌≡◌, ◌<◌, ◌+◌, ◌==◌, ℕ, zero, suc, Bool, false, if◌then◌else◌, Option, Some, None, option_map, List, [], ◌∷◌, String, vec_len, vec_capacity}
use Rattle.std.specs.BTreeMap.{get, get_by_text}
use Rattle.std.specs.Hash.FoldHasher.{initial, write, finish}
use Rattle.std.specs.Ordering.{nat_cmp}
use Rattle.std.specs.Str.{bytes_eq}
use Rattle.engine.specs.Limits.{ledger_bound}
use Rattle.engine.specs.Views.{WriteView, Token, EntryView, pairs_view}
use Rattle.engine.specs.Tokens.{is_token, TokensOnce}
use Rattle.engine.specs.Table.{table, with_writes, writes_of}
use Rattle.engine.specs.declared.ledger.Entry.{Entry}
use Rattle.engine.specs.declared.places.Places.{Places}
use Rattle.indexmap.specs.IndexMap.{IndexMap}
use Rattle.std.specs.declared.alloc.Global.{Global}
use Rattle.std.specs.declared.vec.Vec.{Vec}
use Rattle.structures_cells.specs.declared.cell.Cell.{Cell}

-- the place of the first entry with a token, from 0
abbrev pub place_of : List ℕ → List EntryView → Option ℕ
place_of t [] = None
place_of t (e ∷ es) = if is_token t e.token then Some 0 else option_map suc (place_of t es)

-- the entry at a place, from 0, has a token
abbrev pub has_token_at : List EntryView → ℕ → List ℕ → Bool
has_token_at [] p t = false
has_token_at (e ∷ es) zero t = is_token t e.token
has_token_at (e ∷ es) (suc p) t = has_token_at es p t

-- the fingerprint of a token
unfoldable pub fingerprint : List ℕ → ℕ
fingerprint t = finish (write initial t)

-- the place that is kept by a fingerprint
abbrev pub first_of : Places → ℕ → Option ℕ
first_of places f = get nat_cmp places.firsts f

-- the place that is kept by a text
abbrev pub other_of : Places → List ℕ → Option ℕ
other_of places t = get_by_text places.others t

-- what these two tell of a token: nothing, if no token has its fingerprint; the first, if the entry there has the token
abbrev pub told_by : List EntryView → List ℕ → Option ℕ → Option ℕ → Option ℕ
told_by es t None other = None
told_by es t (Some p) other = if has_token_at es p t then Some p else other

-- the place that is told of a token
abbrev pub place_in : Places → List EntryView → List ℕ → Option ℕ
place_in places es t = told_by es t (first_of places (fingerprint t)) (other_of places t)

-- each token of the entries, and no other, has its place
abbrev pub HasPlaces : Places → List EntryView → Type 0
HasPlaces places es = (t : List ℕ) → place_in places es t ≡ place_of t es

-- a token that is kept by its text stands behind the first with its fingerprint
abbrev pub AreBehindFirsts : Places → Type 0
AreBehindFirsts places = (t : List ℕ) → first_of places (fingerprint t) ≡ None
    → other_of places t ≡ None

-- the place of a token that had this one before, or none, once a place is kept for a token
abbrev pub kept_at : Token → ℕ → List ℕ → Option ℕ → Option ℕ
kept_at None place q old = old
kept_at (Some t) place q old = if bytes_eq t q then Some place else old

-- the one if nothing is there, and else the other
abbrev pub where_none : Option ℕ → Option ℕ → Option ℕ → Option ℕ
where_none None free taken = free
where_none (Some p) free taken = taken

-- places that tell the same
abbrev pub IsSame : Places → Places → Type 0
IsSame old new = ((f : ℕ) → first_of new f ≡ first_of old f)
    × ((q : List ℕ) → other_of new q ≡ other_of old q)

-- places to which that of a token was added: by its fingerprint, or, where another token has that, by its text
abbrev pub IsWith : Places → Places → Token → ℕ → Type 0
IsWith old new None place = IsSame old new
IsWith old new (Some t) place =
    ((f : ℕ) → first_of new f ≡ where_none (first_of old (fingerprint t))
    (if fingerprint t == f then Some place else first_of old f) (first_of old f))
    × ((q : List ℕ) → other_of new q ≡ where_none (first_of old (fingerprint t)) (other_of old q)
    (if bytes_eq t q then Some place else other_of old q))

-- What is ready for the next entry of a ledger: room, below the bound, and its writes in the pairs.
pub record IsReady {S : Type 0} (ledger : Vec Entry Global) (old new : IndexMap (String Global) Cell S) (writes : List WriteView) : Type 0 where
  pub room : vec_len ledger < vec_capacity ledger
  pub counted : vec_len ledger + 1 < ledger_bound
  pub taken : pairs_view new ≡ with_writes (pairs_view old) writes

-- What a fixed table keeps beside its ledger: the table of its writes, the places of its tokens, by their fingerprints first; and no two entries have one token.
pub record IsKept {S : Type 0} (pairs : IndexMap (String Global) Cell S) (places : Places) (es : List EntryView) : Type 0 where
  pub table_is : pairs_view pairs ≡ table (writes_of es)
  pub places_are : HasPlaces places es
  pub behind_firsts : AreBehindFirsts places
  pub once : TokensOnce es
