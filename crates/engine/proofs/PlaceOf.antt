-- The place of a token tells what a ledger has of it.
use Rattle.std.proofs.Common.{◌≡◌, ◌<◌, refl, sym, ◌∙◌, ap, ℕ, suc, ◌+◌, Bool, true, false, if◌then◌else◌, Option, Some, None, option_map, List, [], ◌∷◌, ◌++◌, length, get_or, arith}
use Rattle.std.specs.Option.{option_or}
use Rattle.engine.specs.Prelude.{known_by, same_writes, is_token, Found, Free, There, Other, found_from, found_in, place_of, kept_at, WriteView, Token, EntryView, writes_view, entry_view, entries_view}
use Rattle.engine.specs.declared.ledger.Entry.{Entry}
use Rattle.engine.specs.declared.ledger.Commit.{Commit}
use Rattle.engine.specs.declared.ledger.Commit.TheVariants.{Repeat, Clash}
use Rattle.engine.proofs.Finding.{view_at}
use Rattle.engine.proofs.Once.{is_the_token}

-- what a ledger has of writes, by the place of their token
abbrev found_by : List WriteView → List EntryView → EntryView → ℕ → Option ℕ → Found
found_by w es d n None = Free
found_by w es d n (Some i) = if same_writes (get_or es i d).writes w then There (suc (n + i)) else Other

found_placed : (t : List ℕ) (w : List WriteView) (d : EntryView) (es : List EntryView) (n : ℕ) → found_from t w es n ≡ found_by w es d n (place_of t es)
found_placed t w d [] n = refl
found_placed t w d (e ∷ es) n = go (is_token t e.token) (place_of t es) (found_placed t w d es (suc n))
  where
    go : (b : Bool) (o : Option ℕ) → found_from t w es (suc n) ≡ found_by w es d (suc n) o
        → (if b then (if same_writes e.writes w then There (suc n) else Other) else found_from t w es (suc n)) ≡ found_by w (e ∷ es) d n (if b then Some 0 else option_map suc o)
    go true o h = ap (λ m. if same_writes e.writes w then There (suc m) else Other) (omega arith)
    go false None h = h
    go false (Some i) h = h ∙ ap (λ m. if same_writes (get_or es i d).writes w then There (suc m) else Other) (omega arith)

-- a place is that of an entry
pub place_within : (t : List ℕ) (es : List EntryView) (i : ℕ) → place_of t es ≡ Some i → i < length es
place_within t [] i h = absurd cc
place_within t (e ∷ es) i h = go (is_token t e.token) (place_of t es) h (λ j. place_within t es j)
  where
    go : (b : Bool) (o : Option ℕ) → (if b then Some 0 else option_map suc o) ≡ Some i → ((j : ℕ) → o ≡ Some j → j < length es) → i < suc (length es)
    go true o h f = let z : 0 ≡ i = cc in omega arith
    go false None h f = absurd cc
    go false (Some j) h f = let z : suc j ≡ i = cc in omega (arith, f j refl)

-- one entry more
place_push : (t : List ℕ) (es : List EntryView) (e : EntryView) → place_of t (es ++ e ∷ []) ≡ option_or (place_of t es) (if is_token t e.token then Some (length es) else None)
place_push t [] e = refl
place_push t (x ∷ es) e = go (is_token t x.token) (place_of t es) (is_token t e.token) (place_push t es e)
  where
    go : (b : Bool) (o : Option ℕ) (l : Bool) → place_of t (es ++ e ∷ []) ≡ option_or o (if l then Some (length es) else None)
        → (if b then Some 0 else option_map suc (place_of t (es ++ e ∷ []))) ≡ option_or (if b then Some 0 else option_map suc o) (if l then Some (suc (length es)) else None)
    go true o l h = refl
    go false None true h = ap (option_map suc) h
    go _ _ _ h = ap (option_map suc) h

-- a token that was free has no place
pub free_unplaced : (es : List EntryView) (e : EntryView) (t : List ℕ) → found_in e.token e.writes es ≡ Free → e.token ≡ Some t → place_of t es ≡ None
free_unplaced es e t free is = go (place_of t es) (sym (found_placed t e.writes e es 0) ∙ ap (λ o. found_in o e.writes es) (sym is) ∙ free)
  where
    either : (b : Bool) (n i : ℕ) → (if b then There n else Other) ≡ Free → Some i ≡ None
    either true n i h = cc
    either false n i h = cc

    go : (o : Option ℕ) → found_by e.writes es e 0 o ≡ Free → o ≡ None
    go None h = refl
    go (Some i) h = either (same_writes (get_or es i e).writes e.writes) (suc (0 + i)) i h

-- An entry whose token was free, and its place.
pub kept_on : (es : List EntryView) (e : EntryView) (places new : List ℕ → Option ℕ) → found_in e.token e.writes es ≡ Free → ((t : List ℕ) → places t ≡ place_of t es)
    → ((t : List ℕ) → new t ≡ kept_at e.token (length es) t (places t)) → (t : List ℕ) → new t ≡ place_of t (es ++ e ∷ [])
kept_on es e places new free each n t = n t ∙ tested e.token ∙ by (is_token t e.token) refl ∙ sym (place_push t es e)
  where
    tested : (o : Token) → kept_at o (length es) t (places t) ≡ (if is_token t o then Some (length es) else places t)
    tested None = refl
    tested (Some s) = refl

    or_none : (o : Option ℕ) → o ≡ option_or o None
    or_none None = refl
    or_none (Some v) = refl

    by : (b : Bool) → is_token t e.token ≡ b → (if b then Some (length es) else places t) ≡ option_or (place_of t es) (if b then Some (length es) else None)
    by true h = ap (λ o. option_or o (Some (length es))) (sym (free_unplaced es e t free (is_the_token t e.token h)))
    by false h = each t ∙ or_none (place_of t es)

-- what a place tells of writes
pub none_found : (t : List ℕ) (w : List WriteView) (es : List EntryView) → place_of t es ≡ None → found_from t w es 0 ≡ Free
none_found t w es h =
    let any : EntryView = record { conn = 0; ordinal = 0; writes = []; token = None } in
    found_placed t w any es 0 ∙ ap (found_by w es any 0) h

pub known_at : (t : List ℕ) (w : List WriteView) (items : List Entry) (i : ℕ) (d : Entry) (c : Commit) → place_of t (entries_view items) ≡ Some i → d ≡ get_or items i d
    → c ≡ (if same_writes (writes_view d.writes.items) w then Repeat (i + 1) else Clash) → known_by (found_in (Some t) w (entries_view items)) ≡ Some c
known_at t w items i d c h is told =
    ap known_by (found_placed t w (entry_view d) (entries_view items) 0 ∙ ap (found_by w (entries_view items) (entry_view d) 0) h)
    ∙ ap (λ (x : EntryView). known_by (if same_writes x.writes w then There (suc (0 + i)) else Other)) (view_at entry_view items i d is)
    ∙ go (same_writes (writes_view d.writes.items) w) ∙ ap (λ x. Some x) (sym told)
  where
    go : (b : Bool) → known_by (if b then There (suc (0 + i)) else Other) ≡ Some (if b then Repeat (i + 1) else Clash)
    go true = ap (λ n. Some (Repeat n)) (omega arith)
    go false = refl

pub known_free : (f : Found) → known_by f ≡ None → f ≡ Free
known_free Free h = refl
known_free _ h = absurd cc
