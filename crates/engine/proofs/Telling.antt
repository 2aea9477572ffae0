-- What the places that are kept tell of tokens.
use Rattle.std.proofs.Common.{◌≡◌, refl, sym, ◌∙◌, ap, ℕ, zero, suc, ◌==◌, Bool, true, false, if◌then◌else◌, Option, Some, None, List, [], ◌∷◌, ◌++◌, length, get_or, ◌<◌, ◌≤◌, arith, bytes_eq}
use Rattle.std.proofs.lemmas.Bool.{eqb-true, eq-eqb}
use Rattle.std.proofs.lemmas.Slice.Eq.{bytes_eq-Decides}
use Rattle.engine.specs.Prelude.{is_token, has_token_at, fingerprint, first_of, other_of, told_by, place_in, kept_at, where_none, AreBehindFirsts, IsWith, Token, EntryView, entries_view, token_view}
use Rattle.engine.specs.declared.ledger.Entry.{Entry}
use Rattle.engine.specs.declared.places.Places.{Places}

-- one entry more, without the token
push_other : (t : List ℕ) (es : List EntryView) (e : EntryView) (p : ℕ) → is_token t e.token ≡ false → has_token_at (es ++ e ∷ []) p t ≡ has_token_at es p t
push_other t [] e zero h = h
push_other t (x ∷ es) e (suc p) h = push_other t es e p h
push_other t _ e _ h = refl

push_last : (t : List ℕ) (es : List EntryView) (e : EntryView) → has_token_at (es ++ e ∷ []) (length es) t ≡ is_token t e.token
push_last t [] e = refl
push_last t (x ∷ es) e = push_last t es e

-- with the token only at its own place, where none had it before
push_at : (t : List ℕ) (es : List EntryView) (e : EntryView) (p : ℕ) → has_token_at es p t ≡ false → has_token_at (es ++ e ∷ []) p t ≡ true → p ≡ length es
push_at t [] e zero n y = refl
push_at t [] e (suc p) n y = absurd cc
push_at t (x ∷ es) e zero n y = absurd (let z : false ≡ true = sym n ∙ y in cc)
push_at t (x ∷ es) e (suc p) n y = ap suc (push_at t es e p n y)

told_other : (t : List ℕ) (es : List EntryView) (e : EntryView) (a b : Option ℕ) → is_token t e.token ≡ false → told_by (es ++ e ∷ []) t a b ≡ told_by es t a b
told_other t es e None b h = refl
told_other t es e (Some p) b h = ap (λ c. if c then Some p else b) (push_other t es e p h)

told_free : (t : List ℕ) (es : List EntryView) (p : ℕ) (b : Option ℕ) → told_by es t (Some p) b ≡ None → has_token_at es p t ≡ false
told_free t es p b h = go (has_token_at es p t) refl h
  where
    go : (c : Bool) → has_token_at es p t ≡ c → (if c then Some p else b) ≡ None → has_token_at es p t ≡ false
    go true e h = absurd cc
    go false e h = e

-- what is told of q once a token is kept: by the first of the token's fingerprint, that of q's own, and what is kept by q's text
told_with : (q : List ℕ) (es : List EntryView) (e : EntryView) (first own other : Option ℕ) (same alike : Bool)
    → is_token q e.token ≡ same → (same ≡ true → alike ≡ true) → (alike ≡ true → own ≡ first) → (own ≡ None → other ≡ None) → (same ≡ true → told_by es q own other ≡ None)
    → told_by (es ++ e ∷ []) q (where_none first (if alike then Some (length es) else own) own) (where_none first other (if same then Some (length es) else other))
    ≡ (if same then Some (length es) else told_by es q own other)
told_with q es e None own other true true i a o b f = ap (λ c. if c then Some (length es) else other) (push_last q es e ∙ i)
told_with q es e None own other true false i a o b f = absurd (let z : false ≡ true = a refl in cc)
told_with q es e None own other false true i a o b f =
    ap (λ c. if c then Some (length es) else other) (push_last q es e ∙ i) ∙ b (o refl) ∙ ap (λ x. told_by es q x other) (sym (o refl))
told_with q es e (Some p) own other true alike i a o b f = ap (λ x. told_by (es ++ e ∷ []) q x (Some (length es))) is ∙ last (has_token_at (es ++ e ∷ []) p q) refl
  where
    is : own ≡ Some p
    is = o (a refl)

    last : (c : Bool) → has_token_at (es ++ e ∷ []) p q ≡ c → (if c then Some p else Some (length es)) ≡ Some (length es)
    last true h = ap Some (push_at q es e p (told_free q es p other (ap (λ x. told_by es q x other) (sym is) ∙ f refl)) h)
    last false h = refl
told_with q es e _ own other _ _ i a o b f = told_other q es e own other i

-- equal tokens have one fingerprint, and those of one fingerprint one first
alike : (t q : List ℕ) → bytes_eq t q ≡ true → (fingerprint t == fingerprint q) ≡ true
alike t q s = eq-eqb (fingerprint t) (fingerprint q) (ap fingerprint ((bytes_eq-Decides t q).0 s))

first_is : (places : Places) (t q : List ℕ) → (fingerprint t == fingerprint q) ≡ true → first_of places (fingerprint q) ≡ first_of places (fingerprint t)
first_is places t q a = ap (first_of places) (sym (eqb-true (fingerprint t) (fingerprint q) a))

-- An entry whose token was free, with its place.
pub told_on : (old new : Places) (es : List EntryView) (e : EntryView) → IsWith old new e.token (length es) → AreBehindFirsts old → ((t : List ℕ) → e.token ≡ Some t → place_in old es t ≡ None)
    → (q : List ℕ) → place_in new (es ++ e ∷ []) q ≡ kept_at e.token (length es) q (place_in old es q)
told_on old new es e with behind free q = go e.token refl with free
  where
    go : (o : Token) → e.token ≡ o → IsWith old new o (length es) → ((t : List ℕ) → o ≡ Some t → place_in old es t ≡ None) → place_in new (es ++ e ∷ []) q ≡ kept_at o (length es) q (place_in old es q)
    go None h w f = rw (w.0 (fingerprint q), w.1 q) (told_other q es e (first_of old (fingerprint q)) (other_of old q) (ap (is_token q) h))
    go (Some t) h w f =
        rw (w.0 (fingerprint q), w.1 q)
        (told_with q es e (first_of old (fingerprint t)) (first_of old (fingerprint q)) (other_of old q) (bytes_eq t q) (fingerprint t == fingerprint q)
        (ap (is_token q) h) (alike t q) (first_is old t q) (behind q) (λ s. ap (place_in old es) (sym ((bytes_eq-Decides t q).0 s)) ∙ f t refl))

behind_step : (first own other : Option ℕ) (place : ℕ) (same alike : Bool) → (same ≡ true → alike ≡ true) → (alike ≡ true → own ≡ first) → (own ≡ None → other ≡ None)
    → where_none first (if alike then Some place else own) own ≡ None → where_none first other (if same then Some place else other) ≡ None
behind_step None own other place same true a o b h = absurd cc
behind_step (Some p) own other place true alike a o b h = absurd (let z : Some p ≡ None = sym (o (a refl)) ∙ h in cc)
behind_step _ own other place _ _ a o b h = b h

-- with the place of a token more, what is kept by its text still stands behind a first
pub behind_on : (old new : Places) (token : Token) (place : ℕ) → IsWith old new token place → AreBehindFirsts old → AreBehindFirsts new
behind_on old new None place with behind q h = with.1 q ∙ behind q (sym (with.0 (fingerprint q)) ∙ h)
behind_on old new (Some t) place with behind q h =
    with.1 q
    ∙ behind_step (first_of old (fingerprint t)) (first_of old (fingerprint q)) (other_of old q) place (bytes_eq t q) (fingerprint t == fingerprint q)
    (alike t q) (first_is old t q) (behind q) (sym (with.0 (fingerprint q)) ∙ h)

-- whether the entry that a place names has the token
pub token_there : (es : List Entry) (p : ℕ) (t : List ℕ) (e : Entry) → p < length es → e ≡ get_or es p e → is_token t (token_view e.token) ≡ has_token_at (entries_view es) p t
token_there [] p t e h g = absurd (omega (arith, h))
token_there (x ∷ es) zero t e h g = ap (λ (y : Entry). is_token t (token_view y.token)) g
token_there (x ∷ es) (suc p) t e h g = token_there es p t e (omega (arith, h)) g

pub token_nowhere : (es : List Entry) (p : ℕ) (t : List ℕ) → length es ≤ p → false ≡ has_token_at (entries_view es) p t
token_nowhere [] p t h = refl
token_nowhere (x ∷ es) zero t h = absurd (omega (arith, h))
token_nowhere (x ∷ es) (suc p) t h = token_nowhere es p t (omega (arith, h))
