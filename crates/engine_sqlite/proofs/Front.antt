-- The front of a ledger that has one entry more than is known to be kept.
use Rattle.std.proofs.Common.{◌≡◌, ◌≤◌, refl, sym, ◌∙◌, ap, subst, ℕ, zero, suc, ◌+◌, true, false, None, List, [], ◌∷◌, ◌++◌, length, take, drop, map, get_or, length-append, arith, inl, inr}
use Rattle.std.proofs.lemmas.Bool.{cases_Bool}
use Rattle.engine.specs.Prelude.{WriteView, EntryView, TokensOnce, under_token, is_token, Free, found_from, known_by, entry_view, entries_view, write_view, writes_view}
use Rattle.std.specs.List.{AllZip}
use Rattle.std.proofs.lemmas.List.{take_more, length-map, map-append}
use Rattle.engine.specs.declared.ledger.Entry.{Entry}
use Rattle.engine.specs.declared.ledger.Write.{Write}
use Rattle.engine.proofs.Once.{under-append}

pub take_whole : {X : Type 0} (xs : List X) (n : ℕ) → length xs ≡ n → take n xs ≡ xs
take_whole [] zero e = refl
take_whole [] (suc n) e = refl
take_whole (x ∷ xs) zero e = absurd (omega (arith, e))
take_whole (x ∷ xs) (suc n) e = ap (λ t. x ∷ t) (take_whole xs n (omega (arith, e)))

pub take_front : {X : Type 0} (xs ys : List X) (n : ℕ) → length xs ≡ n → take n (xs ++ ys) ≡ xs
take_front [] [] zero e = refl
take_front [] (y ∷ ys) zero e = refl
take_front [] ys (suc n) e = absurd (omega (arith, e))
take_front (x ∷ xs) ys zero e = absurd (omega (arith, e))
take_front (x ∷ xs) ys (suc n) e = ap (λ t. x ∷ t) (take_front xs ys n (omega (arith, e)))

-- where no entry has the token, nothing is found under it
none_found : (t : List ℕ) (ws : List WriteView) (es : List EntryView) (n : ℕ) → length (under_token t es) ≤ 0 → found_from t ws es n ≡ Free
none_found t ws [] n h = refl
none_found t ws (e ∷ es) n h = elim (cases_Bool (is_token t e.token)) [
  | inl a ↦ absurd (omega (arith, rw a at h))
  | inr a ↦ rw a (none_found t ws es (suc n) (rw a at h))
]

-- an entry behind that hasn't the token changes nothing of what is found
pub found_front : (t : List ℕ) (ws : List WriteView) (es : List EntryView) (e : EntryView) (n : ℕ) → is_token t e.token ≡ false → found_from t ws (es ++ e ∷ []) n ≡ found_from t ws es n
found_front t ws [] e n h = rw h refl
found_front t ws (x ∷ es) e n h = elim (cases_Bool (is_token t x.token)) [
  | inl a ↦ rw a refl
  | inr a ↦ rw a (found_front t ws es e (suc n) h)
]

-- before an entry that has the token, of a ledger in which no two have one, nothing is found
pub found_before : (t : List ℕ) (ws : List WriteView) (es : List EntryView) (e : EntryView) (n : ℕ) → TokensOnce (es ++ e ∷ []) → is_token t e.token ≡ true → found_from t ws es n ≡ Free
found_before t ws es e n once h =
    let all : under_token t (es ++ e ∷ []) ≡ under_token t es ++ e.writes ∷ [] = under-append t es (e ∷ []) ∙ rw h refl in
    none_found t ws es n (omega (arith, once t, ap length all, length-append (under_token t es) (e.writes ∷ [])))

pub take_map : {X Y : Type 0} (f : X → Y) (n : ℕ) (xs : List X) → map f (take n xs) ≡ take n (map f xs)
take_map f zero [] = refl
take_map f zero (x ∷ xs) = refl
take_map f (suc n) [] = refl
take_map f (suc n) (x ∷ xs) = ap (λ t. f x ∷ t) (take_map f n xs)

whole : {X : Type 0} (n : ℕ) (xs : List X) → take n xs ++ drop n xs ≡ xs
whole zero [] = refl
whole zero (x ∷ xs) = refl
whole (suc n) [] = refl
whole (suc n) (x ∷ xs) = ap (λ t. x ∷ t) (whole n xs)

pub once_front : (n : ℕ) (es : List EntryView) → TokensOnce es → TokensOnce (take n es)
once_front n es once t =
    let parts : under_token t es ≡ under_token t (take n es) ++ under_token t (drop n es) = ap (under_token t) (sym (whole n es)) ∙ under-append t (take n es) (drop n es) in
    omega (arith, once t, ap length parts, length-append (under_token t (take n es)) (under_token t (drop n es)))

-- a list of one element more than n is its front and that element
pub last_split : (xs : List Entry) (n : ℕ) (x : Entry) → length (entries_view xs) ≡ n + 1 → x ≡ get_or xs n x → entries_view xs ≡ take n (entries_view xs) ++ entry_view x ∷ []
last_split xs n x l is =
    let len : length xs ≡ n + 1 = sym (length-map xs entry_view) ∙ l in
    let parts : xs ≡ take n xs ++ x ∷ [] = sym (take_whole xs (n + 1) len) ∙ take_more xs n x (omega (arith, len)) ∙ ap (λ y. take n xs ++ y ∷ []) (sym is) in
    ap entries_view parts ∙ map-append entry_view (take n xs) (x ∷ []) ∙ ap (λ ys. ys ++ entry_view x ∷ []) (take_map entry_view n xs)

-- the last entry has the token, so the front has nothing under it
pub free_of_last : (all : List EntryView) (n : ℕ) (e : EntryView) (t : List ℕ) (ws : List WriteView) → all ≡ take n all ++ e ∷ [] → TokensOnce all → is_token t e.token ≡ true → None ≡ known_by (found_from t ws (take n all) 0)
free_of_last all n e t ws parts once is = sym (ap known_by (found_before t ws (take n all) e 0 (subst TokensOnce parts once) is))

-- the last entry hasn't the token, so the front has what all have under it
pub front_of_last : (all : List EntryView) (n : ℕ) (e : EntryView) (t : List ℕ) (ws : List WriteView) → all ≡ take n all ++ e ∷ [] → is_token t e.token ≡ false → known_by (found_from t ws all 0) ≡ known_by (found_from t ws (take n all) 0)
front_of_last all n e t ws parts not = ap known_by (ap (λ es. found_from t ws es 0) parts ∙ found_front t ws (take n all) e 0 not)

-- copies are seen as what was copied
pub view_copies : (ws copies : List Write) → AllZip (λ w copy. write_view copy ≡ write_view w) ws copies → writes_view copies ≡ writes_view ws
view_copies [] [] h = refl
view_copies (w ∷ ws) (copy ∷ copies) h = ap (λ v. v ∷ writes_view copies) h.0 ∙ ap (λ vs. write_view w ∷ vs) (view_copies ws copies h.1)
view_copies _ _ h = absurd h
