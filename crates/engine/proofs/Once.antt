-- No two entries have one token, and what was answered Added or Repeat is in the ledger.
use Rattle.std.proofs.Common.{◌≡◌, ◌≤◌, refl, sym, ◌∙◌, ap, subst, ℕ, suc, ◌+◌, Bool, true, false, ◌&&◌, Some, None, List, [], ◌∷◌, ◌++◌, length, length-append, append-nil, slice_get, bytes_eq, arith, true≢false, inl, inr}
use Rattle.std.proofs.lemmas.Bool.{and_parts, and_from, and_right, cases_Bool}
use Rattle.std.proofs.lemmas.List.{length-map}
use Rattle.std.proofs.lemmas.Slice.Eq.{bytes_eq-Decides}
use Rattle.structures_cells.specs.Prelude.{same_tree}
use Rattle.structures_cells.proofs.Equality.{bytes_are, bytes_is, trees_are, tree_is}
use Rattle.engine.specs.Prelude.{after_commit, answer_to, after_commits, is_in, AnswersByToken, CommitsOnce, is_token, same_writes, under_token, TokensOnce, Found, Free, There, Other, found_from, found_in, commit_by, added_by, WriteView, Token, EntryView, write_view, writes_view}
use Rattle.engine.specs.declared.ledger.Write.{Write}
use Rattle.engine.specs.declared.ledger.Commit.TheVariants.{Repeat, Clash}

-- writes are the same exactly where they are equal
pub writes_are : (xs ys : List WriteView) → same_writes xs ys ≡ true → xs ≡ ys
writes_are [] [] h = refl
writes_are (x ∷ xs) (y ∷ ys) h =
    let r = and_parts (bytes_eq x.0 y.0) (same_tree x.1 y.1 && same_writes xs ys) h in
    let p = and_parts (same_tree x.1 y.1) (same_writes xs ys) r.1 in
    let k : x.0 ≡ y.0 = bytes_are x.0 y.0 r.0 in
    let v : x.1 ≡ y.1 = trees_are x.1 y.1 p.0 in
    let w : xs ≡ ys = writes_are xs ys p.1 in
    λ i. (k i, v i) ∷ w i
writes_are _ _ h = cc

pub writes_is : (xs : List WriteView) → same_writes xs xs ≡ true
writes_is [] = refl
writes_is (x ∷ xs) = and_from _ _ (bytes_is x.0) (and_from _ _ (tree_is x.1) (writes_is xs))

same_is : (xs ys : List WriteView) → xs ≡ ys → same_writes xs ys ≡ true
same_is xs ys e = subst (λ zs. same_writes xs zs ≡ true) e (writes_is xs)

-- writes of other lengths are not the same
pub same_short : (xs ys : List WriteView) → (length xs ≡ length ys → ⊥) → same_writes xs ys ≡ false
same_short [] [] h = absurd (h refl)
same_short (x ∷ xs) (y ∷ ys) h =
    and_right (bytes_eq x.0 y.0) (same_tree x.1 y.1 && same_writes xs ys)
    (and_right (same_tree x.1 y.1) (same_writes xs ys) (same_short xs ys (λ e. h (ap suc e))))
same_short _ _ h = refl

pub same_apart : (xs ys : List Write) → (length xs ≡ length ys → ⊥) → false ≡ same_writes (writes_view xs) (writes_view ys)
same_apart xs ys h = sym (same_short (writes_view xs) (writes_view ys) (λ e. h (sym (length-map xs write_view) ∙ e ∙ length-map ys write_view)))

-- the test of a token says exactly that it is that one
pub is_the_token : (t : List ℕ) (o : Token) → is_token t o ≡ true → o ≡ Some t
is_the_token t None h = absurd cc
is_the_token t (Some s) h = ap Some ((bytes_eq-Decides s t).0 h)

pub the_token_is : (t : List ℕ) (o : Token) → o ≡ Some t → is_token t o ≡ true
the_token_is t None h = absurd cc
the_token_is t (Some s) h = let z : s ≡ t = cc in (bytes_eq-Decides s t).1 z

pub under-append : (t : List ℕ) (xs ys : List EntryView) → under_token t (xs ++ ys) ≡ under_token t xs ++ under_token t ys
under-append t [] ys = refl
under-append t (e ∷ xs) ys = elim (cases_Bool (is_token t e.token)) [
  | inl h ↦ rw h (ap (λ z. e.writes ∷ z) (under-append t xs ys))
  | inr h ↦ rw h (under-append t xs ys)
]

-- these writes are among those under the token
abbrev pub Has : List (List WriteView) → List WriteView → Type 0
Has xs w = (a : List (List WriteView)) × (b : List (List WriteView)) × (xs ≡ a ++ w ∷ b)

pub only : (xs : List (List WriteView)) (w : List WriteView) → Has xs w → length xs ≤ 1 → xs ≡ w ∷ []
only xs w h l = go h.0 h.1 h.2
  where
    go : (a b : List (List WriteView)) → xs ≡ a ++ w ∷ b → xs ≡ w ∷ []
    go [] [] e = e
    go [] (y ∷ b) e = let n = ap length e in absurd (omega arith)
    go (x ∷ a) b e = let n = ap length e in absurd (omega (arith, length-append a (w ∷ b)))

-- the entry that was found
abbrev pub At : List EntryView → List ℕ → List WriteView → ℕ → Type 0
At es t w n = (k : ℕ) × (e : EntryView) × (n ≡ suc k) × (slice_get es k ≡ Some e) × (e.token ≡ Some t) × (e.writes ≡ w)

-- what is found tells of the writes under the token: there are none; equal ones are there, with an entry; others are
abbrev Tells : List ℕ → List WriteView → List EntryView → ℕ → Found → Type 0
Tells t w es n Free = under_token t es ≡ []
Tells t w es n (There m) = Has (under_token t es) w × ((k : ℕ) × (e : EntryView) × (m ≡ suc (n + k)) × (slice_get es k ≡ Some e) × (e.token ≡ Some t) × (e.writes ≡ w))
Tells t w es n Other = (x : List WriteView) × Has (under_token t es) x × ((x ≡ w) → ⊥)

found_tells : (t : List ℕ) (w : List WriteView) (es : List EntryView) (n : ℕ) → Tells t w es n (found_from t w es n)
found_tells t w [] n = refl
found_tells t w (e ∷ es) n = elim (cases_Bool (is_token t e.token)) [
  | inl a ↦ elim (cases_Bool (same_writes e.writes w)) [
    | inl b ↦
        let same = writes_are e.writes w b in
        rw (a, b, a) (([], under_token t es, ap (λ z. z ∷ under_token t es) same), (0, e, omega arith, refl, is_the_token t e.token a, same))
    | inr b ↦ rw (a, b, a) (e.writes, ([], under_token t es, refl), (λ z. true≢false (sym (same_is e.writes w z) ∙ b)))
  ]
  | inr a ↦ rw a (later a (found_from t w es (suc n)) (found_tells t w es (suc n)))
]
  where
    later : is_token t e.token ≡ false → (f : Found) → Tells t w es (suc n) f → Tells t w (e ∷ es) n f
    later a Free h = rw a h
    later a (There m) h = (rw a h.0, (suc h.1.0, h.1.1, omega (arith, h.1.2), h.1.3, h.1.4, h.1.5))
    later a Other h = (h.0, rw a h.1, h.2)

pub found_has : (t : List ℕ) (w : List WriteView) (es : List EntryView) (n m : ℕ) → found_from t w es n ≡ There m → Has (under_token t es) w
found_has t w es n m h = (subst (λ f. Tells t w es n f) h (found_tells t w es n)).0

pub found_at : (t : List ℕ) (w : List WriteView) (es : List EntryView) (m : ℕ) → found_from t w es 0 ≡ There m → At es t w m
found_at t w es m h = let r = (subst (λ f. Tells t w es 0 f) h (found_tells t w es 0)).1 in (r.0, r.1, omega (arith, r.2), r.3, r.4, r.5)

-- what a ledger has of this commit, by its token
told_of : (es : List EntryView) (c : EntryView) (t : List ℕ) (f : Found) → c.token ≡ Some t → found_in c.token c.writes es ≡ f → Tells t c.writes es 0 f
told_of es c t f e h = subst (λ g. Tells t c.writes es 0 g) (ap (λ o. found_in o c.writes es) (sym e) ∙ h) (found_tells t c.writes es 0)

-- a ledger keeps its tokens apart
pub once_after : (es : List EntryView) (c : EntryView) → TokensOnce es → TokensOnce (after_commit es c)
once_after es c once = go (found_in c.token c.writes es) refl
  where
    added : (t : List ℕ) (b : Bool) → is_token t c.token ≡ b → found_in c.token c.writes es ≡ Free → length (under_token t (es ++ c ∷ [])) ≤ 1
    added t true e h =
        let none : under_token t es ≡ [] = told_of es c t Free (is_the_token t c.token e) h in
        let all : under_token t (es ++ c ∷ []) ≡ c.writes ∷ [] = under-append t es (c ∷ []) ∙ rw (none, e) refl in
        omega (arith, ap length all)
    added t false e h =
        let all : under_token t (es ++ c ∷ []) ≡ under_token t es = under-append t es (c ∷ []) ∙ rw e (append-nil (under_token t es)) in
        omega (arith, ap length all, once t)

    go : (f : Found) → found_in c.token c.writes es ≡ f → TokensOnce (es ++ added_by c f)
    go Free h t = added t (is_token t c.token) refl h
    go f h t = subst TokensOnce (sym (append-nil es)) once t

-- what stands under a token stays
pub stays : (es : List EntryView) (c : EntryView) (t : List ℕ) (w : List WriteView) → TokensOnce es → under_token t es ≡ w ∷ [] → under_token t (after_commit es c) ≡ w ∷ []
stays es c t w once h = only (under_token t (after_commit es c)) w (go (found_in c.token c.writes es)) (once_after es c once t)
  where
    go : (f : Found) → Has (under_token t (es ++ added_by c f)) w
    go f = ([], under_token t (added_by c f), under-append t es (added_by c f) ∙ ap (λ l. l ++ under_token t (added_by c f)) h)

-- what was answered stands
stands_after : (es : List EntryView) (c : EntryView) (t : List ℕ) → TokensOnce es → c.token ≡ Some t → is_in (answer_to es c) ≡ true → under_token t (after_commit es c) ≡ c.writes ∷ []
stands_after es c t once e = go (found_in c.token c.writes es) refl
  where
    go : (f : Found) → found_in c.token c.writes es ≡ f → is_in (commit_by (length es) f) ≡ true → under_token t (es ++ added_by c f) ≡ c.writes ∷ []
    go Free h s =
        let none : under_token t es ≡ [] = told_of es c t Free e h in
        under-append t es (c ∷ []) ∙ rw (none, the_token_is t c.token e) refl
    go (There n) h s = ap (under_token t) (append-nil es) ∙ only (under_token t es) c.writes (told_of es c t (There n) e h).0 (once t)
    go Other h s = absurd cc

all_once : (es cs : List EntryView) → TokensOnce es → TokensOnce (after_commits es cs)
all_once es [] once = once
all_once es (c ∷ cs) once = all_once (after_commit es c) cs (once_after es c once)

all_stay : (es cs : List EntryView) (t : List ℕ) (w : List WriteView) → TokensOnce es → under_token t es ≡ w ∷ [] → under_token t (after_commits es cs) ≡ w ∷ []
all_stay es [] t w once h = h
all_stay es (c ∷ cs) t w once h = all_stay (after_commit es c) cs t w (once_after es c once) (stays es c t w once h)

in_turn : (es xs ys : List EntryView) → after_commits es (xs ++ ys) ≡ after_commits (after_commits es xs) ys
in_turn es [] ys = refl
in_turn es (x ∷ xs) ys = in_turn (after_commit es x) xs ys

pub answers_by_token : AnswersByToken
answers_by_token es c t once e =
    record {
      once = once_after es c once;
      added = λ n h. stands_after es c t once e (ap is_in h);
      repeated = λ n h. repeats (found_in c.token c.writes es) refl n h;
      clash = λ h. clashes (found_in c.token c.writes es) refl h;
    }
  where
    repeats : (f : Found) → found_in c.token c.writes es ≡ f → (n : ℕ) → commit_by (length es) f ≡ Repeat n → (under_token t es ≡ c.writes ∷ []) × (es ++ added_by c f ≡ es) × At es t c.writes n
    repeats (There m) h n a =
        let told = told_of es c t (There m) e h in
        let r = told.1 in
        let z : m ≡ n = cc in
        (only (under_token t es) c.writes told.0 (once t), append-nil es, (r.0, r.1, omega (arith, z, r.2), r.3, r.4, r.5))
    repeats _ h n a = absurd cc

    clashes : (f : Found) → found_in c.token c.writes es ≡ f → commit_by (length es) f ≡ Clash → (es ++ added_by c f ≡ es) × ((w : List WriteView) × (under_token t es ≡ w ∷ []) × ((w ≡ c.writes) → ⊥))
    clashes Other h a = let r = told_of es c t Other e h in (append-nil es, (r.0, only (under_token t es) r.0 r.1 (once t), r.2))
    clashes _ h a = absurd cc

pub commits_once : CommitsOnce
commits_once brought once before c later t e =
    let es = after_commits brought before in
    let o : TokensOnce es = all_once brought before once in (
      all_once brought (before ++ c ∷ later) once,
      (λ s. ap (under_token t) (in_turn brought before (c ∷ later)) ∙ all_stay (after_commit es c) later t c.writes (once_after es c o) (stands_after es c t o e s)),
    )
