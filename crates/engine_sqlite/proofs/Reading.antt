-- Rows that are shown, and one more.
use Rattle.std.proofs.Common.{◌≡◌, ◌<◌, refl, sym, ap, subst, ◌∙◌, ℕ, suc, ◌+◌, List, [], ◌∷◌, ◌++◌, length, take, get_or, arith}
use Rattle.std.proofs.lemmas.List.{length-take-le, take_more}
use Rattle.engine.specs.Views.{EntryView}
use Rattle.engine_sqlite.specs.Shown.{AreShownAs, IsShownAs, TakesRow}
use Rattle.sqlite.specs.Order.{Row}

-- a row more
pub shown_more : (n m : ℕ) (old new : List EntryView) (rows : List Row) (row : Row) → m ≡ n + length old → AreShownAs n old rows → TakesRow m row old new → AreShownAs n new (rows ++ row ∷ [])
shown_more n m old new rows row is h taken = subst (λ es. AreShownAs n es (rows ++ row ∷ [])) (sym taken.2) (go n old rows is h)
  where
    go : (k : ℕ) (es : List EntryView) (rs : List Row) → m ≡ k + length es → AreShownAs k es rs → AreShownAs k (es ++ taken.0 ∷ []) (rs ++ row ∷ [])
    go k [] [] at all = (subst (λ i. IsShownAs i taken.0 row) (at ∙ omega arith) taken.1, tt)
    go k (e ∷ es) (r ∷ rs) at all = (all.0, go (suc k) es rs (at ∙ omega arith) all.1)
    go k [] (r ∷ rs) at all = absurd all
    go k (e ∷ es) [] at all = absurd all

-- as many rows as entries
pub as_many : (n : ℕ) (es : List EntryView) (rows : List Row) → AreShownAs n es rows → length es ≡ length rows
as_many n [] [] h = refl
as_many n (e ∷ es) (r ∷ rows) h = ap suc (as_many (suc n) es rows h.1)
as_many n [] (r ∷ rows) h = absurd h
as_many n (e ∷ es) [] h = absurd h

-- the next of the rows
pub shown_next : (rows : List Row) (at : ℕ) (row : Row) (old new : List EntryView) → at < length rows → row ≡ get_or rows at row → AreShownAs 1 old (take at rows)
    → TakesRow (at + 1) row old new → AreShownAs 1 new (take (at + 1) rows)
shown_next rows at row old new within is h taken =
    let parts : take (at + 1) rows ≡ take at rows ++ row ∷ [] = take_more rows at row within ∙ ap (λ r. take at rows ++ r ∷ []) (sym is) in
    let many : length old ≡ at = as_many 1 old (take at rows) h ∙ length-take-le at rows (omega (arith, within)) in
    subst (AreShownAs 1 new) (sym parts) (shown_more 1 (at + 1) old new (take at rows) row (omega (arith, many)) h taken)
