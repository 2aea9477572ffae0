-- The member of a row under a name.
use Rattle.std.proofs.Common.{◌≡◌, refl, sym, ◌∙◌, ap, ℕ, zero, suc, ◌+◌, ◌<◌, ◌≤◌, false, Some, None, List, [], ◌∷◌, length, drop, get_or, arith}
use Rattle.std.proofs.lemmas.Bool.{cond-false}
use Rattle.std.proofs.lemmas.List.{drop_all}
use Rattle.structures.specs.declared.Cell.{Cell}
use Rattle.driver.specs.Values.{is_text, column}

next_suc : (name : List ℕ) (fs cs : List Cell) (i : ℕ) (f : Cell) → i < length fs → i < length cs → f ≡ get_or fs i f → is_text name f ≡ false → column name (drop (suc i) fs) (drop (suc i) cs) ≡ column name (drop i fs) (drop i cs)
next_suc name [] cs i f l m e t = absurd (omega (arith, l))
next_suc name (x ∷ fs) [] i f l m e t = absurd (omega (arith, m))
next_suc name (x ∷ fs) (y ∷ cs) zero f l m e t = sym (cond-false (is_text name x) (Some y) (column name fs cs) (ap (is_text name) (sym e) ∙ t))
next_suc name (x ∷ fs) (y ∷ cs) (suc i) f l m e t = next_suc name fs cs i f (omega (arith, l)) (omega (arith, m)) e t

pub column_next : (name : List ℕ) (fs cs : List Cell) (i : ℕ) (f : Cell) → i < length fs → i < length cs → f ≡ get_or fs i f → is_text name f ≡ false → column name (drop (i + 1) fs) (drop (i + 1) cs) ≡ column name (drop i fs) (drop i cs)
column_next name fs cs i f l m e t =
    let on : i + 1 ≡ suc i = omega arith in
    ap (λ n. column name (drop n fs) (drop n cs)) on ∙ next_suc name fs cs i f l m e t

no_column : (name : List ℕ) (fs : List Cell) → column name fs [] ≡ None
no_column name [] = refl
no_column name (f ∷ fs) = refl

pub row_ends : (name : List ℕ) (fs cs : List Cell) (i : ℕ) → length cs ≤ i → column name (drop i fs) (drop i cs) ≡ None
row_ends name fs cs i h = ap (column name (drop i fs)) (drop_all i cs h) ∙ no_column name (drop i fs)
