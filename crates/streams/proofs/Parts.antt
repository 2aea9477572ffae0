-- Bytes in parts.
use Rattle.std.proofs.Common.{◌≡◌, Bool, true, ◌==◌, arith, ℕ, ◌<◌, ◌≤◌, sym, length, length-take, List, [], ◌++◌, take, drop, ap, ◌∙◌, append_assoc, append-nil, take-append-drop}
use Rattle.std.proofs.lemmas.Bool.{eqb-true}
use Rattle.std.proofs.lemmas.List.{take_all, drop_all, nil_from_length}

-- the pieces add up
pub fed_more : (taken rest after piece : List ℕ) (used : ℕ) → taken ++ rest ≡ piece → after ≡ drop used rest → (taken ++ take used rest) ++ after ≡ piece
fed_more taken rest after piece used e a =
    ap (λ l. (taken ++ take used rest) ++ l) a ∙ append_assoc taken (take used rest) (drop used rest) ∙ ap (λ l. taken ++ l) (take-append-drop used rest) ∙ e

-- fewer than were asked for are all that there is
pub take_short : (n : ℕ) (xs : List ℕ) → length (take n xs) < n → (take n xs ≡ xs) × (drop n xs ≡ [])
take_short n xs h = let few : length xs ≤ n = omega (arith, length-take n xs) in (take_all n xs few, drop_all n xs few)

-- an empty list by its length
pub empty_nil : (xs : List ℕ) (b : Bool) → b ≡ (length xs == 0) → b ≡ true → xs ≡ []
empty_nil xs b e t = nil_from_length xs (eqb-true (length xs) 0 (sym e ∙ t))

-- what was done is the whole once nothing is left
pub all_done : {A : Type 0} (done rest xs : List A) → rest ≡ [] → done ++ rest ≡ xs → done ≡ xs
all_done done rest xs none parts = sym (append-nil done) ∙ ap (λ z. done ++ z) (sym none) ∙ parts
