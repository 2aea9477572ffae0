-- The bytes that a call has moved, in the history of its stream.
use Rattle.std.specs.Prelude.{◌≡◌, ℕ, List, ◌++◌, take, Result, MatchResult}

-- A call that returns `Ok(n)` has moved the first n of these bytes, and one that fails has moved none.
abbrev pub Moves : {E : Type 0} → List ℕ → List ℕ → Result ℕ E → List ℕ → Type 0
Moves old new r bytes = MatchResult r (λ n. new ≡ old ++ take n bytes) (λ _. new ≡ old)

-- the history grows by a prefix of these bytes
abbrev pub MovesFront : List ℕ → List ℕ → List ℕ → Type 0
MovesFront old new bytes =
    (front : List ℕ) × (rest : List ℕ) × (front ++ rest ≡ bytes) × (new ≡ old ++ front)

-- the history grows by these bytes
abbrev pub Grows : List ℕ → List ℕ → List ℕ → Type 0
Grows old new bytes = new ≡ old ++ bytes
