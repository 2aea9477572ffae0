-- The first pair of a dictionary whose key stands before it too. Private functions and proofs alone need it.
use Rattle.std.specs.Prelude.{◌≡◌, ◌<◌, ◌≤◌, ℕ, List, [], length, take, map, get_or, Bool, true, false, String, string_bytes}
use Rattle.std.proofs.Common.{Global}
use Rattle.packstream.specs.declared.value.Value.{Value}
use Rattle.packstream.specs.Good.{is_among}

-- a key of a dictionary and its value
abbrev pub Pair : Type 0
Pair = String Global × Value

-- the keys of pairs, in order, by their bytes
abbrev pub names : {A : Type 0} → List (String Global × A) → List (List ℕ)
names es = map (λ e. string_bytes e.0) es

-- the key of the pair with this index is one of those before it
abbrev pub stands_before : {A : Type 0} → List (String Global × A) → ℕ → Bool
stands_before es k = is_among (get_or (names es) k []) (names (take k es))

-- n is the index of the first such pair, or the number of pairs if there is none
pub record IsFirstTwin {A : Type 0} (es : List (String Global × A)) (n : ℕ) : Type 0 where
  pub within : n ≤ length es
  pub fresh : (k : ℕ) → k < n → stands_before es k ≡ false
  pub twin : n < length es → stands_before es n ≡ true
