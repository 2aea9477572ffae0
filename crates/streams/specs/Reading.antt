-- When a source may be read.
use Rattle.std.specs.Prelude.{◌≤◌, ℕ, List, Option}
use Rattle.streams.specs.Limits.{max_piece}

-- A source lets itself be read, of at most 4,096 bytes at once, whenever it is the turn of the end that it comes from.
abbrev pub LetsRead : {I : Type 0} → (I → Option (List ℕ) → ℕ → Type 0)
    → (I → Option (List ℕ) → Type 0) → Type 0
LetsRead {I = I} MayRead IsItsTurn =
    (s : I) (taken : Option (List ℕ)) (n : ℕ) → n ≤ max_piece → IsItsTurn s taken → MayRead s taken n
