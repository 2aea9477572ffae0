-- What a sink took before it failed.
use Rattle.std.specs.Prelude.{ℕ, List, Option, ◌≡◌, ◌++◌}
use Rattle.std.specs.Io.KnownBytes.{Appends}

-- a beginning of these bytes
abbrev pub AppendsFront : Option (List ℕ) → Option (List ℕ) → List ℕ → Type 0
AppendsFront old new bytes =
    (front : List ℕ) × (rest : List ℕ) × (front ++ rest ≡ bytes) × Appends old new front
