-- The limits of streams.
use Rattle.std.specs.Prelude.{ℕ}

-- the most bytes that are read at once
abbrev pub max_piece : ℕ
max_piece = 4096
