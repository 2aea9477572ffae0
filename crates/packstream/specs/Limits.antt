-- The limits of values.
use Rattle.std.specs.Prelude.{ℕ}

-- how many lists, dictionaries and structures may stand around each other
abbrev pub max_depth : ℕ
max_depth = 32

-- the most bytes of a value that is written
abbrev pub max_size : ℕ
max_size = 65536
