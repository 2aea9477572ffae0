-- The limits of the wire.
use Rattle.std.specs.Prelude.{ℕ}

-- the most bytes of a message
abbrev pub max_message : ℕ
max_message = 65536

-- the most bytes of a chunk: its length has two bytes
abbrev pub max_chunk : ℕ
max_chunk = 65535
