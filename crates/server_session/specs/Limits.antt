-- The limits of a session.
use Rattle.std.specs.Prelude.{ℕ}

-- the most writes of a transaction
abbrev pub max_writes : ℕ
max_writes = 1024

-- a step starts, and a no-op is put, while fewer bytes wait to go
abbrev pub max_unsent : ℕ
max_unsent = 65536
