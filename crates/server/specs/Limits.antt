-- The limits of a server.
use Rattle.std.specs.Prelude.{ℕ, ◌^◌}

-- the most sessions that live
abbrev pub max_sessions : ℕ
max_sessions = 16

-- the numbers of connections are below this
abbrev pub max_numbers : ℕ
max_numbers = 2 ^ 63
