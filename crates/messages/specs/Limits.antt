-- The limits of messages.
use Rattle.std.specs.Prelude.{ℕ}

-- the most bytes of a token
abbrev pub max_token : ℕ
max_token = 64
