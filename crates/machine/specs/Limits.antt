-- The limits of a connection's requests.
use Rattle.std.specs.Prelude.{ℕ, ◌^◌}

-- the most requests that wait for their answers
abbrev pub max_waiting : ℕ
max_waiting = 32

-- the ordinals of requests are below this
abbrev pub max_ordinals : ℕ
max_ordinals = 2 ^ 63
