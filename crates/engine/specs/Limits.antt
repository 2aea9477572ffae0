-- The limits of an engine.
use Rattle.std.specs.Prelude.{ℕ, ◌^◌}

-- the most rows of an answer
abbrev pub max_rows : ℕ
max_rows = 1024

-- the most bytes of the name that a server tells
abbrev pub max_agent : ℕ
max_agent = 40

-- a ledger has fewer entries
abbrev pub ledger_bound : ℕ
ledger_bound = 2 ^ 63
