-- What a query that reads one integer is told.
use Rattle.std.specs.Prelude.{ℤ, ◌+◌, Option, Some, None, List, ◌∷◌}
use Rattle.packstream.specs.Tree.{Tree, int}
use Rattle.client.specs.Rest.{next_ordinal}
use Rattle.client_tracking.specs.Account.{rows_of}
use Rattle.driver.specs.Stands.{Stand}

-- an integer alone has one
abbrev pub int_of : Tree → Option ℤ
int_of (int z) = Some z
int_of t = None

-- the first cell of the first row, if that is an integer
abbrev pub first_int : List (List Tree) → Option ℤ
first_int ((t ∷ ts) ∷ rows) = int_of t
first_int rows = None

-- the rows that the account holds of the second request that was asked
abbrev pub rows_told : Stand → Stand → List (List Tree)
rows_told from to = rows_of to.rest.knows.first to.account (next_ordinal from.rest + 1)
