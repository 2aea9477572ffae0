-- What is said of a connection.
use Rattle.std.specs.Prelude.{ℕ, List, [], ◌∷◌, ◌++◌, codes}
use Rattle.std.specs.Fmt.{decimal}
use Rattle.cli_output.specs.Escaping.{escaped}

-- a host and a port: the host is a word of the command line, and escaped
abbrev pub place_name : List ℕ → ℕ → List ℕ
place_name host port = escaped host ++ codes " port " ++ decimal port

-- that a shell is connected there
abbrev pub connected_line : List ℕ → ℕ → List ℕ
connected_line host port = codes "connected to " ++ place_name host port ++ 10 ∷ []
