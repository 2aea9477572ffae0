-- What a SUCCESS says under a name.
use Rattle.std.specs.Prelude.{ℕ, if◌then◌else◌, Option, Some, None, List, [], ◌∷◌}
use Rattle.std.specs.Str.{bytes_eq}
use Rattle.packstream.specs.Tree.{Tree}
use Rattle.messages.specs.View.{ResponseView}

-- the entries of a SUCCESS, and none of any other response
abbrev pub metadata_in : Option ResponseView → List (List ℕ × Tree)
metadata_in (Some (ResponseView.Success metadata)) = metadata
metadata_in o = []

-- the value under this name
abbrev pub named : List ℕ → List (List ℕ × Tree) → Option Tree
named name [] = None
named name (e ∷ es) = if bytes_eq e.0 name then Some e.1 else named name es
