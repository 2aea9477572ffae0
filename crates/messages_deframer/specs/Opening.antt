-- A stream that so many bytes open: they come first, and what follows is what an inbox takes.
use Rattle.std.specs.Prelude.{ℕ, List, [], length, nat_lt, if◌then◌else◌}
use Rattle.wire.specs.Unfinished.{Unfinished}
use Rattle.wire.specs.Framing.{Opened, opening, reading}

-- what has come of a stream that k bytes open, by these of them and by the item of the chunks that isn't whole
abbrev pub come : ℕ → List ℕ → Unfinished → Opened
come k held u = if nat_lt (length held) k then opening held else reading u

-- the data of a message that isn't whole
abbrev pub data_of : Opened → List ℕ
data_of (opening bytes) = []
data_of (reading u) = u.body
