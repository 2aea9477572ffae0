-- The view of the streams of a connection at its server's end.
use Rattle.std.specs.Prelude.{ℕ, Bool, List, Option}
use Rattle.server_blocking.specs.Views.{SourceView, SinkView}

-- The streams of a connection at its server's end: all bytes that the source has given, those that are left, if they are known, and how many
-- more reads may give some; all bytes that the sink has taken, and those that it holds, if they are known; and what has failed.
pub record Connection : Type 0 where
  pub given : List ℕ
  pub left : Option (List ℕ)
  pub reads : ℕ
  pub put : List ℕ
  pub written : Option (List ℕ)
  pub read_failed : Bool
  pub write_failed : Bool

-- its source
abbrev pub source_of : Connection → SourceView
source_of c = record { given = c.given; left = c.left }

-- its sink
abbrev pub sink_of : Connection → SinkView
sink_of c = record { put = c.put; taken = c.written }
