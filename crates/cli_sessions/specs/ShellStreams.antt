-- What is seen of the streams of a shell.
use Rattle.std.specs.Prelude.{ℕ, Bool, List, Option}

-- The streams of a shell: the bytes left of its server's, and how many more reads may give some; those that were written to it, printed and
-- told; and what has failed. If standard error has (`deaf`), nothing is known of what it took.
pub record Streams : Type 0 where
  pub left : Option (List ℕ)
  pub reads : ℕ
  pub written : Option (List ℕ)
  pub printed : Option (List ℕ)
  pub told : Option (List ℕ)
  pub read_failed : Bool
  pub write_failed : Bool
  pub print_failed : Bool
  pub deaf : Bool
