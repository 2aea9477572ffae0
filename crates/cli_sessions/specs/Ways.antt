-- What is seen of the streams of a loop.
use Rattle.std.specs.Prelude.{ℕ, Bool, List, Option}

-- One way of a connection: the bytes that its sink took, and those that are left of its source, at the other end; and whether they have failed.
pub record Way : Type 0 where
  pub taken : Option (List ℕ)
  pub left : Option (List ℕ)
  pub write_failed : Bool
  pub read_failed : Bool

-- The streams of a loop: the way from the client to the session, the way back, and what is printed.
pub record Ways : Type 0 where
  pub up : Way
  pub down : Way
  pub out : Option (List ℕ)
  pub out_failed : Bool
