-- Where in a stream of chunks the next byte stands ("Bolt message chunking").
use Rattle.std.specs.Prelude.{ℕ, Bool, false, Option, None}

-- the first byte of a header that isn't whole, what the chunk lacks, the lengths of the message's chunks so far with the present one, and whether a header has taken them past the limit
pub record Place : Type 0 where
  pub header : Option ℕ
  pub lacks : ℕ
  pub sum : ℕ
  pub too_big : Bool

-- before a message's first header
abbrev pub start : Place
start = record { header = None; lacks = 0; sum = 0; too_big = false }
