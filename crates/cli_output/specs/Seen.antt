-- What is seen of streams that are held together.

-- what holds streams, and what has come of them
pub record Seen (H S : Type 0) : Type 0 where
  pub held : H
  pub at : S
