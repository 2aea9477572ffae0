-- In which item of a stream of chunks what an inbox holds stands. Private functions and proofs alone need it.
use Rattle.std.specs.Prelude.{◌≡◌, false}
use Rattle.wire.specs.Unfinished.{Unfinished, unfinished_at}
use Rattle.wire.specs.Scanning.{Holds}
use Rattle.packstream_incremental.specs.Piecewise.{Reads}
use Rattle.messages_deframer.specs.declared.stream.Stream.{Stream}

-- The stream stands in this item: its reader has read the data, and while no message was refused its position is that of the item.
pub record IsAt (s : Stream) (u : Unfinished) : Type 0 where
  pub over : u.too_big ≡ s.is_over
  pub reads : Reads s.reader.here u.body
  pub place : u.too_big ≡ false → (u ≡ unfinished_at s.chunks u.body) × Holds u.body s.chunks

-- What an inbox keeps: its stream stands in the item begun, its reader where it holds, and no message past the limit goes on.
pub record IsKept (s : Stream) (u : Unfinished) : Type 0 where
  pub at : IsAt s u
  pub still : s.reader.held ≡ s.reader.here
  pub going : s.is_over ≡ false → s.chunks.too_big ≡ false
