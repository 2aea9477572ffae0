-- What a client holds of an item that isn't whole.
use Rattle.std.specs.Prelude.{◌≡◌, ℕ, Bool, true, false, List, length}
use Rattle.wire.specs.Items.{answer_to, wants_room}
use Rattle.wire.specs.Framing.{Opened, opening, reading}
use Rattle.packstream_incremental.specs.Piecewise.{MayGoOn}
use Rattle.messages_deframer.specs.Opening.{come, data_of}
use Rattle.client.specs.declared.stream.Stream.{Stream}
use Rattle.client.specs.Answers.{held_bytes}

-- the item of the bytes that isn't whole
abbrev pub item_of : Stream → Opened
item_of s = come 4 (held_bytes s.opening) s.inbox

-- a message has passed 65,536 bytes
abbrev pub is_too_large : Opened → Bool
is_too_large (opening bytes) = false
is_too_large (reading u) = u.too_big

-- Room is wanted where data comes, and where a message ends: never for the version answer, headers and no-ops.
abbrev pub wants_some : Opened → List ℕ → Bool
wants_some (opening bytes) piece = false
wants_some (reading u) piece = wants_room (length u.body) (answer_to u piece)

-- A piece wants room: something of it is kept or read, and it isn't of a message that is bad already.
pub record WantsRoom (u : Opened) (piece : List ℕ) : Type 0 where
  pub good : MayGoOn (data_of u)
  pub some : wants_some u piece ≡ true
