-- What a client takes of a piece, and what comes of it.
use Rattle.std.specs.Prelude.{◌≡◌, ℕ, ◌+◌, List, length, Option, Some}
use Rattle.wire.specs.declared.Version.{Version}
use Rattle.wire.specs.Framing.{Item, Message, Opened}
use Rattle.wire.specs.Reader.{Took}
use Rattle.client.specs.declared.data.Came.TheVariants as came
use Rattle.client.specs.declared.data.Taken.{Taken}
use Rattle.client.specs.Hearings.{came_as, came_in}

-- what came of a piece, and what is unfinished after it
pub record Comes (v : Option Version) (m : Took Opened Item) (t : Taken) (rest : Opened) : Type 0 where
  pub used : t.used ≡ m.used
  pub rest_is : rest ≡ m.rest
  pub came : came_as t.came ≡ came_in v m.item

-- all of a piece was used, and nothing ended
abbrev pub all_of : List ℕ → Taken
all_of piece = record { used = length piece; came = came.Nothing }

-- a message that a piece begins with was used, with its header and its end, and nothing of an item stands before or behind it
abbrev pub whole_message : List ℕ → Opened → Took Opened Item
whole_message m rest = record { used = length m + 4; item = Some (Message m); rest = rest }
