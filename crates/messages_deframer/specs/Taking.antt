-- What an inbox takes of a piece, by what the reader of chunks takes of it.
use Rattle.std.specs.Prelude.{◌≡◌, ℕ, ◌+◌, true, List, length, Option, Some, None, Result, Ok, Err}
use Rattle.wire.specs.Unfinished.{Unfinished}
use Rattle.wire.specs.Items.{answer_to, wants_room}
use Rattle.wire.specs.Reader.{Took}
use Rattle.wire.specs.Framing.{Item, Noop, Message, TooBig}
use Rattle.packstream_incremental.specs.Piecewise.{MayGoOn}
use Rattle.messages.specs.declared.fault.MsgFault.{MsgFault}
use Rattle.messages.specs.declared.fault.MsgFault.TheVariants as fault
use Rattle.messages_deframer.specs.declared.brought.Brought.{Brought}
use Rattle.messages_deframer.specs.declared.brought.Brought.TheVariants as brought
use Rattle.messages_deframer.specs.declared.stream.Stream.{Stream}
use Rattle.messages_deframer.specs.Standing.{IsAt}

-- What was brought is this item, or that none ended; and of a message, what may be told of its bytes.
abbrev pub Brings : {M : Type 0} → (List ℕ → Result M MsgFault → Type 0) → Option Item → Brought M
    → Type 0
Brings reads item brought.Nothing = item ≡ None
Brings reads item brought.Noop = item ≡ Some Noop
Brings reads item (brought.Message m) = (b : List ℕ) × (item ≡ Some (Message b)) × reads b (Ok m)
Brings reads item (brought.Bad e) =
    (b : List ℕ) × (item ≡ Some (Message b)) × reads b (Err e) × (e ≡ fault.Memory → ⊥)
Brings reads item brought.TooBig = item ≡ Some TooBig

-- So many bytes were used, this was brought, and the stream stands in what is unfinished then.
pub record TakesAt {M : Type 0} (reads : List ℕ → Result M MsgFault → Type 0)
    (t : Took Unfinished Item) (used : ℕ) (x : Brought M) (s : Stream) : Type 0 where
  pub used_is : used ≡ t.used
  pub item : Brings reads t.item x
  pub rest : IsAt s t.rest

-- So many bytes were used, this was brought, and this is unfinished then.
pub record Takes {M : Type 0} (reads : List ℕ → Result M MsgFault → Type 0) (t : Took Unfinished Item)
    (used : ℕ) (x : Brought M) (rest : Unfinished) : Type 0 where
  pub used_is : used ≡ t.used
  pub item : Brings reads t.item x
  pub rest_is : rest ≡ t.rest

-- all of a piece was used, and nothing ended
abbrev pub used_up : List ℕ → Unfinished → Took Unfinished Item
used_up piece rest = record { used = length piece; item = None; rest = rest }

-- a message that a piece begins with was used, and this is unfinished then
abbrev pub whole_message : List ℕ → Unfinished → Took Unfinished Item
whole_message m rest = record { used = length m + 4; item = Some (Message m); rest = rest }

-- A piece wants room: something of it is kept or read, and it isn't of a message that is bad already.
pub record WantsRoom (u : Unfinished) (piece : List ℕ) : Type 0 where
  pub good : MayGoOn u.body
  pub some : wants_room (length u.body) (answer_to u piece) ≡ true
