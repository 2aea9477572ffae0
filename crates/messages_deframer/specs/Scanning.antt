-- How far a scan of a piece has come, and where it stops. Private functions and proofs alone need it.
use Rattle.std.specs.Prelude.{◌≡◌, ℕ, ◌≤◌, true, false, List, length, drop, Option, Some, None}
use Rattle.wire.specs.declared.parts.Cut.{Cut}
use Rattle.wire.specs.declared.parts.Part.{Part}
use Rattle.wire.specs.declared.parts.Part.TheVariants as part
use Rattle.wire.specs.Place.{Place}
use Rattle.wire.specs.Unfinished.{Unfinished, fresh, unfinished_at}
use Rattle.wire.specs.Items.{answer_from, further, wants_room}
use Rattle.wire.specs.Scanning.{Holds, After}
use Rattle.wire.specs.Reader.{takes}
use Rattle.wire.specs.Framing.{Item, Noop, Message, TooBig, chunks}
use Rattle.packstream_incremental.specs.Piecewise.{Point, Reads}
use Rattle.messages_deframer.specs.declared.stream.Stream.{Stream}

-- the item that ends with bytes of a kind, where these are its data
abbrev pub item_ended : Part → List ℕ → Option Item
item_ended part.Head body = None
item_ended part.Data body = None
item_ended part.Noop body = Some Noop
item_ended part.End body = Some (Message body)
item_ended part.TooBig body = Some TooBig

-- what isn't whole after them
abbrev pub rest_ended : Part → Place → List ℕ → Unfinished
rest_ended part.Noop place body = fresh
rest_ended part.End place body = fresh
rest_ended _ place body = unfinished_at place body

-- A piece was taken to the end of the item begun, else whole: the last of its bytes are of this kind, and the reader has read the data.
pub record Scans (u : Unfinished) (piece : List ℕ) (cut : Cut) (s : Stream) : Type 0 where
  pub body : List ℕ
  pub reads : Reads s.reader.here body
  pub after : After cut.what s.chunks body
  pub refuses : cut.what ≡ part.TooBig → s.chunks.too_big ≡ true
  pub wants : cut.what ≡ part.End → wants_room (length u.body) (answer_from u piece) ≡ true
  pub takes : takes chunks u piece
      ≡ record {
        used = cut.used;
        item = item_ended cut.what body;
        rest = rest_ended cut.what s.chunks body;
      }

-- It has come so far: after so many bytes of the piece no item has ended, and the rest of the piece does what is left to do.
pub record Comes (u : Unfinished) (piece : List ℕ) (used : ℕ) (place : Place) (here : Point)
    : Type 0 where
  pub body : List ℕ
  pub longer : length u.body ≤ length body
  pub reads : Reads here body
  pub holds : Holds body place
  pub going : place.too_big ≡ false
  pub ahead : answer_from u piece
      ≡ further used (answer_from (unfinished_at place body) (drop used piece))
