-- What a piece of bytes makes of a session.
use Rattle.std.specs.Prelude.{◌≡◌, ℕ, ◌+◌, nat_le, Bool, true, if◌then◌else◌, Option, option_map, List, length}
use Rattle.wire.specs.declared.Version.{Version}
use Rattle.wire.specs.Reader.{Took as TookOf, takes}
use Rattle.wire.specs.Framing.{Item, Opening, Noop, Message, TooBig, Opened, opening, reading, at_server}
use Rattle.wire.specs.Items.{answer_to, wants_room}
use Rattle.packstream_incremental.specs.Piecewise.{MayGoOn}
use Rattle.messages_deframer.specs.Opening.{data_of}
use Rattle.messages.specs.Messages.{request_of}
use Rattle.messages.specs.Arrivals.{Arrival, TooLong, arrival_of_offer}
use Rattle.server_session.specs.declared.kinds.What.{What}
use Rattle.server_session.specs.Rest.{Kept, version_of, arrival_by, after_item, what_of, shut, full}
use Rattle.server.specs.declared.kinds.Took.{Took}

-- what a whole item of the bytes is, at a version
abbrev pub arrives : Version → Item → Arrival
arrives v (Opening bytes) = arrival_of_offer bytes
arrives v Noop = Arrival.Idle
arrives v (Message b) = arrival_by (request_of v b)
arrives v TooBig = TooLong

-- what the item that a piece completed is, at the session's version; nothing where it completed none
abbrev pub arrival : Kept → Option Item → Option Arrival
arrival s x = option_map (arrives (version_of s)) x

-- what a piece makes of a session: what `feed` tells, what is kept then, and what is unfinished
pub record Feeding : Type 0 where
  pub took : Took
  pub kept : Kept
  pub unfinished : Opened

-- `feed` that uses no byte and changes nothing
abbrev pub takes_none : What → Kept → Opened → Feeding
takes_none what s u = record { took = record { used = 0; what = what }; kept = s; unfinished = u }

-- `feed` by what was taken of the piece
abbrev pub takes_item : Kept → TookOf Opened Item → Feeding
takes_item s t = record {
  took = record { used = t.used; what = what_of (arrival s t.item) };
  kept = after_item s (arrival s t.item);
  unfinished = t.rest;
}

-- `feed` of a session
abbrev pub feeding : Opened → List ℕ → Kept → Feeding
feeding u piece s = if shut s then takes_none What.Closed s u
    else (if full s then takes_none What.Full s u else takes_item s (takes at_server u piece))

-- Room is wanted where a handshake is answered, where data comes, and where a message ends: never for headers and no-ops.
abbrev pub wants_some : Opened → List ℕ → Bool
wants_some (opening bytes) piece = nat_le 20 (length bytes + length piece)
wants_some (reading u) piece = wants_room (length u.body) (answer_to u piece)

-- A piece wants room: something of it is kept or answered, and it isn't of a message that is bad already.
pub record WantsRoom (u : Opened) (piece : List ℕ) : Type 0 where
  pub good : MayGoOn (data_of u)
  pub some : wants_some u piece ≡ true
