-- What a session holds of an item that isn't whole, and what a piece makes of it.
use Rattle.std.specs.Prelude.{◌≡◌, ℕ, List, take, Option, Result, Ok, Err}
use Rattle.std.specs.declared.alloc.AllocError.{AllocError}
use Rattle.wire.specs.Framing.{Opened}
use Rattle.messages.specs.Arrivals.{Arrival}
use Rattle.messages_deframer.specs.Opening.{come}
use Rattle.server.specs.declared.input.Incoming.{Incoming}
use Rattle.server.specs.declared.input.Offer.{Offer}
use Rattle.server.specs.declared.kinds.Took.{Took}
use Rattle.server_session.specs.declared.kinds.What.{What}
use Rattle.server_session.specs.Rest.{Kept, what_of, after_item}
use Rattle.server.specs.Feeding.{Feeding}

-- the bytes of the handshake that have come
abbrev pub offered : Offer → List ℕ
offered o = take o.len o.bytes

-- the item of a session's bytes that isn't whole
abbrev pub opened_of : Incoming → Opened
opened_of i = come 20 (offered i.offer) i.inbox

-- what was told, what the session keeps, and what is unfinished then
abbrev pub fed : Took → Kept → Opened → Feeding
fed took k u = record { took = took; kept = k; unfinished = u }

-- What is told of what arrived, or that nothing did, and what is kept after it. It takes no memory.
abbrev pub IsReceived : Result What AllocError → Kept → Kept → Option Arrival → Type 0
IsReceived (Ok what) old new x = (what ≡ what_of x) × (new ≡ after_item old x)
IsReceived (Err e) old new x = ⊥
