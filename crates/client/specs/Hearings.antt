-- What of a piece comes to be heard, and what is told of it.
use Rattle.std.specs.Prelude.{◌≡◌, ℕ, if◌then◌else◌, Option, Some, None, Result, Ok, Err}
use Rattle.wire.specs.declared.Version.{Version}
use Rattle.wire.specs.Framing.{Item}
use Rattle.messages.specs.View.{response_view}
use Rattle.messages.specs.Arrivals.{Heard as AnyHeard}
use Rattle.client.specs.declared.data.Came.{Came}
use Rattle.client.specs.declared.data.Came.TheVariants as came
use Rattle.client.specs.declared.heard.Heard.{Heard}
use Rattle.client.specs.declared.faults.ClientFault.{ClientFault}
use Rattle.client.specs.declared.faults.ClientFault.TheVariants as client_fault
use Rattle.client.specs.Rest.{Knows, Hearing, Note, note_of, heard_as, Rest, Fed}
use Rattle.client.specs.Notes.{note, note_result}

-- what is told of an item, or that it is bad
abbrev pub note_or : AnyHeard → Hearing → Result Note ClientFault
note_or x h = if h.bad then Err client_fault.BadPeer else Ok (note_of x h)

-- what is told, or the fault, as contracts see it
abbrev pub note_in : Result Heard ClientFault → Result Note ClientFault
note_in (Ok heard) = Ok (note heard)
note_in (Err e) = Err e

-- what is told of an item that was heard, and what is known then, are those of the model
abbrev pub Hears : Hearing → AnyHeard → Result Heard ClientFault → Knows → Type 0
Hears h x result knows = (note_in result ≡ note_or x h) × (knows ≡ h.knows)

-- bytes that stand for nothing, in one name
abbrev pub plain : AnyHeard → AnyHeard
plain (AnyHeard.Chosen o) = AnyHeard.Chosen o
plain AnyHeard.Strange = AnyHeard.Strange
plain AnyHeard.Quiet = AnyHeard.Quiet
plain (AnyHeard.Told a) = AnyHeard.Told a
plain (AnyHeard.Unheard e) = AnyHeard.Strange
plain AnyHeard.Over = AnyHeard.Strange

-- what is heard of the item that a piece completes; without one it is as with a no-op
abbrev pub came_in : Option Version → Option Item → AnyHeard
came_in v None = AnyHeard.Quiet
came_in v (Some x) = plain (heard_as v x)

-- what came of a piece, as what is heard: nothing as a no-op, and what is bad as a strange answer
abbrev pub came_as : Came → AnyHeard
came_as came.Nothing = AnyHeard.Quiet
came_as came.Bad = AnyHeard.Strange
came_as (came.Version o) = AnyHeard.Chosen o
came_as (came.Response response) = AnyHeard.Told (response_view response)

-- what a feed answers, and the rest after it; the same rest for want of memory
abbrev pub Feeds : Rest → Rest → Fed → Result (ℕ × Heard) ClientFault → Type 0
Feeds new old f (Ok used) = (note_result (Ok used) ≡ f.answer) × (new ≡ f.rest)
Feeds new old f (Err client_fault.Closed) = (Err client_fault.Closed ≡ f.answer) × (new ≡ f.rest)
Feeds new old f (Err client_fault.BadPeer) = (Err client_fault.BadPeer ≡ f.answer) × (new ≡ f.rest)
Feeds new old f (Err client_fault.Memory) = new ≡ old
