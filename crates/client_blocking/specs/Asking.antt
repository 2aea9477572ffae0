-- The notes of a client on its server's bytes, however they are cut, and the effects of a call that reads the answers.
use Rattle.std.specs.Prelude.{◌≡◌, ℕ, ◌≤◌, Bool, true, false, not, ◌&&◌, if◌then◌else◌, Option, Some, None, ◌==◌, List, [], ◌∷◌, ◌++◌, length, drop, ◌⊎◌, Result, Ok, Err}
use Rattle.std.specs.Io.KnownBytes.{Appends, Consumes, IsAtEnd}
use Rattle.wire.specs.declared.Wish.{Wish}
use Rattle.wire.specs.Framing.{Item, at_client}
use Rattle.wire.specs.Reader.{outputs, state}
use Rattle.messages.specs.Arrivals.{Heard}
use Rattle.client.specs.declared.Outcome.{Outcome}
use Rattle.client.specs.declared.ClientFault.{ClientFault}
use Rattle.client.specs.declared.ClientFault.TheVariants as client_fault
use Rattle.client.specs.Rest.{Knows, Hearing, Note, Nothing, Chose, Row, Summary, note_of, heard_as, hears_item, Rest, losses, after_drop, taken_out, awaits}
use Rattle.streams.specs.declared.fault.StreamFault.{StreamFault}
use Rattle.streams.specs.declared.fault.StreamFault.TheVariants as stream_fault
use Rattle.streams.specs.Limits.{max_piece}
use Rattle.client_blocking.specs.Views.{SourceView, SinkView, GivesBytes, PutsBytes, PutsFront}

-- a note as it is kept: a no-op has none
abbrev pub notes_by : Note → List Note
notes_by Nothing = []
notes_by (Chose o) = Chose o ∷ []
notes_by (Row cells) = Row cells ∷ []
notes_by (Summary ordinal phase outcome response) = Summary ordinal phase outcome response ∷ []

-- the notes of an item: a bad one has none
abbrev pub notes_of : Heard → Hearing → List Note
notes_of x h = if h.bad then [] else notes_by (note_of x h)

-- a client's knowledge after whole items, and its notes of them
pub record Tale : Type 0 where
  pub knows : Knows
  pub notes : List Note

-- a tale with notes before it
abbrev pub after_notes : List Note → Tale → Tale
after_notes notes t = record { knows = t.knows; notes = notes ++ t.notes }

-- a client's knowledge after items, up to the client's end, and its notes of them
abbrev pub tale_of : Wish → Knows → List Item → Tale
tale_of wish k [] = record { knows = k; notes = [] }
tale_of wish k (x ∷ xs) =
    if k.over then record { knows = k; notes = [] }
    else after_notes (notes_of (heard_as k.version x) (hears_item wish k (heard_as k.version x)))
    (tale_of wish (hears_item wish k (heard_as k.version x)).knows xs)

-- a client's knowledge after bytes, and its notes of them; the bytes may begin in the middle of an item
abbrev pub hears_all : Rest → List ℕ → Tale
hears_all r bytes = tale_of r.wish r.knows (outputs at_client r.item bytes)

-- the client's rest after bytes: what it knows then, and its unfinished item
abbrev pub after_all : Rest → List ℕ → Rest
after_all r bytes = record r {
  knows = (hears_all r bytes).knows;
  item = state at_client r.item bytes;
}

-- A piece is fed, up to the client's end. If memory ran out, a prefix of it was fed.
pub record FeedsPiece (r : Rest) (piece : List ℕ) (before after : List Note) (whole : Bool)
    (Now : Rest → Type 0) : Type 0 where
  pub fed : List ℕ
  pub unheard : List ℕ
  pub parts : piece ≡ fed ++ unheard
  pub told : after ≡ before ++ (hears_all r fed).notes
  pub now : Now (after_all r fed)
  pub ends : whole ≡ true → (unheard ≡ []) ⊎ ((hears_all r fed).knows.over ≡ true)

-- A piece was read, and fed whole or up to the client's end, or in part.
pub record ReadsPiece (r : Rest) (from to : SourceView) (before after : List Note) (whole : Bool)
    (Now : Rest → Type 0) : Type 0 where
  pub piece : List ℕ
  pub input : GivesBytes from to piece
  pub short : length piece ≤ max_piece
  pub feeds : FeedsPiece r piece before after whole Now

-- The input has ended, and nothing was fed.
pub record ReadsEnd (r : Rest) (from to : SourceView) (before after : List Note)
    (Now : Rest → Type 0) : Type 0 where
  pub input : GivesBytes from to []
  pub at_end : IsAtEnd to.left
  pub told : after ≡ before
  pub now : Now r

-- Nothing was read, and nothing was fed.
pub record ReadsNothing (r : Rest) (from to : SourceView) (before after : List Note)
    (Now : Rest → Type 0) : Type 0 where
  pub input : GivesBytes from to []
  pub told : after ≡ before
  pub now : Now r

-- A piece was read and fed, or the input has ended, or a call failed.
abbrev pub HearsPiece : Rest → SourceView → SourceView → List Note → List Note → (Rest → Type 0)
    → Result Bool StreamFault → Type 0
HearsPiece r from to before after Now (Ok true) = ReadsPiece r from to before after true Now
HearsPiece r from to before after Now (Ok false) = ReadsEnd r from to before after Now
HearsPiece r from to before after Now (Err stream_fault.ReadFailed) =
    ReadsNothing r from to before after Now
HearsPiece r from to before after Now (Err stream_fault.WriteFailed) = ⊥
HearsPiece r from to before after Now (Err stream_fault.Memory) =
    ReadsPiece r from to before after false Now

-- a client that refuses bytes has ended, unless memory ran out
abbrev pub has_ended : ClientFault → Bool
has_ended client_fault.Closed = true
has_ended client_fault.BadPeer = true
has_ended client_fault.Memory = false

-- Bytes that end in a piece, before which an answer was still to come.
pub record HasNeededPiece (r : Rest) (bytes : List ℕ) : Type 0 where
  pub before : List ℕ
  pub last : List ℕ
  pub parts : bytes ≡ before ++ last
  pub short : length last ≤ max_piece
  pub waits : awaits (hears_all r before).knows ≡ true

-- Bytes are read only while an answer is still to come: it was before the last piece.
abbrev pub IsNeeded : Rest → List ℕ → Type 0
IsNeeded r bytes = (bytes ≡ []) ⊎ HasNeededPiece r bytes

-- an answer is still to come after the bytes that were read
abbrev pub IsAwaited : Rest → Option (List ℕ) → Option (List ℕ) → Type 0
IsAwaited r left left_now =
    (read : List ℕ) × Consumes left left_now read × (awaits (hears_all r read).knows ≡ true)

-- It is the server's turn: an answer is still to come after the bytes that were read, and the sink took all that the client had to send.
pub record IsTurn (r : Rest) (left left_now old taken : Option (List ℕ)) : Type 0 where
  pub awaited : IsAwaited r left left_now
  pub asked : Appends old taken r.unsent

-- The source gave bytes, which were fed except for those after the client's end.
pub record ReadsOn (r : Rest) (from to : SourceView) (before after : List Note)
    (Now : Rest → Type 0) : Type 0 where
  pub fed : List ℕ
  pub unheard : List ℕ
  pub input : GivesBytes from to (fed ++ unheard)
  pub told : after ≡ before ++ (hears_all r fed).notes
  pub now : Now (after_all r fed)
  pub needed : IsNeeded r (fed ++ unheard)
  pub whole : (unheard ≡ []) ⊎ ((hears_all r fed).knows.over ≡ true)

-- The source gave bytes, which were fed: up to the end of the input, the last answer that is awaited, or a fault. If memory ran out, a part of
-- the last piece wasn't fed.
pub record ReadsAll (r : Rest) (from to : SourceView) (before after : List Note)
    (Now : Rest → Type 0) (fault : Option StreamFault) : Type 0 where
  pub fed : List ℕ
  pub unheard : List ℕ
  pub input : GivesBytes from to (fed ++ unheard)
  pub told : after ≡ before ++ (hears_all r fed).notes
  pub now : Now (after_all r fed)
  pub needed : IsNeeded r (fed ++ unheard)
  pub whole : (fault ≡ Some stream_fault.Memory → ⊥)
      → (unheard ≡ []) ⊎ ((hears_all r fed).knows.over ≡ true)
  pub ends : fault ≡ None → IsAtEnd to.left ⊎ (awaits (hears_all r fed).knows ≡ false)

-- The output was written, and n bytes were taken out of the client: all of it, or a prefix if the sink failed.
abbrev pub Writes : List ℕ → ℕ → Option StreamFault → SinkView → SinkView → Type 0
Writes out n None before after = PutsBytes before after out × (drop n out ≡ [])
Writes out n (Some stream_fault.ReadFailed) before after =
    PutsBytes before after out × (drop n out ≡ [])
Writes out n (Some stream_fault.WriteFailed) before after =
    PutsFront before after out × (drop n out ≡ [])
Writes out n (Some stream_fault.Memory) before after =
    PutsBytes before after out × (drop n out ≡ [])

-- the client's output was written, and taken out of the client
abbrev pub PutsOut : Rest → SinkView → SinkView → (Rest → Type 0) → Option StreamFault → Type 0
PutsOut r before after Now fault =
    (n : ℕ) × Writes r.unsent n fault before after × Now (taken_out r n)

-- A client wrote its output, and then it was fed the bytes that the source gave. All of them were fed, except for those after the client's end,
-- and the last ones if memory ran out. Without a fault the input has ended, or no answer is still to come.
pub record Asks (r : Rest) (from to : SourceView) (written written_now : SinkView)
    (before after : List Note) (Now : Rest → Type 0) (fault : Option StreamFault) : Type 0 where
  pub out : ℕ
  pub fed : List ℕ
  pub unheard : List ℕ
  pub writes : Writes r.unsent out fault written written_now
  pub input : GivesBytes from to (fed ++ unheard)
  pub told : after ≡ before ++ (hears_all r fed).notes
  pub now : Now (after_all (taken_out r out) fed)
  pub needed : IsNeeded r (fed ++ unheard)
  pub whole : (fault ≡ Some stream_fault.Memory → ⊥)
      → (unheard ≡ []) ⊎ ((hears_all r fed).knows.over ≡ true)
  pub ends : fault ≡ None → IsAtEnd to.left ⊎ (awaits (hears_all r fed).knows ≡ false)

-- no answer is still to come, and nothing waits that has none
abbrev pub all_answered : Knows → Bool
all_answered k = not (awaits k) && length k.waiting == 0

-- the client's rest at the end of a call: it has lost its connection, unless all was answered
abbrev pub given_up : Rest → Rest
given_up r = if all_answered r.knows then r else after_drop r

-- the outcomes of waiting requests if the client is given up; none if all was answered
abbrev pub losses_then : Knows → List (ℕ × Outcome)
losses_then k = if all_answered k then [] else losses k

-- the fates of the requests without an answer, and the client's rest after that
abbrev pub GivesUp : (Rest → Type 0) → List (ℕ × Outcome) → Rest → Type 0
GivesUp Now lost r = Now (given_up r) × (lost ≡ losses_then r.knows)

-- A prefix of a piece was fed, and the rest of it is still to be fed.
pub record PartFed (r : Rest) (piece rest : List ℕ) (before after : List Note) (Now : Rest → Type 0)
    : Type 0 where
  pub fed : List ℕ
  pub parts : piece ≡ fed ++ rest
  pub told : after ≡ before ++ (hears_all r fed).notes
  pub now : Now (after_all r fed)
