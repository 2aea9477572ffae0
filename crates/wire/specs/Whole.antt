-- The whole messages of bytes, and what a message's written run is among its runs.
use Rattle.std.specs.Prelude.{◌≡◌, ℕ, ◌+◌, ◌<◌, ◌≤◌, List, [], ◌∷◌, ◌++◌, length, true, Option, Some, None, ◌↔◌}
use Rattle.wire.specs.declared.items.Piece.{Piece}
use Rattle.wire.specs.declared.items.Piece.TheVariants.{Nothing, Noop, Message}
use Rattle.wire.specs.Unfinished.{Unfinished, fresh}
use Rattle.wire.specs.Texts.{run_of, written_run}
use Rattle.wire.specs.Runs.{AreBytes, AreChunks, body_of, Texts, IsRun, IsWhole, IsPast}
use Rattle.wire.specs.Stream.{items_of}
use Rattle.wire.specs.Limits.{max_message, max_chunk}

-- the messages among items
abbrev pub messages : List Piece → List (List ℕ)
messages [] = []
messages (Nothing ∷ items) = messages items
messages (Noop ∷ items) = messages items
messages (Message m ∷ items) = m ∷ messages items

-- the whole messages of bytes
abbrev pub whole : List ℕ → List (List ℕ)
whole bytes = messages (items_of fresh bytes).items

-- Of bytes that are no-ops and runs, the messages are read and nothing else, and nothing is unfinished after them.
abbrev pub ReadsMessages : Type 0
ReadsMessages = (ms : List (List ℕ)) (bytes : List ℕ) → Texts ms bytes
    → (whole bytes ≡ ms) × ((items_of fresh bytes).rest ≡ fresh)

-- Of any bytes, the messages of the longest front that some Texts covers are read.
abbrev pub ReadsWhole : Type 0
ReadsWhole = (bytes : List ℕ) → AreBytes bytes → IsWhole (whole bytes) bytes

-- They are the only ones.
abbrev pub OneWhole : Type 0
OneWhole = (ms : List (List ℕ)) (bytes : List ℕ) → AreBytes bytes → IsWhole ms bytes
    → ms ≡ whole bytes

-- A message is refused exactly if a header takes it past the limit.
abbrev pub RefusesPast : Type 0
RefusesPast = (bytes : List ℕ) → AreBytes bytes
    → ((items_of fresh bytes).rest.too_big ≡ true) ↔ IsPast bytes

-- What is written of a message is its run.
abbrev pub TextsOne : Type 0
TextsOne = (m : List ℕ) → 0 < length m → length m ≤ max_message → Texts (m ∷ []) (written_run m)

-- What is written of a message is one run, its chunks as long as they may be.
abbrev pub WritesRun : Type 0
WritesRun = (m : List ℕ) → 0 < length m → length m ≤ max_message → IsRun max_chunk m (written_run m)

-- No run of the message is shorter: its chunks are as long as they may be.
abbrev pub NoShorter : Type 0
NoShorter = (m : List ℕ) (run : List (List ℕ)) → 0 < length m → AreChunks run → body_of run ≡ m
    → length (written_run m) ≤ length (run_of run)

-- No written run of a message is a proper beginning of another's.
abbrev pub BeginsNone : Type 0
BeginsNone = (m other more : List ℕ) → 0 < length m → length m ≤ max_message → 0 < length other
    → length other ≤ max_message → written_run other ≡ written_run m ++ more → (m ≡ other) × (more ≡ [])

-- the number of bytes that are kept of a header that isn't whole
abbrev pub header_bytes : Option ℕ → ℕ
header_bytes None = 0
header_bytes (Some high) = 1

-- the number of bytes that are kept of an unfinished item
abbrev pub kept_bytes : Unfinished → ℕ
kept_bytes s = length s.body + header_bytes s.header

-- They are at most 65,537.
abbrev pub KeepsFew : Type 0
KeepsFew = (bytes : List ℕ) → kept_bytes (items_of fresh bytes).rest ≤ max_message + 1
