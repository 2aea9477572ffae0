-- The items of the real bytes: what opens a stream, then chunks ("Bolt handshake", "Bolt message chunking").
use Rattle.std.specs.Prelude.{◌≡◌, ℕ, ◌+◌, ◌-◌, ◌<◌, ◌≤◌, ◌==◌, nat_le, false, if◌then◌else◌, Option, Some, None, option_to_list, Result, Ok, Err, List, [], ◌∷◌, ◌++◌, length, take, map, reverse}
use Rattle.wire.specs.declared.items.Piece.{Piece}
use Rattle.wire.specs.declared.items.Piece.TheVariants as piece
use Rattle.wire.specs.declared.items.Fed.{Fed}
use Rattle.wire.specs.declared.faults.WireFault.{WireFault}
use Rattle.wire.specs.declared.faults.WireFault.TheVariants as fault
use Rattle.wire.specs.declared.offers.Wish.{Wish}
use Rattle.wire.specs.Unfinished.{Unfinished, fresh}
use Rattle.wire.specs.Items.{Step, goes, ends, refused, after_limit, next, answer_to}
use Rattle.wire.specs.Stream.{items_of}
use Rattle.wire.specs.Texts.{written_run, noop}
use Rattle.wire.specs.Offers.{offer_of}
use Rattle.wire.specs.Reader.{Reader, Took, state, outputs, takes, ReadsPieces}
use Rattle.wire.specs.Limits.{max_message}

-- A whole item of a stream: the bytes that open it, a no-op, a message, or the header that takes a message past the limit.
pub data Item : Type 0 where
  Opening : List ℕ → Item
  Noop : Item
  Message : List ℕ → Item
  TooBig : Item

-- the item that ends with a chunk of no bytes
abbrev pub item_at_end : List ℕ → Item
item_at_end [] = Noop
item_at_end (x ∷ xs) = Message (x ∷ xs)

-- what is unfinished after a byte, by what the byte does
abbrev pub after_step : Step → Unfinished
after_step (goes s) = s
after_step (ends body) = fresh
after_step (refused body) = after_limit body

-- the item that a byte completes, by what the byte does
abbrev pub item_at : Step → Option Item
item_at (goes s) = None
item_at (ends body) = Some (item_at_end body)
item_at (refused body) = Some TooBig

-- Chunks. Nothing is read once a message was refused.
abbrev pub chunks : Reader Unfinished Item
chunks = record {
  start = fresh;
  byte = λ s b. after_step (next s b);
  item = λ s b. if s.too_big then None else item_at (next s b);
}

-- What is kept of an opened stream: some of the bytes that open it, or an unfinished item.
pub data Opened : Type 0 where
  opening : List ℕ → Opened
  reading : Unfinished → Opened

-- what is kept after one byte more of a stream that k bytes open
abbrev pub opened_byte : ℕ → Opened → ℕ → Opened
opened_byte k (opening bytes) b =
    if length bytes + 1 == k then reading fresh else opening (bytes ++ b ∷ [])
opened_byte k (reading s) b = reading (chunks.byte s b)

-- the item that one byte more completes, of a stream that k bytes open
abbrev pub opened_item : ℕ → Opened → ℕ → Option Item
opened_item k (opening bytes) b =
    if length bytes + 1 == k then Some (Opening (bytes ++ b ∷ [])) else None
opened_item k (reading s) b = chunks.item s b

-- k bytes open the stream, and chunks follow
abbrev pub opening_reader : ℕ → Reader Opened Item
opening_reader k = record { start = opening []; byte = opened_byte k; item = opened_item k }

-- how a server reads: the 20 bytes of an offer, and then chunks
abbrev pub at_server : Reader Opened Item
at_server = opening_reader 20

-- how a client reads: the 4 bytes of a version answer, and then chunks
abbrev pub at_client : Reader Opened Item
at_client = opening_reader 4

-- the items that a client's bytes complete at a server, the oldest first
abbrev pub items_received : List ℕ → List Item
items_received bytes = outputs at_server at_server.start bytes

-- the items that a server's bytes complete at a client, the oldest first
abbrev pub items_heard : List ℕ → List Item
items_heard bytes = outputs at_client at_client.start bytes

-- the bytes of an item
abbrev pub item_bytes : Item → List ℕ
item_bytes (Opening bytes) = bytes
item_bytes Noop = noop
item_bytes (Message m) = written_run m
item_bytes TooBig = []

-- the bytes of all, in order
abbrev pub bytes_in_order : {X : Type 0} → (X → List ℕ) → List X → List ℕ
bytes_in_order text [] = []
bytes_in_order text (x ∷ xs) = text x ++ bytes_in_order text xs

-- the first of them, as many as lie whole in the first n bytes of all in order
abbrev pub within : {X : Type 0} → (X → List ℕ) → ℕ → List X → List X
within text n [] = []
within text n (x ∷ xs) =
    if nat_le (length (text x)) n then x ∷ within text (n - length (text x)) xs else []

-- the bytes of all, the oldest's first, of a list with the newest first
abbrev pub bytes_newest_first : {X : Type 0} → (X → List ℕ) → List X → List ℕ
bytes_newest_first text [] = []
bytes_newest_first text (x ∷ xs) = bytes_newest_first text xs ++ text x

-- the oldest of them, as many as lie whole in the first n bytes, with the newest first still
abbrev pub within_newest_first : {X : Type 0} → (X → List ℕ) → ℕ → List X → List X
within_newest_first text n [] = []
within_newest_first text n (x ∷ xs) =
    if nat_le (length (bytes_newest_first text (x ∷ xs))) n then x ∷ xs
    else within_newest_first text n xs

-- a no-op, or a message that may be written
abbrev pub CanCome : Item → Type 0
CanCome (Opening bytes) = ⊥
CanCome Noop = Unit {0}
CanCome (Message m) = (0 < length m) × (length m ≤ max_message)
CanCome TooBig = ⊥

-- each of the items may come after what opens a stream
abbrev pub AllCome : List Item → Type 0
AllCome [] = Unit {0}
AllCome (x ∷ xs) = CanCome x × AllCome xs

-- the newest first: k bytes that open the stream, and after them what may come
abbrev pub Spoken : ℕ → List Item → Type 0
Spoken k [] = ⊥
Spoken k (Opening bytes ∷ xs) = (length bytes ≡ k) × (xs ≡ [])
Spoken k (Noop ∷ xs) = Spoken k xs
Spoken k (Message m ∷ xs) = CanCome (Message m) × Spoken k xs
Spoken k (TooBig ∷ xs) = ⊥

-- Of every front of what opens a stream and what follows, the items are those whose bytes lie whole in it.
abbrev pub FramesFronts : Type 0
FramesFronts = (k : ℕ) (start : List ℕ) (xs : List Item) (n : ℕ) → 0 < k → length start ≡ k
    → AllCome xs
    → outputs (opening_reader k) (opening_reader k).start
    (take n (start ++ bytes_in_order item_bytes xs))
    ≡ (if nat_le k n then Opening start ∷ within item_bytes (n - k) xs else [])

-- each is a message that may be written
abbrev pub AreMessages : List (List ℕ) → Type 0
AreMessages [] = Unit {0}
AreMessages (m ∷ ms) = CanCome (Message m) × AreMessages ms

-- Of every front of what a client sends, a server's items are those whose bytes lie whole in it.
abbrev pub OursArrives : Type 0
OursArrives = (wish : Wish) (ms : List (List ℕ)) (n : ℕ) → AreMessages ms
    → items_received (take n (offer_of wish ++ bytes_in_order written_run ms))
    ≡ (if nat_le (length (offer_of wish)) n then
    Opening (offer_of wish) ∷ map Message
    (within written_run (n - length (offer_of wish)) ms) else [])

-- what a server of this product says is told with the newest first: so reversed, the items of every front of its bytes are those that
-- lie whole in it
abbrev pub SaidArrives : Type 0
SaidArrives = (xs : List Item) (n : ℕ) → Spoken 4 xs
    → reverse (items_heard (take n (bytes_newest_first item_bytes xs)))
    ≡ within_newest_first item_bytes n xs

-- a piece's answer as what a reader takes
abbrev pub item_in : Piece → Option Item
item_in piece.Nothing = None
item_in piece.Noop = Some Noop
item_in (piece.Message m) = Some (Message m)

-- the answer of a feed, and what is unfinished then, as what a reader takes
abbrev pub took_by : Result Fed WireFault → Unfinished → Took Unfinished Item
took_by (Ok fed) rest = record { used = fed.used; item = item_in fed.what; rest = rest }
took_by (Err (fault.TooBig used)) rest = record { used = used; item = Some TooBig; rest = rest }
took_by (Err fault.Memory) rest = record { used = 0; item = None; rest = rest }

-- What a feed answers is what the reader of chunks takes, if no message was refused.
abbrev pub AnswersTake : Type 0
AnswersTake = (s : Unfinished) (bytes : List ℕ) → s.too_big ≡ false
    → takes chunks s bytes ≡ took_by (answer_to s bytes).answer (answer_to s bytes).rest

-- the items that a stream's pieces are
abbrev pub arrivals : List Piece → List Item
arrivals [] = []
arrivals (p ∷ ps) = option_to_list (item_in p) ++ arrivals ps

-- the header past the limit as an item, if a message was refused
abbrev pub refusal : Unfinished → List Item
refusal s = if s.too_big then TooBig ∷ [] else []

-- The reader of chunks completes the items of the stream.
abbrev pub ReadsItems : Type 0
ReadsItems = (bytes : List ℕ)
    → (outputs chunks fresh bytes
    ≡ arrivals (items_of fresh bytes).items ++ refusal (items_of fresh bytes).rest)
    × (state chunks fresh bytes ≡ (items_of fresh bytes).rest)

-- Both readers, and that of chunks, read pieces as every reader does.
abbrev pub ReadersRead : Type 0
ReadersRead = ReadsPieces Unfinished Item chunks
    × ((k : ℕ) → ReadsPieces Opened Item (opening_reader k))
