-- Streams of chunks as a grammar ("Bolt message chunking"): a run of chunks is a message, and two zero bytes between messages are a no-op.
use Rattle.std.specs.Prelude.{◌≡◌, ℕ, ◌+◌, ◌*◌, ◌^◌, ◌<◌, ◌≤◌, List, [], ◌∷◌, ◌++◌, length, take}
use Rattle.std.specs.List.{flat_map}
use Rattle.wire.specs.Texts.{chunk_of, run_of}
use Rattle.wire.specs.Limits.{max_message}

-- bytes are numbers below 256
abbrev pub AreBytes : List ℕ → Type 0
AreBytes [] = Unit {0}
AreBytes (b ∷ bs) = (b < 256) × AreBytes bs

-- a chunk's data: from one byte to 65,535
abbrev pub FillsChunk : List ℕ → Type 0
FillsChunk c = (0 < length c) × (length c < 2 ^ 16)

-- Chunks that may come. A run of no chunks is a no-op.
abbrev pub AreChunks : List (List ℕ) → Type 0
AreChunks [] = Unit {0}
AreChunks (c ∷ cs) = FillsChunk c × AreChunks cs

-- the data of chunks, in order
abbrev pub body_of : List (List ℕ) → List ℕ
body_of chunks = flat_map (λ c. c) chunks

-- a run, or a no-op: chunks that may come, and at most 65,536 bytes of data
abbrev pub MayRun : List (List ℕ) → Type 0
MayRun run = AreChunks run × (length (body_of run) ≤ max_message)

-- each is a run or a no-op
abbrev pub AreRuns : List (List (List ℕ)) → Type 0
AreRuns [] = Unit {0}
AreRuns (run ∷ runs) = MayRun run × AreRuns runs

-- the messages of runs
abbrev pub messages_of : List (List (List ℕ)) → List (List ℕ)
messages_of [] = []
messages_of ([] ∷ runs) = messages_of runs
messages_of ((c ∷ cs) ∷ runs) = body_of (c ∷ cs) ∷ messages_of runs

-- every chunk but the last has so many bytes
abbrev pub AreLong : ℕ → List (List ℕ) → Type 0
AreLong most [] = Unit {0}
AreLong most (c ∷ []) = Unit {0}
AreLong most (c ∷ (d ∷ ds)) = (length c ≡ most) × AreLong most (d ∷ ds)

-- The bytes are one run, of this message, and every chunk but the last has so many bytes.
pub record IsRun (most : ℕ) (m bytes : List ℕ) : Type 0 where
  pub chunks : List (List ℕ)
  pub good : AreChunks chunks
  pub body : body_of chunks ≡ m
  pub long : AreLong most chunks
  pub whole : bytes ≡ run_of chunks

-- The bytes are a concatenation of no-ops and runs, and these are the messages, each of at most 65,536 bytes.
pub record Texts (ms : List (List ℕ)) (bytes : List ℕ) : Type 0 where
  pub runs : List (List (List ℕ))
  pub sound : AreRuns runs
  pub messages : ms ≡ messages_of runs
  pub whole : bytes ≡ flat_map run_of runs

-- These are the messages of the longest front of the bytes that some Texts covers.
pub record IsWhole (ms : List (List ℕ)) (bytes : List ℕ) : Type 0 where
  pub front : ℕ
  pub within : front ≤ length bytes
  pub texts : Texts ms (take front bytes)
  pub longest : (n : ℕ) (others : List (List ℕ)) → n ≤ length bytes → Texts others (take n bytes)
      → n ≤ front

-- After no-ops and runs, and chunks of one message more, comes a header that takes that message past 65,536 bytes.
pub record IsPast (bytes : List ℕ) : Type 0 where
  pub runs : List (List (List ℕ))
  pub chunks : List (List ℕ)
  pub high : ℕ
  pub low : ℕ
  pub more : List ℕ
  pub sound : AreRuns runs
  pub good : AreChunks chunks
  pub whole : bytes ≡ flat_map run_of runs ++ (flat_map chunk_of chunks ++ high ∷ low ∷ more)
  pub held : length (body_of chunks) ≤ max_message
  pub past : max_message < length (body_of chunks) + (high * 256 + low)
