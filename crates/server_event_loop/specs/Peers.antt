-- What reads and writes do to the bytes of a connection.
use Rattle.std.specs.Prelude.{◌≡◌, ◌+◌, ◌≤◌, ℕ, List, length, take, Option, Result, Ok, Err}
use Rattle.std.specs.Io.KnownBytes.{Appends}
use Rattle.server_event_loop.specs.declared.peers.Failed.{Failed}
use Rattle.server_event_loop.specs.declared.peers.Got.{Got}
use Rattle.server_event_loop.specs.declared.peers.Got.TheVariants.{Bytes}

-- the bytes that were read of a connection and those that were written to it, if they are known, and how often either was tried
pub record Wire : Type 0 where
  pub heard : Option (List ℕ)
  pub told : Option (List ℕ)
  pub asked : ℕ

-- how many bytes were read
abbrev pub got_count : Result Got Failed → ℕ
got_count (Ok (Bytes n)) = n
got_count _ = 0

-- how many bytes were written
abbrev pub told_count : Result ℕ Failed → ℕ
told_count (Ok n) = n
told_count (Err e) = 0

-- One read: so many bytes came, into the front of the buffer.
pub record Hears (old new : Wire) (n : ℕ) (buffer : List ℕ) : Type 0 where
  pub within : n ≤ length buffer
  pub heard : Appends old.heard new.heard (take n buffer)
  pub told : new.told ≡ old.told
  pub once : new.asked ≤ old.asked + 1

-- One write: so many bytes went, of the front.
pub record Tells (old new : Wire) (n : ℕ) (bytes : List ℕ) : Type 0 where
  pub within : n ≤ length bytes
  pub told : Appends old.told new.told (take n bytes)
  pub heard : new.heard ≡ old.heard
  pub once : new.asked ≤ old.asked + 1
