-- How bytes pass over the ways of a loop.
use Rattle.std.specs.Prelude.{◌≡◌, ◌⊎◌, ◌≤◌, ℕ, ◌+◌, Bool, true, List, length, Option}
use Rattle.std.specs.Io.KnownBytes.{Appends, Consumes, IsAtEnd}
use Rattle.cli_sessions.specs.Ways.{Way, Ways}

-- a source gives no more: it has failed, or nothing is left of it
abbrev pub GivesNoMore : Bool → Option (List ℕ) → Type 0
GivesNoMore failed left = (failed ≡ true) ⊎ IsAtEnd left

-- it gave some bytes, so many at most
abbrev pub GivesSome : Option (List ℕ) → Option (List ℕ) → ℕ → Type 0
GivesSome left left_now most =
    (bytes : List ℕ) × Consumes left left_now bytes × (length bytes ≤ most)

-- The sink took these bytes, and the source gave them.
pub record Passes (before after : Way) (bytes : List ℕ) : Type 0 where
  pub took : Appends before.taken after.taken bytes
  pub gave : Consumes before.left after.left bytes

-- The source gave other bytes than the sink took.
pub record Alters (before after : Way) : Type 0 where
  pub written : List ℕ
  pub read : List ℕ
  pub took : Appends before.taken after.taken written
  pub gave : Consumes before.left after.left read
  pub other : read ≡ written → ⊥

-- a way breaks at its source: that has failed or gives no more, or gave other bytes than were written
abbrev pub BreaksAtSource : Way → Way → Type 0
BreaksAtSource before after = GivesNoMore after.read_failed after.left ⊎ Alters before after

-- one of the ways does
abbrev pub FailsToRead : Ways → Ways → Type 0
FailsToRead before after = BreaksAtSource before.up after.up ⊎ BreaksAtSource before.down after.down

-- a sink has failed
abbrev pub FailsToWrite : Ways → Type 0
FailsToWrite now =
    (now.up.write_failed ≡ true) ⊎ (now.down.write_failed ≡ true) ⊎ (now.out_failed ≡ true)

-- So many bytes are known to wait at a source: the sink at the other end took as many more than were read, since the way was so.
pub record AreWaiting (start : Way) (taken left : Option (List ℕ)) (count : ℕ) : Type 0 where
  pub written : List ℕ
  pub read : List ℕ
  pub took : Appends start.taken taken written
  pub gave : Consumes start.left left read
  pub enough : length read + count ≤ length written

-- A source lets itself be read of bytes that are known to wait.
abbrev pub LetsReadWaiting : {S : Type 0} → (S → Option (List ℕ))
    → (S → Option (List ℕ) → ℕ → Type 0) → Way → Type 0
LetsReadWaiting {S = S} left may_read start =
    (s : S) (taken : Option (List ℕ)) (count : ℕ) → AreWaiting start taken (left s) count
    → may_read s taken count

-- the sources of both ways do
abbrev pub LetBothRead : {S T : Type 0} → (S → Option (List ℕ))
    → (S → Option (List ℕ) → ℕ → Type 0) → (T → Option (List ℕ))
    → (T → Option (List ℕ) → ℕ → Type 0) → Ways → Type 0
LetBothRead near may_near far may_far start =
    LetsReadWaiting near may_near start.down × LetsReadWaiting far may_far start.up
