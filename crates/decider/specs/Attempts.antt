-- The attempt that a caller waits for, in the models of servers.
use Rattle.std.specs.Prelude.{Bool, true, false}

-- There is none; it was sent, and its COMMIT isn't processed; its COMMIT is processed, and it has committed or not.
pub data Attempt : Type 0 where
  Idle : Attempt
  Waiting : Attempt
  Done : Bool → Attempt

-- it has not committed
abbrev pub HasNot : Attempt → Type 0
HasNot (Attempt.Done true) = ⊥
HasNot a = Unit {0}

-- its COMMIT may yet be processed
abbrev pub is_waiting : Attempt → Bool
is_waiting Attempt.Waiting = true
is_waiting a = false
