-- Why a program stops before its lines end, and how it ends.
use Rattle.std.specs.Prelude.{◌≡◌, ℕ, Bool, false, List, [], ◌∷◌, ◌++◌, codes, Option, Some, None, IfSome}
use Rattle.std.specs.Fmt.{decimal}
use Rattle.std.specs.Io.KnownBytes.{Appends}
use Rattle.streams.specs.declared.fault.StreamFault.TheVariants.{ReadFailed, WriteFailed, Memory}
use Rattle.cli_output.specs.declared.stop.StopReason.{StopReason}
use Rattle.cli_output.specs.declared.stop.StopReason.TheVariants.{Unreadable, Broken}

-- 2 for a line that can't be read, 1 for a stream that has failed, 3 for want of memory
abbrev pub stop_status : StopReason → ℕ
stop_status (Unreadable n) = 2
stop_status (Broken ReadFailed) = 1
stop_status (Broken WriteFailed) = 1
stop_status (Broken Memory) = 3

-- why a program stops: the number of a line, from 1, and then what is expected there; or the code of a fault
abbrev pub stop_text : StopReason → List ℕ
stop_text (Unreadable n) = codes "line " ++ decimal n
    ++ codes " unreadable\nexpected hello, logon [bad], logoff, goodbye, reset, run TEXT HEX [r] [token T], begin [r] [token T], commit, rollback, discard N or pull N\n"
stop_text (Broken ReadFailed) = codes "fault I1" ++ 10 ∷ []
stop_text (Broken WriteFailed) = codes "fault I2" ++ 10 ∷ []
stop_text (Broken Memory) = codes "fault I3" ++ 10 ∷ []

-- A stream is told to have failed only if one of them has: the sources, and the sinks.
abbrev pub IsStopOf : StopReason → Type 0 → Type 0 → Type 0
IsStopOf (Unreadable n) read written = Unit {0}
IsStopOf (Broken ReadFailed) read written = read
IsStopOf (Broken WriteFailed) read written = written
IsStopOf (Broken Memory) read written = Unit {0}

-- the status with which a program ends: 0, or that of why it stops
abbrev pub ends_with : Option StopReason → ℕ
ends_with None = 0
ends_with (Some stop) = stop_status stop

-- what is said on standard error: nothing, or why the program stops
abbrev pub said_of : Option StopReason → List ℕ
said_of None = []
said_of (Some stop) = stop_text stop

-- a status with which the program may end, and what standard error got then, unless it failed
pub record Ends (status : ℕ) (read written : Type 0) (err_failed : Bool)
    (before after : Option (List ℕ)) : Type 0 where
  pub stop : Option StopReason
  pub ends : status ≡ ends_with stop
  pub cause : IfSome stop (λ s. IsStopOf s read written)
  pub text : err_failed ≡ false → Appends before after (said_of stop)

-- Standard error got a text, unless it has failed by then.
abbrev pub Gets : Bool → Bool → Option (List ℕ) → Option (List ℕ) → List ℕ → Type 0
Gets had_failed has_failed before after text =
    has_failed ≡ false → (had_failed ≡ false) × Appends before after text
