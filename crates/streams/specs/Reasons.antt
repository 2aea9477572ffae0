-- Why a stream over the standard library has failed.
use Rattle.std.specs.Prelude.{◌≢◌}
use Rattle.std.specs.IoError.{error_kind}
use Rattle.std.specs.declared.io.Error.{Error}
use Rattle.std.specs.declared.io.ErrorKind.TheVariants.{Interrupted}

-- it isn't that a signal came: such a call is made again
abbrev pub IsReason : Error → Type 0
IsReason e = error_kind e ≢ Interrupted
