-- What is printed of an end.
use Rattle.server_session.specs.declared.kinds.Cause.{Cause}
use Rattle.server_event_loop.specs.declared.line.Parting.{Parting}
use Rattle.server_event_loop.specs.declared.line.Parting.TheVariants.{Whole, Cut}

-- the cause of an end, whether or not all that the session had said was taken out
abbrev pub cause_of : Parting → Cause
cause_of (Whole cause) = cause
cause_of (Cut cause) = cause
