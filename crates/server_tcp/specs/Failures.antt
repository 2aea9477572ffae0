-- What the failure of an accept means for those who wait.
use Rattle.std.specs.declared.io.ErrorKind.{ErrorKind}
use Rattle.std.specs.declared.io.ErrorKind.TheVariants.{WouldBlock, Interrupted, ConnectionAborted, ConnectionReset, NetworkDown, NetworkUnreachable, HostUnreachable, TimedOut, PermissionDenied}
use Rattle.server_tcp.specs.declared.failures.Refusal.{Refusal}
use Rattle.server_tcp.specs.declared.failures.Refusal.TheVariants.{Nobody, Next, Later}

-- Nobody waits where the accept would wait. The next may be tried where the network failed for the one who waited (accept(2), "Error
-- handling"), or if a signal came. For every other failure somebody waits still.
abbrev pub refusal_of : ErrorKind → Refusal
refusal_of WouldBlock = Nobody
refusal_of Interrupted = Next
refusal_of ConnectionAborted = Next
refusal_of ConnectionReset = Next
refusal_of NetworkDown = Next
refusal_of NetworkUnreachable = Next
refusal_of HostUnreachable = Next
refusal_of TimedOut = Next
refusal_of PermissionDenied = Next
refusal_of _ = Later
