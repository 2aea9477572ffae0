-- What reading a line answers.
use Rattle.std.specs.Prelude.{◌≡◌, Option, Some, None, Result, Ok, Err}
use Rattle.cli_scripts.specs.declared.fault.LineFault.{LineFault}
use Rattle.cli_scripts.specs.declared.fault.LineFault.TheVariants.{Unreadable, Memory}

-- the words say nothing if they are unreadable; nothing is known if memory ran out
abbrev pub Refused : {Y : Type 0} → LineFault → Option Y → Type 0
Refused Unreadable o = o ≡ None
Refused Memory o = Unit {0}

-- what was returned, seen by view, is what the words say, or a fault is
abbrev pub Gives : {X Y : Type 0} → (X → Y) → Result X LineFault → Option Y → Type 0
Gives view (Ok x) o = o ≡ Some (view x)
Gives view (Err e) o = Refused e o
