-- What is said of the reason for which a server over sockets ends.
use Rattle.std.specs.Prelude.{◌≡◌, ◌⊎◌, ℕ, List, [], ◌∷◌, ◌++◌, codes}
use Rattle.std.specs.Fmt.{decimal}
use Rattle.cli_output.specs.Escaping.{escaped}
use Rattle.cli_serve.specs.declared.reasons.Reason.{Reason}
use Rattle.cli_serve.specs.declared.reasons.Reason.TheVariants as reason

-- the exit status of a reason: 3 for want of memory, else 1
abbrev pub reason_status : Reason → ℕ
reason_status (reason.Unbound e) = 1
reason_status (reason.Unwaited e) = 1
reason_status reason.OutputFailed = 1
reason_status reason.Memory = 3

-- the fault by which a reason is told, on a line
abbrev pub fault_line : Reason → List ℕ
fault_line (reason.Unbound e) = codes "fault I1" ++ 10 ∷ []
fault_line (reason.Unwaited e) = codes "fault I1" ++ 10 ∷ []
fault_line reason.OutputFailed = codes "fault I2" ++ 10 ∷ []
fault_line reason.Memory = codes "fault I3" ++ 10 ∷ []

-- a host and a port: the host is a word of the command line, and escaped
abbrev pub place_name : List ℕ → ℕ → List ℕ
place_name host port = escaped host ++ codes " port " ++ decimal port

-- what the system said, behind a name, on a line
abbrev pub IsErrorOf : List ℕ → List ℕ → Type 0
IsErrorOf name words = (own : List ℕ) × (words ≡ name ++ codes ": " ++ own ++ 10 ∷ [])

-- what is said beside the fault: nothing, or what the system said
abbrev pub IsSaidOf : List ℕ → ℕ → Reason → List ℕ → Type 0
IsSaidOf host port (reason.Unbound e) words = IsErrorOf (place_name host port) words
IsSaidOf host port (reason.Unwaited e) words = IsErrorOf (codes "the connections") words
IsSaidOf host port reason.OutputFailed words = words ≡ []
IsSaidOf host port reason.Memory words = words ≡ []

-- The fault, and behind it what the system said; that may be missing, for want of memory.
abbrev pub IsTold : List ℕ → ℕ → Reason → List ℕ → Type 0
IsTold host port why text = (words : List ℕ) × ((words ≡ []) ⊎ IsSaidOf host port why words)
    × (text ≡ fault_line why ++ words)
