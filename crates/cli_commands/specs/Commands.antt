-- What a command says.
use Rattle.std.specs.Prelude.{◌≡◌, ◌⊎◌, ℕ, List, [], ◌∷◌, ◌++◌, string_bytes, codes, IsErr}
use Rattle.hex.specs.Hex.{decode_of}
use Rattle.std.specs.Fmt.{decimal}
use Rattle.packstream.specs.declared.fault.Reason.{Reason as PackReason}
use Rattle.packstream.specs.declared.fault.Reason.TheVariants as pack
use Rattle.wire.specs.declared.Version.{Version}
use Rattle.structures_cells.specs.declared.fault.Reason.{Reason}
use Rattle.structures_cells.specs.declared.fault.Reason.TheVariants.{UnknownTag, FieldCount, FieldKind, Range, PathShape, NotInVersion}
use Rattle.cli_commands.specs.declared.commands.Said.{Said}
use Rattle.cli_commands.specs.declared.checks.Checked.{Checked}
use Rattle.cli_commands.specs.declared.checks.Checked.TheVariants.{Fine, Refused, Unfit}
use Rattle.server_blocking.specs.declared.response.End.{End}
use Rattle.server_blocking.specs.declared.response.End.TheVariants.{Live, Over}
use Rattle.machine.specs.declared.states.State.{State}
use Rattle.server_session.specs.declared.kinds.Cause.{Cause}
use Rattle.cli_commands.specs.Hexadecimal.{AnswersHex}
use Rattle.cli_commands.specs.Checks.{ChecksHex}

-- a state as it is printed: `state`, and its name
abbrev pub state_words : State → List ℕ
state_words State.Fresh = codes "state Fresh"
state_words State.Unauth = codes "state Unauth"
state_words State.Ready = codes "state Ready"
state_words State.Streaming = codes "state Streaming"
state_words State.TxReady = codes "state TxReady"
state_words State.TxStreaming = codes "state TxStreaming"
state_words State.Failed = codes "state Failed"
state_words State.Interrupted = codes "state Interrupted"
state_words State.Defunct = codes "state Defunct"

-- a cause as it is printed: `ended`, and its code, E1 to E8
abbrev pub cause_words : Cause → List ℕ
cause_words Cause.BadMagic = codes "ended E1"
cause_words Cause.NoVersion = codes "ended E2"
cause_words Cause.TooBig = codes "ended E3"
cause_words Cause.Malformed = codes "ended E4"
cause_words Cause.Invalid = codes "ended E5"
cause_words Cause.AuthRefused = codes "ended E6"
cause_words Cause.Goodbye = codes "ended E7"
cause_words Cause.Lost = codes "ended E8"

-- how a session stands
abbrev pub end_words : End → List ℕ
end_words (Live state) = state_words state
end_words (Over cause) = cause_words cause

-- on standard output and standard error, with this status
pub record Says (out err : List ℕ) (status : ℕ) (s : Said) : Type 0 where
  pub output : string_bytes s.out ≡ out
  pub errors : s.err.items ≡ err
  pub ends : s.status ≡ status

-- that a text isn't hex of whole bytes: I4 on standard error, with status 2
abbrev pub IsBadHex : Said → Type 0
IsBadHex s = Says [] (codes "fault I4" ++ 10 ∷ []) 2 s

-- the answer on a line, and how the session stands on the next; or that the text isn't hex of whole bytes
abbrev pub SaysAnswer : List ℕ → Said → Type 0
SaysAnswer text s =
    (IsErr (decode_of text) × IsBadHex s)
    ⊎ ((hex : List ℕ) × (last : End) × AnswersHex text hex last
    × Says (hex ++ 10 ∷ [] ++ end_words last ++ 10 ∷ []) [] 0 s)

-- the codes of what is wrong with a value
abbrev pub pack_code_of : PackReason → List ℕ
pack_code_of pack.Short = codes "P1"
pack_code_of pack.Marker = codes "P2"
pack_code_of pack.Utf8 = codes "P3"
pack_code_of pack.KeyKind = codes "P4"
pack_code_of pack.KeyTwice = codes "P5"
pack_code_of pack.Depth = codes "P6"
pack_code_of pack.Trailing = codes "P7"
pack_code_of pack.Size = codes "P9"

-- the codes of what is wrong with a structure
abbrev pub cell_code_of : Reason → List ℕ
cell_code_of UnknownTag = codes "S1"
cell_code_of FieldCount = codes "S2"
cell_code_of FieldKind = codes "S3"
cell_code_of Range = codes "S4"
cell_code_of PathShape = codes "S5"
cell_code_of NotInVersion = codes "S6"

-- a refusal on a line, with status 1
abbrev pub SaysRefused : List ℕ → ℕ → Said → Type 0
SaysRefused code place s =
    Says (codes "refused " ++ code ++ codes " at " ++ decimal place ++ 10 ∷ []) [] 1 s

-- the shortest spelling on a line, or a refusal with its code and its place
abbrev pub SaysChecked : Checked → Said → Type 0
SaysChecked (Fine hex) s = Says (codes "ok " ++ string_bytes hex ++ 10 ∷ []) [] 0 s
SaysChecked (Refused r o) s = SaysRefused (pack_code_of r) o s
SaysChecked (Unfit r k) s = SaysRefused (cell_code_of r) k s

-- the check of the bytes of a text at a version; or that the text isn't hex of whole bytes
abbrev pub SaysCheck : Version → List ℕ → Said → Type 0
SaysCheck v text s = (IsErr (decode_of text) × IsBadHex s)
    ⊎ ((c : Checked) × ChecksHex v text c × SaysChecked c s)
