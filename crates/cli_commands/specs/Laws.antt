-- Laws of answers, of checks and of words.
use Rattle.std.specs.Prelude.{◌≡◌, ℕ, List, true, IsErr, string_bytes}
use Rattle.packstream.specs.Plain.{AreBytes}
use Rattle.wire.specs.declared.Version.{Version}
use Rattle.server_blocking.specs.declared.response.End.{End}
use Rattle.cli_commands.specs.declared.checks.Checked.{Checked}
use Rattle.cli_commands.specs.declared.checks.Checked.TheVariants.{Fine, Refused, Unfit}
use Rattle.cli_commands.specs.Asked.{Text, has_flag, asked_words}
use Rattle.cli_commands.specs.Answers.{Answers}
use Rattle.cli_commands.specs.Checks.{Checks}

-- of bytes one thing is put out, and a session stands in one way after them
abbrev pub HasOneAnswer : Type 0
HasOneAnswer = (b o p : List ℕ) (l m : End) → Answers b o l → Answers b p m → (o ≡ p) × (l ≡ m)

-- the same text, or the same fault in the same place
abbrev pub IsSameCheck : Checked → Checked → Type 0
IsSameCheck (Fine hex) (Fine text) = string_bytes hex ≡ string_bytes text
IsSameCheck (Refused r o) (Refused q p) = (r ≡ q) × (o ≡ p)
IsSameCheck (Unfit r k) (Unfit q j) = (r ≡ q) × (k ≡ j)
IsSameCheck c d = ⊥

-- of bytes a check tells one thing at a version
abbrev pub HasOneCheck : Type 0
HasOneCheck = (v : Version) (b : List ℕ) (c d : Checked) → AreBytes b → Checks v b c → Checks v b d
    → IsSameCheck c d

-- no command has a flag
abbrev pub FlagsAreWrong : Type 0
FlagsAreWrong = (words : List Text) → has_flag words ≡ true → IsErr (asked_words words)
